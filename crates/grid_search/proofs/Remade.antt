-- A good sheet is the very one that its settings give (`sheet-is`), and what `new` makes is good (`made-good`).
-- Assumes nothing.
use Prim.Native.Nat.{ℕ, zero, suc}
use native.Mathlib.Omega.{arith}
use mathlib.Core.Path.{◌≡◌, refl, sym, ap, ◌∙◌, subst}
use mathlib.Core.Logic.{inl, inr}
use mathlib.Core.Bool.{true}
use mathlib.Core.List.{List, [], ◌∷◌, map}
use mathlib.Core.Option.{Option, none, some}
use lib.ListN.{length, get_or, take}
use lib.Ieee.{Float, binary64, fits, lt}
use lib.Ieee.Fits.{add-fits, sub-fits, mul-fits, div-fits}
use borrow.Author.Tests.{eq-eqb}
use Rattle.basics.proofs.Bools.{by_test, both, and_left, and_right, and_both}
use Rattle.basics.specs.Lists.{all, zip_with, fold_from}
use Rattle.basics.specs.Refusals.{fault, success, answer}
use Rattle.floats.specs.Rounded.{◌⊖◌, ◌⊗◌, ◌⊘◌, of_nat, zero_f, pow2}
use Rattle.floats.specs.Tests.{finite, same_bits, max_of, Binary64}
use Rattle.floats.proofs.Choice.{max_either}
use Rattle.floats.proofs.Unique.{same_bits-same, same_bits_self}
use Rattle.floats.proofs.Upto.{upto-finite}
use Rattle.geometry.specs.declared.Position.{Position}
use Rattle.geometry.specs.Position.{coords, position_of}
use Rattle.geometry.proofs.Axes.{coords_of}
use Rattle.grid.specs.declared.Divisions.{Divisions}
use Rattle.grid.specs.Divisions.{num_divisions}
use Rattle.std.specs.Prelude.{Option as Given}
use Rattle.grid_search.specs.declared.GridSearch.{GridSearch}
use Rattle.grid_search.specs.Sheet.{number_of, tolerance_of, border_of, sheet_from, sheet_tests, new_sheet, same_position, same_divisions, same_sheet, sheet_ok, lowered, raised, largest, side_of, covered_of, diagonal}
use Rattle.grid_search.proofs.Sizes.{sized_finite, coordinates_sized, finite_number}
use Rattle.grid_search.proofs.OfSettings.{tests_passed, xmin_from, xmax_from, of_settings}
use Rattle.grid_search.proofs.Good.{low_of, high_of, rebuilt, remade, kept, same_fields, good}

-- ---- a good sheet is the one that its settings give
pub record HeldPosition (p : Position) : Type 0 where
  pub x : Binary64 p.x
  pub y : Binary64 p.y
  pub z : Binary64 p.z

-- binary64 holds its floats
pub record HeldSheet (s : GridSearch) : Type 0 where
  pub low : HeldPosition s.low
  pub high : HeldPosition s.high
  pub xmin : HeldPosition s.xmin
  pub xmax : HeldPosition s.xmax
  pub side : Binary64 s.side_length
  pub near : Binary64 s.tol_dist
  pub radius : Binary64 s.radius

same_positions : (p q : Position) → HeldPosition p → HeldPosition q → same_position p q ≡ true → p ≡ q
unfolding same_position
same_positions p q h k e =
    let a = and_both (same_bits p.x q.x) _ e in
    let b = and_both (same_bits p.y q.y) (same_bits p.z q.z) a.1 in
    rw (same_bits-same p.x q.x h.x k.x a.0, same_bits-same p.y q.y h.y k.y b.0, same_bits-same p.z q.z h.z k.z b.1)

abbrev HeldList : List Float → Type 0
HeldList [] = Unit {0}
HeldList (x ∷ xs) = Binary64 x × HeldList xs

held-entry : (xs : List Float) (i : ℕ) → HeldList xs → Binary64 (get_or xs i zero_f)
unfolding fits
held-entry [] i h = tt
held-entry (x ∷ xs) zero h = h.0
held-entry (x ∷ xs) (suc i) h = held-entry xs i h.1

held_position : (xs : List Float) → HeldList xs → HeldPosition (position_of xs)
held_position xs h = record { x = held-entry xs 0 h; y = held-entry xs 1 h; z = held-entry xs 2 h }

held-take : (n : ℕ) (xs : List Float) → HeldList xs → HeldList (take n xs)
held-take zero xs h = tt
held-take (suc n) [] h = tt
held-take (suc n) (x ∷ xs) h = (h.0, held-take n xs h.1)

held-coords : (n : ℕ) (p : Position) → HeldPosition p → HeldList (coords n p)
held-coords n p h = held-take n (p.x ∷ p.y ∷ p.z ∷ []) (h.x, (h.y, (h.z, tt)))

held-lowered : (border : Float) (xs : List Float) → HeldList xs → HeldList (lowered border xs)
unfolding lowered
held-lowered border xs h = by_test (lt zero_f border) (λ e. rw e (go xs)) (λ e. rw e h)
  where
    go : (xs : List Float) → HeldList (map (λ (a : Float). a ⊖ border) xs)
    go [] = tt
    go (x ∷ xs) = (sub-fits binary64 x border, go xs)

held_covered : (side : Float) (xs : List Float) (ns : List ℕ) → HeldList (covered_of side xs ns)
unfolding covered_of zip_with
held_covered side [] ns = tt
held_covered side (x ∷ xs) [] = tt
held_covered side (x ∷ xs) (n ∷ ns) = (add-fits binary64 x (side ⊗ of_nat n), held_covered side xs ns)

held-max : (a b : Float) → Binary64 a → Binary64 b → Binary64 (max_of a b)
held-max a b h k = elim (max_either a b) [ inl e ↦ rw e h | inr e ↦ rw e k ]

held-largest : (xs : List Float) → HeldList xs → Binary64 (largest xs)
unfolding largest fits
held-largest [] h = tt
held-largest (x ∷ xs) h = on x xs h.0 h.1
  where
    on : (x : Float) (xs : List Float) → Binary64 x → HeldList xs → Binary64 (fold_from max_of x xs)
    on x [] h k = h
    on x (y ∷ xs) h k = on (max_of x y) xs (held-max x y h k.0) k.1

held-sides : (ds : List Float) (ns : List ℕ) → HeldList (zip_with (λ (d : Float) (n : ℕ). d ⊘ of_nat n) ds ns)
unfolding zip_with
held-sides [] ns = tt
held-sides (d ∷ ds) [] = tt
held-sides (d ∷ ds) (n ∷ ns) = (div-fits binary64 d (of_nat n), held-sides ds ns)

held_side : (xmin xmax : List Float) (ns : List ℕ) → Binary64 (side_of xmin xmax ns)
unfolding side_of
held_side xmin xmax ns =
    let ds = zip_with (λ (b a : Float). b ⊖ a) xmax xmin in
    held-largest (zip_with (λ (d : Float) (n : ℕ). d ⊘ of_nat n) ds ns) (held-sides ds ns)

module _ (s t : GridSearch) where
  pub sheet_ext : s.ndim ≡ t.ndim → s.low ≡ t.low → s.high ≡ t.high → s.number ≡ t.number → s.tolerance ≡ t.tolerance
      → s.border_tol ≡ t.border_tol → s.ndiv ≡ t.ndiv → s.xmin ≡ t.xmin → s.xmax ≡ t.xmax
      → s.side_length ≡ t.side_length → s.tol_dist ≡ t.tol_dist → s.radius ≡ t.radius → s ≡ t
  sheet_ext a b c d e f g h i j k l = rw (a, b, c, d, e, f, g, h, i, j, k, l)

pub sheet-is : (s : GridSearch) → sheet_ok s ≡ true → HeldSheet s → remade s ≡ success s
unfolding sheet_from
sheet-is s ok h =
    let f = same_fields s (rebuilt s) (kept s ok).same in
    let lo = low_of s in
    let hi = high_of s in
    let border = border_of s.border_tol in
    let ns = num_divisions (number_of s.number) lo hi in
    let xmin = lowered border lo in
    let side = side_of xmin (raised border hi) ns in
    let d = diagonal (length lo) in
    let l = held-coords s.ndim s.low h.low in
    (good s ok).made
    ∙ ap success (sym (sheet_ext s (rebuilt s)
    f.ndim
    (same_positions s.low (position_of lo) h.low (held_position lo l) f.low)
    (same_positions s.high (position_of hi) h.high (held_position hi (held-coords s.ndim s.high h.high)) f.high)
    refl
    refl
    refl
    f.ndiv
    (same_positions s.xmin (position_of xmin) h.xmin (held_position xmin (held-lowered border lo l)) f.xmin)
    (same_positions s.xmax (position_of (covered_of side xmin ns)) h.xmax (held_position (covered_of side xmin ns) (held_covered side xmin ns)) f.xmax)
    (same_bits-same s.side_length side h.side (held_side xmin (raised border hi) ns) f.side)
    (same_bits-same s.tol_dist (d ⊗ tolerance_of s.tolerance) h.near (mul-fits binary64 d (tolerance_of s.tolerance)) f.near)
    (same_bits-same s.radius (d ⊗ side ⊘ pow2 1) h.radius (div-fits binary64 (d ⊗ side) (pow2 1)) f.radius)))

-- ---- what `new` makes is good
finite-entry : (xs : List Float) (i : ℕ) → all finite xs ≡ true → finite (get_or xs i zero_f) ≡ true
unfolding all finite
finite-entry [] i h = refl
finite-entry (x ∷ xs) zero h = and_left (finite x) (all finite xs) h
finite-entry (x ∷ xs) (suc i) h = finite-entry xs i (and_right (finite x) (all finite xs) h)

same_self : (x : Float) → finite x ≡ true → same_bits x x ≡ true
same_self x h = same_bits_self x (finite_number x h)

same_position_self : (xs : List Float) → all finite xs ≡ true → same_position (position_of xs) (position_of xs) ≡ true
unfolding same_position
same_position_self xs h =
    both (same_self (get_or xs 0 zero_f) (finite-entry xs 0 h)) (both (same_self (get_or xs 1 zero_f) (finite-entry xs 1 h)) (same_self (get_or xs 2 zero_f) (finite-entry xs 2 h)))

same_divisions_self : (d : Divisions) → same_divisions d d ≡ true
unfolding same_divisions
same_divisions_self d = both (eq-eqb d.x d.x refl) (both (eq-eqb d.y d.y refl) (eq-eqb d.z d.z refl))

success-none : {A : Type 0} (o : Option ℕ) (a b : A) → answer o a ≡ success b → (o ≡ none) × (a ≡ b)
unfolding answer
success-none none a b e = (refl, cc)
success-none (some n) a b e = absurd (let z : ◌≡◌ {A = ℕ} 0 1 = cc in omega arith)

module _ (lo hi : List Float) (number : Given ℕ) (tolerance border : Given Float) where
  build-same : fault (sheet_tests lo hi number tolerance border) ≡ none → same_sheet (sheet_from lo hi number tolerance border) (sheet_from lo hi number tolerance border) ≡ true
  unfolding same_sheet sheet_from
  build-same e =
      let o = of_settings lo hi number tolerance border e in
      let b = sheet_from lo hi number tolerance border in
      both (eq-eqb (length lo) (length lo) refl)
      (both (same_position_self lo (sized_finite 1048576 lo (coordinates_sized lo o.limits.low)))
      (both (same_position_self hi (sized_finite 1048576 hi (coordinates_sized hi o.limits.high)))
      (both (same_divisions_self b.ndiv)
      (both (same_position_self (xmin_from lo hi number tolerance border) (sized_finite 1049600 (xmin_from lo hi number tolerance border) o.xmin))
      (both (same_position_self (xmax_from lo hi number tolerance border) (sized_finite 2150630400 (xmax_from lo hi number tolerance border) o.xmax))
      (both (same_self b.side_length (upto-finite 2099200 b.side_length o.side))
      (both (same_self b.tol_dist (upto-finite 2048 b.tol_dist o.near))
      (same_self b.radius (upto-finite 4198400 b.radius o.radius)))))))))

  build_keeps : fault (sheet_tests lo hi number tolerance border) ≡ none → (low_of (sheet_from lo hi number tolerance border) ≡ lo) × (high_of (sheet_from lo hi number tolerance border) ≡ hi)
  unfolding sheet_from
  build_keeps e =
      let a = tests_passed lo hi number tolerance border e in
      (coords_of (length lo) lo (position_of lo) a.axes refl refl, coords_of (length lo) hi (position_of hi) a.axes a.lengths refl)

  build-good : fault (sheet_tests lo hi number tolerance border) ≡ none → sheet_ok (sheet_from lo hi number tolerance border) ≡ true
  unfolding sheet_ok new_sheet sheet_from
  build-good e =
      let k = build_keeps e in
      rw (k.0, k.1, e) (build-same e)

  pub made-good : (s : GridSearch) → new_sheet lo hi number tolerance border ≡ success s → sheet_ok s ≡ true
  unfolding new_sheet
  made-good s e =
      let p = success-none (fault (sheet_tests lo hi number tolerance border)) (sheet_from lo hi number tolerance border) s e in
      subst (λ (t : GridSearch). sheet_ok t ≡ true) p.1 (build-good p.0)
