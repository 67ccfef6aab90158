-- The index itself: side, divisions and corners of a build that was not refused.
-- Assumes nothing.
use Prim.Native.Nat.{ℕ, suc, ◌^◌, ◌≤◌}
use native.Mathlib.Omega.{arith}
use mathlib.Core.Path.{◌≡◌, refl, sym, ap, ◌∙◌, subst}
use mathlib.Core.Bool.{Bool, true, false, not, ◌&&◌, ◌||◌, true≢false, false≢true}
use mathlib.Core.List.{List, [], ◌∷◌, map}
use lib.Dec.{T, lit≤}
use lib.ListN.{length}
use lib.Ieee.{Float, nan, inf, fin, binary64, lt, le, eq, neg, fits, of_int}
use lib.Ieee.Bits.{is_true}
use lib.Ieee.Fits.{sub-fits}
use lib.Ieee.Exact.{HasValue}
use lib.Ieee.Back.{round_whole}
use borrow.Author.Tests.{not-true}
use Rattle.basics.proofs.Bools.{by_test, both, and_left, and_right, and_both, or_left, or_right}
use Rattle.basics.specs.Lists.{all, zip_with}
use Rattle.floats.specs.Rounded.{◌⊕◌, ◌⊖◌, ◌⊗◌, of_nat, zero_f, pow2, pow2⁻}
use Rattle.floats.specs.Tests.{finite}
use Rattle.floats.proofs.Choice.{within-ends}
use Rattle.floats.proofs.Upto.{Upto, upto-finite, upto_more, upto-within, add-upto, mul-upto, between-upto, nat_upto, unsigned, mul_unsigned}
use Rattle.geometry.specs.Position.{coords, position_of, dimension, coordinate}
use Rattle.geometry.proofs.Axes.{coords_of, entries_of}
use Rattle.grid.specs.Divisions.{counts, division, divisions_of}
use Rattle.grid.proofs.Bounds.{first_of, rest_of}
use Rattle.grid_search.specs.Sheet.{lowered, raised, covered_of, past_limits}
use Rattle.grid_search.proofs.Sizes.{AllUpto, coordinates_sized, lowered_sized, raised_sized, above_zero}
use Rattle.grid_search.proofs.Laws.{lowered-length, raised-length}
use Rattle.cell_sizes.specs.declared.Settings.{Settings}
use Rattle.grid_cells.specs.declared.GridCells.{GridCells}
use Rattle.grid_cells.specs.Build.{settings_ok, cell_divisions}
use Rattle.cell_index.specs.Index.{corner_limit, ordered, good_index}
use Rattle.cell_claims.proofs.Bounds.{no_minus, twice_least, sum_least, covered_bounded}
use Rattle.cell_claims.proofs.Grown.{grown}
use Rattle.cell_claims.proofs.Boxes.{plain, Point, Size}

-- ---- the settings in force
pub record Limits (t : Settings) : Type 0 where
  pub tolerance : Upto 1024 t.tolerance
  pub twice : le (pow2⁻ 19) (pow2 1 ⊗ t.tolerance) ≡ true
  pub border : Upto 1024 t.border_tol

pub limits : (t : Settings) → settings_ok t ≡ true → le t.tolerance zero_f ≡ false → lt t.border_tol zero_f ≡ false → Limits t
unfolding settings_ok all past_limits le
limits t h z b =
    let ft = finite t.tolerance in
    let fb = finite t.border_tol in
    let others = all finite (t.large_cutoff ∷ t.large_pct ∷ []) in
    let a = and_both (ft && (fb && others)) (not (past_limits t.tolerance t.border_tol)) h in
    let f = and_both ft (fb && others) a.0 in
    let g = and_left fb others f.1 in
    let x = lt (pow2 10) t.tolerance in
    let y = lt (pow2 10) t.border_tol in
    let s = lt t.tolerance (pow2⁻ 20) in
    let q : (x || (y || (lt zero_f t.tolerance && s))) ≡ false = not-true _ a.1 in
    let r = or_right x _ q in
    let up = above_zero t.tolerance f.0 z in
    record {
      tolerance = between-upto 10 t.tolerance f.0 (or_left x _ q) (or_left (lt t.tolerance zero_f) (eq t.tolerance zero_f) z);
      twice = twice_least t.tolerance f.0 up (rw up at (or_right y _ r));
      border = between-upto 10 t.border_tol g (or_left y _ r) b;
    }

-- ---- the side
pub record Sided (side : Float) : Type 0 where
  pub most : Upto 2099200 side
  pub least : le (pow2⁻ 19) side ≡ true

pub sided : (t : Settings) (longest : Float) → Limits t → Size longest → Sided (longest ⊕ pow2 1 ⊗ t.tolerance)
sided t longest l s =
    let m : Upto 2048 (pow2 1 ⊗ t.tolerance) = mul-upto 2 1024 (lit≤ tt) (pow2 1) t.tolerance (lit≤ tt) l.tolerance in
    record {
      most = add-upto 2097152 2048 (lit≤ tt) longest (pow2 1 ⊗ t.tolerance) s.most m;
      least = sum_least longest (pow2 1 ⊗ t.tolerance) (upto-finite 2097152 longest s.most) (upto-finite 2048 (pow2 1 ⊗ t.tolerance) m) s.least l.twice;
    }

-- ---- the corners
sized_limit : (n : ℕ) (xs : List Float) → n ≤ 16777216 → AllUpto n xs → all corner_limit xs ≡ true
unfolding all
sized_limit n [] h s = refl
sized_limit n (x ∷ xs) h s = both (upto-within 24 x (upto_more n 16777216 x h s.0)) (sized_limit n xs h s.1)

all-fits : (xs : List Float) → all plain xs ≡ true → all (fits binary64) xs ≡ true
unfolding all
all-fits [] h = refl
all-fits (x ∷ xs) h = let p = and_both (plain x) (all plain xs) h in both (and_right (coordinate x) (fits binary64 x) p.0) (all-fits xs p.1)

all_coordinates : (xs : List Float) → all plain xs ≡ true → all coordinate xs ≡ true
unfolding all
all_coordinates [] h = refl
all_coordinates (x ∷ xs) h = let p = and_both (plain x) (all plain xs) h in both (and_left (coordinate x) (fits binary64 x) p.0) (all_coordinates xs p.1)

side_most : (side : Float) → Upto 2099200 side → le side (pow2 22) ≡ true
side_most side u = and_right (le (neg (pow2 22)) side) (le side (pow2 22)) (sym (within-ends (pow2 22) side) ∙ upto-within 22 side (upto_more 2099200 4194304 side (lit≤ tt) u))

zip_two : (side : Float) (xmin xmax : List Float) → length xmax ≡ length xmin → length (cell_divisions side xmin xmax) ≡ length xmin
unfolding cell_divisions zip_with
zip_two side [] [] e = refl
zip_two side [] (y ∷ ys) e = absurd (omega arith)
zip_two side (x ∷ xs) [] e = absurd (omega arith)
zip_two side (x ∷ xs) (y ∷ ys) e = ap suc (zip_two side xs ys (omega arith))

-- no minus sign: of a value from 2 ^ -19 on, and of a whole number
from-least : (x : Float) → finite x ≡ true → le (pow2⁻ 19) x ≡ true → unsigned x ≡ true
unfolding finite
from-least nan f h = absurd (false≢true f)
from-least (inf s) f h = absurd (false≢true f)
from-least (fin true m e) f h = absurd (no_minus m e h)
from-least (fin false m e) f h = refl

value_unsigned : (x : Float) (a c : ℕ) → HasValue x false a c → unsigned x ≡ true
value_unsigned nan a c v = absurd v
value_unsigned (inf s) a c v = absurd v
value_unsigned (fin true m e) a c v = absurd (true≢false v.0)
value_unsigned (fin false m e) a c v = refl

nat_unsigned : (n : ℕ) → n ≤ 2 ^ 53 → unsigned (of_nat n) ≡ true
unfolding of_int
nat_unsigned n h = value_unsigned (of_nat n) n 1 (round_whole binary64 false n h)

-- the low corner is not above the high one
ordered_covered : (side : Float) (xmin : List Float) (ns : List ℕ) → Sided side → all (fits binary64) xmin ≡ true
    → AllUpto 1049600 xmin → all division ns ≡ true → ordered xmin (covered_of side xmin ns) ≡ true
unfolding ordered covered_of zip_with all
ordered_covered side [] ns s f z d = refl
ordered_covered side (x ∷ xs) [] s f z d = refl
ordered_covered side (x ∷ xs) (n ∷ ns) s f z d =
    let p = and_both (fits binary64 x) (all (fits binary64) xs) f in
    let r = first_of n ns d in
    let N : n ≤ 2 ^ 53 = omega (arith, r.most) in
    let fs = upto-finite 2099200 side s.most in
    let fn = upto-finite n (of_nat n) (nat_upto n N) in
    let w = mul-upto 2099200 1024 (lit≤ tt) side (of_nat n) s.most (upto_more n 1024 (of_nat n) r.most (nat_upto n N)) in
    both
    (grown x (side ⊗ of_nat n) (is-test (fits binary64 x) p.0) (upto-finite 1049600 x z.0) (upto-finite 2149580800 (side ⊗ of_nat n) w)
    (mul_unsigned side (of_nat n) fs fn (from-least side fs s.least) (nat_unsigned n N)))
    (ordered_covered side xs ns s p.1 z.1 (rest_of n ns d))
  where
    is-test : (b : Bool) → b ≡ true → T b
    is-test b e = subst T (sym e) tt

lowered-fits : (border : Float) (xs : List Float) → all (fits binary64) xs ≡ true → all (fits binary64) (lowered border xs) ≡ true
unfolding lowered all
lowered-fits border xs h = by_test (lt zero_f border) (λ e. rw e (go xs)) (λ e. rw e h)
  where
    go : (xs : List Float) → all (fits binary64) (map (λ (a : Float). a ⊖ border) xs) ≡ true
    go [] = refl
    go (x ∷ xs) = both (is_true (fits binary64 (x ⊖ border)) (sub-fits binary64 x border)) (go xs)

-- ---- the index, by its parts
pub record Parts (g : GridCells) (n : ℕ) (border a : Float) (low high : List Float) : Type 0 where
  pub ndim : g.ndim ≡ n
  pub ndiv : g.ndiv ≡ divisions_of (cell_divisions a (lowered border low) (raised border high))
  pub side : g.side_length ≡ a
  pub xmin : g.xmin ≡ position_of (lowered border low)
  pub xmax : g.xmax ≡ position_of (covered_of a (lowered border low) (cell_divisions a (lowered border low) (raised border high)))

pub record Framed (g : GridCells) (n : ℕ) (xs : List Float) (ns : List ℕ) : Type 0 where
  pub divisions : counts g.ndim g.ndiv ≡ ns
  pub divisions-length : length ns ≡ n
  pub xmin : coords g.ndim g.xmin ≡ xs
  pub xmin_length : length xs ≡ n

covered_length : (side : Float) (xs : List Float) (ns : List ℕ) → length ns ≡ length xs → length (covered_of side xs ns) ≡ length xs
unfolding covered_of zip_with
covered_length side [] ns e = refl
covered_length side (x ∷ xs) [] e = absurd (omega arith)
covered_length side (x ∷ xs) (n ∷ ns) e = ap suc (covered_length side xs ns (omega arith))

module _ (g : GridCells) (n : ℕ) (border side : Float) (low high : List Float) (axes : dimension n ≡ true) (p : Parts g n border side low high) (a : Point n low) (b : Point n high) where
  abbrev xs : List Float
  xs = lowered border low

  abbrev ns : List ℕ
  ns = cell_divisions side xs (raised border high)

  xs-length : length xs ≡ n
  xs-length = lowered-length border low ∙ a.long

  ns_length : length ns ≡ n
  ns_length = zip_two side xs (raised border high) (raised-length border high ∙ b.long ∙ sym xs-length) ∙ xs-length

  pub framed : Framed g n xs ns
  framed = record {
    divisions = rw (p.ndim, p.ndiv) (entries_of 1 n ns axes ns_length);
    divisions-length = ns_length;
    xmin = rw p.ndim (coords_of n xs g.xmin axes xs-length p.xmin);
    xmin_length = xs-length;
  }

  pub index-good : Sided side → Upto 1024 border → all division ns ≡ true → good_index g ≡ true
  unfolding good_index
  index-good s u d =
      let x = lowered_sized border low u (coordinates_sized low (all_coordinates low a.plain)) in
      let h = raised_sized border high u (coordinates_sized high (all_coordinates high b.plain)) in
      let c = covered_bounded side xs (raised border high) s.most s.least x h d in
      let xm : coords g.ndim g.xmax ≡ covered_of side xs ns = rw p.ndim (coords_of n (covered_of side xs ns) g.xmax axes (covered_length side xs ns (ns_length ∙ sym xs-length) ∙ xs-length) p.xmax) in
      rw (framed.divisions, framed.xmin, xm, p.side)
      (both (both s.least (side_most side s.most))
      (both d (both (sized_limit 1049600 xs (lit≤ tt) x)
      (both (sized_limit 5248000 (covered_of side xs ns) (lit≤ tt) c)
      (ordered_covered side xs ns s (lowered-fits border low (all-fits low a.plain)) x d)))))
