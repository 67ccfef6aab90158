-- How large the floats of a sheet are whose settings passed the tests. So all of them are finite, and the side is above zero. Assumes nothing.
use Prim.Native.Nat.{ℕ, ◌+◌, ◌^◌, ◌≤◌}
use native.Mathlib.Omega.{arith}
use mathlib.Core.Path.{◌≡◌, refl, ap, ◌∙◌}
use mathlib.Core.Logic.{inl, inr}
use mathlib.Core.Bool.{true, false, not, ◌&&◌, false≢true}
use mathlib.Core.List.{List, [], ◌∷◌, map}
use lib.Dec.{lit≤}
use lib.Ieee.{Float, nan, inf, fin, lt, le, is_nan, of_int}
use borrow.Author.Tests.{not-false}
use Rattle.basics.proofs.Bools.{by_test, both, and_left, and_right, and_both, or_left, or_right, clash}
use Rattle.basics.specs.Lists.{all, zip_with, fold_from}
use Rattle.floats.specs.Rounded.{◌⊕◌, ◌⊖◌, ◌⊗◌, ◌⊘◌, of_nat, zero_f, pow2}
use Rattle.floats.specs.Tests.{finite, max_of}
use Rattle.floats.proofs.Order.{lt_is_not_le, le_join}
use Rattle.floats.proofs.Upto.{Upto, upto-finite, upto_more, within-upto, add-upto, sub-upto, mul-upto, div-upto, nat_upto, nat_from1, max-upto, above_unsigned, mul_unsigned, unsigned_above}
use Rattle.geometry.specs.Position.{dimension, coordinate}
use Rattle.geometry.proofs.Axes.{two_or_three}
use Rattle.grid.specs.Divisions.{division}
use Rattle.grid.proofs.Bounds.{first_of, rest_of}
use Rattle.grid_search.specs.Sheet.{lowered, raised, largest, side_of, covered_of, diagonal, past_limits, out_of_limits}

-- ---- lists whose entries are at most n in size
abbrev pub AllUpto : ℕ → List Float → Type 0
AllUpto n [] = Unit {0}
AllUpto n (x ∷ xs) = Upto n x × AllUpto n xs

pub sized_finite : (n : ℕ) (xs : List Float) → AllUpto n xs → all finite xs ≡ true
unfolding all
sized_finite n [] h = refl
sized_finite n (x ∷ xs) h = both (upto-finite n x h.0) (sized_finite n xs h.1)

sized_more : (a b : ℕ) (xs : List Float) → a ≤ b → AllUpto a xs → AllUpto b xs
sized_more a b [] k h = tt
sized_more a b (x ∷ xs) k h = (upto_more a b x k h.0, sized_more a b xs k h.1)

pub coordinates_sized : (xs : List Float) → all coordinate xs ≡ true → AllUpto 1048576 xs
unfolding all
coordinates_sized [] h = tt
coordinates_sized (x ∷ xs) h =
    let a = and_both (coordinate x) (all coordinate xs) h in
    (within-upto 20 x a.0, coordinates_sized xs a.1)

-- ---- the corners with the border
less_sized : (a b : ℕ) → a + b ≤ 2 ^ 53 → (y : Float) (xs : List Float) → Upto b y → AllUpto a xs → AllUpto (a + b) (map (λ (x : Float). x ⊖ y) xs)
less_sized a b N y [] k h = tt
less_sized a b N y (x ∷ xs) k h = (sub-upto a b N x y h.0 k, less_sized a b N y xs k h.1)

more_sized : (a b : ℕ) → a + b ≤ 2 ^ 53 → (y : Float) (xs : List Float) → Upto b y → AllUpto a xs → AllUpto (a + b) (map (λ (x : Float). x ⊕ y) xs)
more_sized a b N y [] k h = tt
more_sized a b N y (x ∷ xs) k h = (add-upto a b N x y h.0 k, more_sized a b N y xs k h.1)

pub lowered_sized : (border : Float) (lo : List Float) → Upto 1024 border → AllUpto 1048576 lo → AllUpto 1049600 (lowered border lo)
unfolding lowered
lowered_sized border lo k h =
    by_test (lt zero_f border) (λ e. rw e (less_sized 1048576 1024 (lit≤ tt) border lo k h)) (λ e. rw e (sized_more 1048576 1049600 lo (lit≤ tt) h))

pub raised_sized : (border : Float) (hi : List Float) → Upto 1024 border → AllUpto 1048576 hi → AllUpto 1049600 (raised border hi)
unfolding raised
raised_sized border hi k h =
    by_test (lt zero_f border) (λ e. rw e (more_sized 1048576 1024 (lit≤ tt) border hi k h)) (λ e. rw e (sized_more 1048576 1049600 hi (lit≤ tt) h))

-- ---- the side, and the high corner of the containers
differences_sized : (a b : ℕ) → a + b ≤ 2 ^ 53 → (ys xs : List Float) → AllUpto a ys → AllUpto b xs → AllUpto (a + b) (zip_with (λ (y x : Float). y ⊖ x) ys xs)
unfolding zip_with
differences_sized a b N [] xs h k = tt
differences_sized a b N (y ∷ ys) [] h k = tt
differences_sized a b N (y ∷ ys) (x ∷ xs) h k = (sub-upto a b N y x h.0 k.0, differences_sized a b N ys xs h.1 k.1)

few : {n : ℕ} → n ≤ 1024 → n ≤ 2 ^ 53
few h = omega arith

sides_sized : (a : ℕ) → a ≤ 2 ^ 53 → (ds : List Float) (ns : List ℕ) → AllUpto a ds → all division ns ≡ true → AllUpto a (zip_with (λ (d : Float) (n : ℕ). d ⊘ of_nat n) ds ns)
unfolding zip_with
sides_sized a N [] ns h k = tt
sides_sized a N (d ∷ ds) [] h k = tt
sides_sized a N (d ∷ ds) (n ∷ ns) h k =
    let r = first_of n ns k in
    (div-upto a N d (of_nat n) h.0 (nat_from1 n r.least (few r.most)), sides_sized a N ds ns h.1 (rest_of n ns k))

largest-from : (n : ℕ) (x : Float) (xs : List Float) → Upto n x → AllUpto n xs → Upto n (fold_from max_of x xs)
unfolding fold_from
largest-from n x [] h k = h
largest-from n x (y ∷ xs) h k = largest-from n (max_of x y) xs (max-upto n x y h k.0) k.1

largest_sized : (n : ℕ) (xs : List Float) → AllUpto n xs → Upto n (largest xs)
unfolding largest
largest_sized n [] h = Prim.Native.Nat.zero-le
largest_sized n (x ∷ xs) h = largest-from n x xs h.0 h.1

pub side_sized : (xmin xmax : List Float) (ns : List ℕ) → AllUpto 1049600 xmin → AllUpto 1049600 xmax → all division ns ≡ true → Upto 2099200 (side_of xmin xmax ns)
unfolding side_of
side_sized xmin xmax ns h k d =
    largest_sized 2099200 (zip_with (λ (d : Float) (n : ℕ). d ⊘ of_nat n) (zip_with (λ (b a : Float). b ⊖ a) xmax xmin) ns)
    (sides_sized 2099200 (lit≤ tt) (zip_with (λ (b a : Float). b ⊖ a) xmax xmin) ns (differences_sized 1049600 1049600 (lit≤ tt) xmax xmin k h) d)

pub covered_sized : (side : Float) (xmin : List Float) (ns : List ℕ) → Upto 2099200 side → AllUpto 1049600 xmin → all division ns ≡ true → AllUpto 2150630400 (covered_of side xmin ns)
unfolding covered_of zip_with
covered_sized side [] ns k h d = tt
covered_sized side (a ∷ los) [] k h d = tt
covered_sized side (a ∷ los) (n ∷ ns) k h d =
    let r = first_of n ns d in (
      add-upto 1049600 2149580800 (lit≤ tt) a (side ⊗ of_nat n) h.0 (mul-upto 2099200 1024 (lit≤ tt) side (of_nat n) k (upto_more n 1024 (of_nat n) r.most (nat_upto n (few r.most)))),
      covered_sized side los ns k h.1 (rest_of n ns d),
    )

-- ---- the diagonal, the near distance and the radius
pub diagonal_sized : (n : ℕ) → dimension n ≡ true → Upto 2 (diagonal n)
unfolding diagonal of_int
diagonal_sized n h = elim (two_or_three n h) [ inl e ↦ rw e (lit≤ tt) | inr e ↦ rw e (lit≤ tt) ]

pub near_sized : (d t : Float) → Upto 2 d → Upto 1024 t → Upto 2048 (d ⊗ t)
near_sized d t h k = mul-upto 2 1024 (lit≤ tt) d t h k

pub radius_sized : (d side : Float) → Upto 2 d → Upto 2099200 side → Upto 4198400 (d ⊗ side ⊘ pow2 1)
radius_sized d side h k = div-upto 4198400 (lit≤ tt) (d ⊗ side) (pow2 1) (mul-upto 2 2099200 (lit≤ tt) d side h k) (lit≤ tt)

-- ---- what the limits say of the settings
pub record Limited (lo hi : List Float) (tolerance border : Float) : Type 0 where
  pub low : all coordinate lo ≡ true
  pub high : all coordinate hi ≡ true
  pub tolerance_finite : finite tolerance ≡ true
  pub border_finite : finite border ≡ true
  pub tolerance_most : lt (pow2 10) tolerance ≡ false
  pub border_most : lt (pow2 10) border ≡ false

pub limited : (lo hi : List Float) (tolerance border : Float) → out_of_limits lo hi tolerance border ≡ false → Limited lo hi tolerance border
unfolding out_of_limits past_limits
limited lo hi tolerance border h =
    let a = all coordinate lo in
    let b = all coordinate hi in
    let c = finite tolerance in
    let d = finite border in
    let p = not-false (a && (b && (c && d))) (or_left (not (a && (b && (c && d)))) _ h) in
    let q = or_right (not (a && (b && (c && d)))) _ h in
    let r = and_right b (c && d) (and_right a (b && (c && d)) p) in
    record {
      low = and_left a (b && (c && d)) p;
      high = and_left b (c && d) (and_right a (b && (c && d)) p);
      tolerance_finite = and_left c d r;
      border_finite = and_right c d r;
      tolerance_most = or_left (lt (pow2 10) tolerance) _ q;
      border_most = or_left (lt (pow2 10) border) _ (or_right (lt (pow2 10) tolerance) _ q);
    }

-- ---- a tolerance above zero, and a side above twice the tolerance
pub finite_number : (x : Float) → finite x ≡ true → is_nan x ≡ false
unfolding finite is_nan
finite_number nan h = absurd (false≢true h)
finite_number (inf s) h = refl
finite_number (fin s m e) h = refl

pub above_zero : (x : Float) → finite x ≡ true → le x zero_f ≡ false → lt zero_f x ≡ true
unfolding finite
above_zero x f h = lt_is_not_le zero_f x (finite_number zero_f refl) (finite_number x f) ∙ ap not h

pub side_above : (side t : Float) → finite side ≡ true → finite t ≡ true → lt zero_f t ≡ true → le side (pow2 1 ⊗ t) ≡ false → lt zero_f side ≡ true
unfolding finite
side_above side t f g h k =
    above_zero side f
    (by_test (le side zero_f)
    (λ e. clash (le_join side zero_f (pow2 1 ⊗ t) e (unsigned_above (pow2 1 ⊗ t) (mul_unsigned (pow2 1) t refl g refl (above_unsigned t h)))) k)
    (λ e. e))
