-- What a square tells of all above or below it: the distance that it tells keeps the order, and that of a square made from its root is the one at the root.
-- Assumes nothing.
use Prim.Native.Nat.{ℕ}
use mathlib.Core.Path.{◌≡◌, refl, sym, ap, ◌∙◌, subst}
use mathlib.Core.Logic.{◌⊎◌, inl, inr}
use mathlib.Core.Bool.{Bool, true, false, not, and-false}
use lib.Dec.{T}
use lib.Ieee.{Float, nan, inf, fin, binary64, mul, neg, lt, le, eq, is_nan}
use lib.Ieee.Bits.{is_true}
use lib.Ieee.Fits.{mul-fits}
use lib.Ieee.Positive.{between, mul_mono}
use borrow.Author.Tests.{not-true}
use Rattle.basics.proofs.Bools.{by_test, clash}
use Rattle.floats.specs.Rounded.{◌⊖◌, ◌⊗◌, zero_f, pow2, pow2⁻}
use Rattle.floats.specs.Sqrt.{sqrt_of}
use Rattle.floats.specs.Tests.{abs_of, finite, within, Binary64}
use Rattle.floats.proofs.Choice.{abs-abs, within-ends}
use Rattle.floats.proofs.Order.{le_left, le_right, le_join, lt-le, lt_is_not_le}
use Rattle.floats.proofs.Roots.{is-nan, zero_number, no_minus_infinity, zero-least, sqrt-number, sqrt_from_zero}
use Rattle.floats.proofs.Laws.{root_monotone, root_sign, root_of_product}
use Rattle.std.specs.Prelude.{Option, Some, None}
use Rattle.windows.specs.Window.{distance_at, told_by, steady, lies, Rooted, Square, Tells}
use Rattle.windows.proofs.Less.{Plus, less_mono}

-- ---- a square above zero

above : (s : Float) → lt zero_f s ≡ true → le s zero_f ≡ false
above s z = not-true _ (sym (lt_is_not_le zero_f s zero_number (le_right zero_f s (lt-le zero_f s z))) ∙ z)

-- and what is not below it
up_from : (s t : Float) → lt zero_f s ≡ true → le s t ≡ true → lt zero_f t ≡ true
up_from s t z h = lt_is_not_le zero_f t zero_number (le_right s t h) ∙ ap not (by_test (le t zero_f) (λ g. clash (le_join s t zero_f h g) (above s z)) (λ g. g))

-- its root has no minus sign
root_plus : (s : Float) → le zero_f s ≡ true → le s zero_f ≡ false → Plus (sqrt_of s)
unfolding sqrt_of
root_plus s h k = go (sqrt_of s) refl
  where
    go : (x : Float) → sqrt_of s ≡ x → Plus x
    go nan e = clash is-nan (ap is_nan (sym e) ∙ sqrt-number binary64 s h)
    go (inf true) e = clash (subst (λ (x : Float). le zero_f x ≡ true) e (sqrt_from_zero binary64 s h)) no_minus_infinity
    go (inf false) e = refl
    go (fin false m d) e = refl
    go (fin true m d) e = let w = root_sign s m d e in clash (subst (λ (x : Float). le x zero_f ≡ true) (sym w.1) (subst (λ (n : ℕ). le (fin true n d) zero_f ≡ true) (sym w.0) (zero-least true d))) k

-- ---- a larger square has no smaller distance

module _ (s t : Float) (S : Binary64 s) (U : Binary64 t) (z : lt zero_f s ≡ true) (h : le s t ≡ true) where
  from_zero : le zero_f s ≡ true
  from_zero = lt-le zero_f s z

  roots : le (sqrt_of s) (sqrt_of t) ≡ true
  roots = root_monotone s t S U from_zero h

  less_roots : (r : Float) → finite r ≡ true → le (sqrt_of s ⊖ r) (sqrt_of t ⊖ r) ≡ true
  less_roots r f = less_mono (sqrt_of s) (sqrt_of t) r (root_plus s from_zero (above s z)) (root_plus t (le_join zero_f s t from_zero h) (above t (up_from s t z h))) f roots

  pub told_mono : (d : Option Float) → steady d ≡ true → le (told_by d s) (told_by d t) ≡ true
  unfolding told_by steady
  told_mono None e = roots
  told_mono (Some r) e = less_roots r e

-- ---- a number that is the root of its own square

least_above : lt zero_f (pow2⁻ 500 ⊗ pow2⁻ 500) ≡ true
unfolding lt mul
least_above = refl

pub rooted : (x : Float) → Binary64 x → le (pow2⁻ 500) x ≡ true → le x (pow2 500) ≡ true → Rooted x
rooted x X lo hi =
    let p = between (pow2⁻ 500) x (pow2 500) tt tt (subst T (sym lo) tt) (subst T (sym hi) tt) in
    record {
      back = root_of_product x X lo hi;
      above = up_from (pow2⁻ 500 ⊗ pow2⁻ 500) (x ⊗ x) least_above (is_true _ (mul_mono binary64 (pow2⁻ 500) x (pow2⁻ 500) x tt p tt p (subst T (sym lo) tt) (subst T (sym lo) tt)));
    }

-- so its square tells its distance
module _ (d : Option Float) (x : Float) (e : steady d ≡ true) (w : Rooted x) where
  at_root : told_by d (x ⊗ x) ≡ distance_at d x
  unfolding told_by
  at_root = ap (distance_at d) w.back

  pub is_square : (passed : Bool) → passed ≡ true → Square d x passed (x ⊗ x)
  is_square passed p = record {
    above = λ s S h. (p, subst (λ (v : Float). le v (told_by d s) ≡ true) at_root (told_mono (x ⊗ x) s (mul-fits binary64 x x) S w.above h d e));
    below = λ s S z h. (p, subst (λ (v : Float). le (told_by d s) v ≡ true) at_root (told_mono s (x ⊗ x) S (mul-fits binary64 x x) z h d e));
  }

pub no_square : (d : Option Float) (x : Float) (passed : Bool) → Square d x passed nan
no_square d x passed = record { above = λ s S h. clash is-nan (le_left nan s h); below = λ s S z h. clash is-nan (le_right s nan h) }

-- where no square is tried
pub untold : (d : Option Float) (from to : Float) → Tells d from to nan nan nan nan
untold d from to = record {
  by_low = λ s S h. clash is-nan (le_left nan s h);
  by_high = λ s S z h. clash is-nan (le_right s nan h);
  by_under = λ s S z h. clash is-nan (le_right s nan h);
  by_over = λ s S h. clash is-nan (le_left nan s h);
}

-- ---- the four squares of a window, by the test that passed at the distance of a root

module _ (d : Option Float) (b x : Float) (passed : Bool) (c : Float) where
  pub from_tells : passed ≡ le b (distance_at d x) → Square d x passed c → (s : Float) → Binary64 s → le c s ≡ true → le b (told_by d s) ≡ true
  from_tells e q s S h = let w = q.above s S h in le_join b (distance_at d x) (told_by d s) (sym e ∙ w.0) w.1

  pub above_tells : passed ≡ not (le (distance_at d x) b) → Square d x passed c → (s : Float) → Binary64 s → le c s ≡ true → le (told_by d s) b ≡ false
  above_tells e q s S h =
      let w = q.above s S h in by_test (le (told_by d s) b) (λ g. clash (le_join (distance_at d x) (told_by d s) b w.1 g) (not-true _ (sym e ∙ w.0))) (λ g. g)

  pub within_tells : passed ≡ le (distance_at d x) b → Square d x passed c → (s : Float) → Binary64 s → lt zero_f s ≡ true → le s c ≡ true → le (told_by d s) b ≡ true
  within_tells e q s S z h = let w = q.below s S z h in le_join (told_by d s) (distance_at d x) b w.1 (sym e ∙ w.0)

  pub below_tells : passed ≡ not (le b (distance_at d x)) → Square d x passed c → (s : Float) → Binary64 s → lt zero_f s ≡ true → le s c ≡ true → le b (told_by d s) ≡ false
  below_tells e q s S z h =
      let w = q.below s S z h in by_test (le b (told_by d s)) (λ g. clash (le_join b (told_by d s) (distance_at d x) g w.1) (not-true _ (sym e ∙ w.0))) (λ g. g)

-- ---- in a window or out of it

module _ (from to d : Float) where
  pub inside : le from d ≡ true → le d to ≡ true → true ≡ lies from to d
  unfolding lies
  inside e f = rw (e, f)

  pub out_below : le from d ≡ false → false ≡ lies from to d
  unfolding lies
  out_below e = rw e

  pub out_above : le d to ≡ false → false ≡ lies from to d
  unfolding lies
  out_above e = rw (e, and-false)

-- with no bound below
pub unbounded : (to d : Float) → lies (inf true) to d ≡ le d to
unfolding lies le lt eq
unbounded to nan = refl
unbounded to (inf true) = refl
unbounded to (inf false) = refl
unbounded to (fin s m e) = refl

-- as far below zero as above it
pub both-sides : (to d : Float) → lies (neg to) to d ≡ le (abs_of d) to
unfolding lies within
both-sides to d = sym (within-ends to d)

-- a magnitude, where the bounds are as far from zero, or there is none below
pub magnitude_lies : (from to v : Float) → (from ≡ inf true) ⊎ (from ≡ neg to) → within to v ≡ lies from to (abs_of v)
unfolding within
magnitude_lies from to v (inl e) = rw e (sym (unbounded to (abs_of v)))
magnitude_lies from to v (inr e) = rw e (ap (λ (x : Float). le x to) (sym (abs-abs v)) ∙ sym (both-sides to (abs_of v)))
