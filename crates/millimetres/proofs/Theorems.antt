-- The claims of `specs/Claims.antt`.
-- Assumes nothing.
use mathlib.Core.Path.{◌≡◌, refl, sym, ap, ◌∙◌, subst}
use mathlib.Core.Bool.{true, false, true≢false}
use mathlib.Core.Option.{Option, none, some}
use Prim.Native.Nat.{ℕ, ◌≤◌}
use native.Mathlib.Omega.{arith}
use lib.IntN.{ℤ, pos, nat_abs}
use lib.Ieee.{Float, fin, add, mul, div, of_int, to_unsigned}
use Rattle.basics.proofs.Bools.{by_test}
use Rattle.floats.specs.Tests.{Binary64}
use Rattle.millimetres.specs.Millimetres.{limit, value_of, nearest_to, is_decimal, decimal_of}
use Rattle.millimetres.specs.Claims.{Values}
use Rattle.millimetres.proofs.Laws.{rounded-once, value-decimal, decimal-value, decimal-some, decimal-none}

told : (m : ℤ) → nat_abs m ≤ limit → decimal_of (value_of m) ≡ some m
told m h = let d = value-decimal m h in decimal-some (value_of m) d.0 ∙ ap some d.1

same_some : (m n : ℤ) → some m ≡ some n → m ≡ n
same_some m n e = cc

no_some : (m : ℤ) → ◌≡◌ {A = Option ℤ} none (some m) → ⊥
no_some m e = let z : ◌≡◌ {A = ℕ} 0 1 = cc in omega arith

is_some : (x : Float) (m : ℤ) → Binary64 x → decimal_of x ≡ some m → (x ≡ value_of m) × (nat_abs m ≤ limit)
is_some x m h e =
    by_test (is_decimal x)
    (λ t. subst (λ (z : ℤ). (x ≡ value_of z) × (nat_abs z ≤ limit)) (same_some (nearest_to x) m (sym (decimal-some x t) ∙ e)) (decimal-value x t h))
    (λ t. absurd (no_some m (sym (decimal-none x t) ∙ e)))

minus_zero : is_decimal (fin true 0 (pos 0)) ≡ false
unfolding is_decimal of_int div mul add to_unsigned
minus_zero = refl

pub theorem : Values
theorem = record {
  rounded = rounded-once;
  is-value = λ x m h. (is_some x m h, λ v. ap decimal_of v.0 ∙ told m v.1);
  apart = λ m n h k e. same_some m n (sym (told m h) ∙ ap decimal_of e ∙ told n k);
  no_minus_zero = λ m h e. true≢false (sym (value-decimal m h).0 ∙ ap is_decimal e ∙ minus_zero);
}
