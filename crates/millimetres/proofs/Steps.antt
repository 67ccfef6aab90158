-- The ways out of the crate's functions, each for the tests that lead to it.
-- Assumes nothing.
use Prim.Native.Nat.{ℕ, ◌≤◌, ◌<◌}
use mathlib.Core.Path.{◌≡◌, refl, sym, ap, ◌∙◌, subst}
use mathlib.Core.Bool.{Bool, true, false, cond, ◌&&◌}
use mathlib.Core.Option.{Option, none, some}
use Rattle.std.specs.Prelude as prelude
use Rattle.std.specs.Bool.{then_some}
use lib.Dec.{leb}
use lib.IntN.{ℤ, nat_abs}
use lib.Ieee.{Float, binary64, lt, add, mul, of_int, of_bits}
use borrow.Author.Tests.{le-leb, lt-leb}
use Rattle.floats.specs.Rounded.{◌⊕◌, ◌⊗◌, ◌⊘◌, of_nat, truncate, zero_f, pow2⁻}
use Rattle.floats.specs.Tests.{abs_of, same_bits}
use Rattle.millimetres.specs.Millimetres.{limit, signed, value_of, nearest_to, is_decimal, decimal_of}
use Rattle.millimetres.specs.Told.{whole_of}
use Rattle.millimetres.specs.declared.Millimetres.{Millimetres}
use Rattle.millimetres.proofs.Signed.{size-signed}

-- ---- the definitions, with the parts as variables
abbrev answer : Bool → ℤ → Option ℤ
answer b m = cond b (some m) none

decimal-is : (x : Float) → decimal_of x ≡ answer (leb (nat_abs (nearest_to x)) limit && same_bits (value_of (nearest_to x)) x) (nearest_to x)
unfolding decimal_of is_decimal
decimal-is x = refl

pub value-is : (m : ℤ) → of_int binary64 m ⊘ of_nat 1000 ≡ value_of m
unfolding value_of
value-is m = refl

nearest-is : (x : Float) → nearest_to x ≡ signed (lt x zero_f) (truncate (abs_of x ⊗ of_nat 1000 ⊕ pow2⁻ 1))
unfolding nearest_to
nearest-is x = refl

-- the code's numbers
pub thousand : of_bits binary64 0x408f_4000_0000_0000 ≡ of_nat 1000
unfolding of_bits of_int
thousand = refl

pub half : of_bits binary64 0x3fe0_0000_0000_0000 ≡ pow2⁻ 1
unfolding of_bits
half = refl

pub zero_is : of_bits binary64 0 ≡ zero_f
unfolding of_bits
zero_is = refl

chosen : (b : Bool) (m : Millimetres) → whole_of (then_some b m) ≡ answer b m.count
chosen true m = refl
chosen false m = refl

-- ---- `Millimetres::of`, with what its callees answer
module _ (x a : Float) (n : ℕ) (p : a ≡ abs_of x) (q : n ≡ truncate (add binary64 (mul binary64 a (of_bits binary64 0x408f_4000_0000_0000)) (of_bits binary64 0x3fe0_0000_0000_0000))) where
  nearest_of : signed (lt x (of_bits binary64 0)) n ≡ nearest_to x
  nearest_of = rw (nearest-is x, q, p, thousand, half, zero_is)

  count-is : nat_abs (nearest_to x) ≡ n
  count-is = ap nat_abs (sym nearest_of) ∙ size-signed (lt x (of_bits binary64 0)) n

  pub too_large : limit < n → none ≡ decimal_of x
  too_large h = sym (decimal-is x ∙ rw (lt-leb (nat_abs (nearest_to x)) limit (subst (λ (k : ℕ). limit < k) (sym count-is) h)))

  module _ (m : Millimetres) (r : m.count ≡ signed (lt x (of_bits binary64 0)) n) (h : n ≤ limit) where
    nearest-within : nat_abs (nearest_to x) ≤ limit
    nearest-within = subst (λ (k : ℕ). k ≤ limit) (sym count-is) h

    held : m.count ≡ nearest_to x
    held = r ∙ nearest_of

    pub answered : (v : Float) (b : Bool) (r : prelude.Option Millimetres)
        → v ≡ value_of m.count → b ≡ same_bits v x → r ≡ then_some b m → whole_of r ≡ decimal_of x
    answered v b r e f g =
        let same : same_bits (value_of (nearest_to x)) x ≡ b = ap (λ (z : ℤ). same_bits (value_of z) x) (sym held) ∙ ap (λ (w : Float). same_bits w x) (sym e) ∙ sym f in
        rw (g, chosen b m, held) (sym (decimal-is x ∙ rw (le-leb (nat_abs (nearest_to x)) limit nearest-within, same)))
