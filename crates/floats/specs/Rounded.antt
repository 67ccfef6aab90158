-- The operations of the Rust text on `f64`, each rounded once to the nearest binary64, ties to even: IEEE 754's, as `lib.Ieee` has them.
-- They are written as numerical analysis writes rounded operations, so that a definition reads like the Rust line that it stands for.
-- Assumes nothing.
use Rattle.std.specs.Prelude.{ℕ, ◌-◌, false, pos, negsuc, Float}
use Rattle.std.specs.Float.{fin, binary64}
use Rattle.std.specs.Float.Ieee.{add, sub, mul, div, of_int, to_unsigned}

infixl 6 ◌⊕◌ ◌⊖◌
infixl 7 ◌⊗◌ ◌⊘◌
abbrev pub ◌⊕◌ : Float → Float → Float
x ⊕ y = add binary64 x y

abbrev pub ◌⊖◌ : Float → Float → Float
x ⊖ y = sub binary64 x y

abbrev pub ◌⊗◌ : Float → Float → Float
x ⊗ y = mul binary64 x y

abbrev pub ◌⊘◌ : Float → Float → Float
x ⊘ y = div binary64 x y

-- Rust's `n as f64`
abbrev pub of_nat : ℕ → Float
of_nat n = of_int binary64 (pos n)

-- Rust's `x as usize`
abbrev pub truncate : Float → ℕ
truncate x = to_unsigned 64 x

-- +0, 2 ^ k, and 2 ^ -k for a k from 1 on
abbrev pub zero_f : Float
zero_f = fin false 0 (pos 0)

abbrev pub pow2 : ℕ → Float
pow2 k = fin false 1 (pos k)

abbrev pub pow2⁻ : ℕ → Float
pow2⁻ k = fin false 1 (negsuc (k - 1))
