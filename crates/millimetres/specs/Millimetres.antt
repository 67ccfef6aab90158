-- Whole millimetres, and the coordinates that they are.
-- Assumes nothing.
use Rattle.std.specs.Prelude.{ℕ, Bool, cond, ◌&&◌, leb, ℤ, pos, neg_ℤ, nat_abs, Float}
use Rattle.std.proofs.Math.Option.{Option, none, some}
use Rattle.std.specs.Float.{binary64}
use Rattle.std.specs.Float.Ieee.{of_int, lt}
use Rattle.floats.specs.Rounded.{◌⊕◌, ◌⊗◌, ◌⊘◌, of_nat, truncate, zero_f, pow2⁻}
use Rattle.floats.specs.Tests.{abs_of, same_bits}

-- 1,048,576 in millimetres: the magnitude that a coordinate has at most
abbrev pub limit : ℕ
limit = 1048576000

-- a number with its sign; there is one zero
abbrev pub signed : Bool → ℕ → ℤ
signed minus n = cond minus (neg_ℤ (pos n)) (pos n)

-- the coordinate: the whole number of millimetres divided once by 1,000
unfoldable pub value_of : ℤ → Float
value_of m = of_int binary64 m ⊘ of_nat 1000

-- The millimetres that a coordinate would be: a thousand times its magnitude and a half, each rounded, cut to a whole number, with its sign. Where it is the value of any number of millimetres
-- within the limit, it is that of this one: `is-value` in Claims.antt.
unfoldable pub nearest_to : Float → ℤ
unfolding abs_of lt
nearest_to x = signed (lt x zero_f) (truncate (abs_of x ⊗ of_nat 1000 ⊕ pow2⁻ 1))

-- x is, bit for bit, the coordinate of a number of millimetres within the limit
unfoldable pub is_decimal : Float → Bool
unfolding nearest_to same_bits value_of
is_decimal x = leb (nat_abs (nearest_to x)) limit && same_bits (value_of (nearest_to x)) x

-- those millimetres, or none
unfoldable pub decimal_of : Float → Option ℤ
unfolding is_decimal nearest_to
decimal_of x = cond (is_decimal x) (some (nearest_to x)) none
