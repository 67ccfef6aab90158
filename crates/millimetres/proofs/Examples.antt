-- The definitions on a few numbers, evaluated.
-- Assumes nothing.
use mathlib.Core.Path.{◌≡◌, refl}
use mathlib.Core.Bool.{Bool, true, false}
use mathlib.Core.List.{List, [], ◌∷◌}
use mathlib.Core.Option.{Option, none, some}
use lib.IntN.{ℤ, pos, negsuc}
use lib.Ieee.{nan, inf, fin, binary64, add, mul, div, of_int, of_bits, to_unsigned}
use Rattle.floats.specs.Rounded.{zero_f, pow2, pow2⁻}
use Rattle.millimetres.specs.Millimetres.{value_of, is_decimal, decimal_of}

-- ---- values: 1.5, 0, -0.5, and the limit
value_1·5 : value_of (pos 1500) ≡ fin false 3 (negsuc 0)
unfolding value_of of_int div
value_1·5 = refl

value_0 : value_of (pos 0) ≡ zero_f
unfolding value_of of_int div
value_0 = refl

value_minus_half : value_of (negsuc 499) ≡ fin true 1 (negsuc 0)
unfolding value_of of_int div
value_minus_half = refl

value-limit : value_of (pos 1048576000) ≡ pow2 20
unfolding value_of of_int div
value-limit = refl

-- ---- what is a decimal's: 0.5, 0.1 and both ends; and what is none's: the two floats next to 0.1, -0, and a millimetre past either end
tests : List Bool
unfolding is_decimal of_int div mul add to_unsigned of_bits
tests =
    is_decimal (pow2⁻ 1)
    ∷ is_decimal (of_bits binary64 0x3fb9_9999_9999_999a)
    ∷ is_decimal (pow2 20)
    ∷ is_decimal (fin true 1 (pos 20))
    ∷ is_decimal (of_bits binary64 0x3fb9_9999_9999_9999)
    ∷ is_decimal (of_bits binary64 0x3fb9_9999_9999_999b)
    ∷ is_decimal (fin true 0 (pos 0))
    ∷ is_decimal (value_of (pos 1048576001))
    ∷ is_decimal (value_of (negsuc 1048576000))
    ∷ []

tested : tests ≡ true ∷ true ∷ true ∷ true ∷ false ∷ false ∷ false ∷ false ∷ false ∷ []
unfolding tests
tested = refl

-- ---- the millimetres of 0.1, -0.5 and +0; none of 2^-12, an infinity and a NaN
answers : List (Option ℤ)
unfolding decimal_of of_int div mul add to_unsigned of_bits
answers =
    decimal_of (of_bits binary64 0x3fb9_9999_9999_999a)
    ∷ decimal_of (fin true 1 (negsuc 0))
    ∷ decimal_of zero_f
    ∷ decimal_of (pow2⁻ 12)
    ∷ decimal_of (inf true)
    ∷ decimal_of nan
    ∷ []

answered : answers ≡ some (pos 100) ∷ some (negsuc 499) ∷ some (pos 0) ∷ none ∷ none ∷ none ∷ []
unfolding answers
answered = refl
