-- Numbers and coordinates in the text of surveyors: what they are, what they mean, and how they are written.
-- Assumes nothing.
use Rattle.std.specs.Prelude.{ℕ, suc, ◌+◌, ◌-◌, ◌*◌, ◌/◌, ◌%◌, ◌^◌, Bool, cond, ◌&&◌, ◌||◌, List, [], ◌∷◌, ◌++◌, leb, ltb, eqb, ℤ, pos, negsuc, length, get_or, drop}
use Rattle.std.specs.Prelude as prelude
use Rattle.std.proofs.Math.Option.{Option, none, some}
use Rattle.basics.specs.Lists.{all}
use Rattle.text.specs.Text.{ascii, digit, decimal, number_of}
use Rattle.lines.specs.Pieces.{split}
use Rattle.millimetres.specs.declared.Millimetres.{Millimetres}
use Rattle.millimetres.specs.Millimetres.{limit, signed}

-- ---- digits

abbrev pub is_digit : ℕ → Bool
is_digit b = leb 48 b && leb b 57

-- one digit or more, and at most n
unfoldable pub digits : ℕ → List ℕ → Bool
unfolding all
digits n field = leb 1 (length field) && (leb (length field) n && all is_digit field)

-- ---- a number: 1 to 20 digits, and at most 2^64 - 1. It means what its digits stand for (`number_of`).

unfoldable pub is_number : List ℕ → Bool
unfolding digits number_of
is_number field = digits 20 field && ltb (number_of field) (2 ^ 64)

-- ---- a coordinate: an optional minus, one to seven digits, and optionally a point with one to three digits, at most 1,048,576 in magnitude

unfoldable pub has_minus : List ℕ → Bool
has_minus field = eqb (get_or field 0 0) 45

-- what stands before the point and after it: one part where there is no point
unfoldable pub parts_of : List ℕ → List (List ℕ)
unfolding has_minus split
parts_of field = split 46 (cond (has_minus field) (drop 1 field) field)

-- the whole number of thousandths that the parts are: decimals that are left out are zeros
unfoldable pub thousandths : List (List ℕ) → ℕ
unfolding number_of
thousandths parts =
    let decimals = get_or parts 1 [] in
    number_of (get_or parts 0 []) * 1000 + number_of decimals * 10 ^ (3 - length decimals)

unfoldable pub good_parts : List (List ℕ) → Bool
unfolding digits thousandths
good_parts parts =
    digits 7 (get_or parts 0 [])
    && ((eqb (length parts) 1 || (eqb (length parts) 2 && digits 3 (get_or parts 1 [])))
    && leb (thousandths parts) limit)

unfoldable pub is_coordinate : List ℕ → Bool
unfolding good_parts parts_of
is_coordinate field = good_parts (parts_of field)

-- its meaning: whole millimetres, with the sign; a minus on zero means nothing
unfoldable pub millimetres : List ℕ → ℤ
unfolding has_minus thousandths parts_of
millimetres field = signed (has_minus field) (thousandths (parts_of field))

-- ---- what is written: no needless leading zeros, always three decimals, no minus on zero

unfoldable pub magnitude_text : ℕ → List ℕ
unfolding decimal
magnitude_text n = decimal (n / 1000) ++ (46 ∷ digit (n / 100 % 10) ∷ digit (n / 10 % 10) ∷ digit (n % 10) ∷ [])

unfoldable pub coordinate_text : ℤ → List ℕ
unfolding magnitude_text
coordinate_text (pos n) = magnitude_text n
coordinate_text (negsuc n) = ascii "-" ++ magnitude_text (suc n)

-- ---- what reading a field answers: its meaning, or none where it is malformed

unfoldable pub number_in : List ℕ → Option ℕ
unfolding is_number number_of
number_in field = cond (is_number field) (some (number_of field)) none

unfoldable pub millimetres_in : List ℕ → Option ℤ
unfolding is_coordinate millimetres
millimetres_in field = cond (is_coordinate field) (some (millimetres field)) none

abbrev pub number_read : prelude.Option ℕ → Option ℕ
number_read (prelude.Some n) = some n
number_read prelude.None = none

abbrev pub coordinate_read : prelude.Option Millimetres → Option ℤ
coordinate_read (prelude.Some m) = some m.count
coordinate_read prelude.None = none
