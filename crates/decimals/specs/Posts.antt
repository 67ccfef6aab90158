-- What the private functions ensure. Definitions only.
-- Assumes nothing.
use Rattle.std.specs.Prelude.{ℕ, ◌+◌, ◌-◌, ◌*◌, ◌^◌, ◌≤◌, ◌≡◌, cond, ◌&&◌, leb, ltb, List, length}
use Rattle.std.proofs.Math.Option.{Option, none, some}
use Rattle.text.specs.Text.{number_of}
use Rattle.lines.specs.Pieces.{split}
use Rattle.millimetres.specs.Millimetres.{limit}
use Rattle.decimals.specs.Decimals.{is_digit, digits, good_parts, thousandths}

-- the digit that a byte is
abbrev pub digit_in : ℕ → Option ℕ
digit_in b = cond (is_digit b) (some (b - 48)) none

-- the number with one digit more, if the byte is one and the number fits
abbrev pub with_digit : ℕ → ℕ → Option ℕ
with_digit n b = cond (is_digit b && ltb (n * 10 + (b - 48)) (2 ^ 64)) (some (n * 10 + (b - 48))) none

-- the number that at most n digits are
unfoldable pub digits_in : ℕ → List ℕ → Option ℕ
unfolding digits number_of
digits_in n field = cond (digits n field) (some (number_of field)) none

-- the thousandths that the digits after a point are
unfoldable pub decimals_in : List ℕ → Option ℕ
unfolding digits number_of
decimals_in field = cond (digits 3 field) (some (number_of field * 10 ^ (3 - length field))) none

-- the thousandths that a coordinate without its minus is
unfoldable pub thousandths_in : List ℕ → Option ℕ
unfolding good_parts thousandths split
thousandths_in field = cond (good_parts (split 46 field)) (some (thousandths (split 46 field))) none

-- a coordinate without its minus has this front before its point, if it has one, and this many thousandths after it
pub record IsCut (field front : List ℕ) (m : ℕ) : Type 0 where
  pub below : m ≤ 1000000
  pub rest : thousandths_in field ≡ cond (digits 7 front && leb (number_of front * 1000 + m) limit) (some (number_of front * 1000 + m)) none
