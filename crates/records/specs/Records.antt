-- The 32-byte records of the files: an id and three floats, each of eight bytes, the lowest first.
-- Assumes nothing.
use Rattle.std.specs.Prelude.{ℕ, ◌+◌, ◌*◌, not, List, [], ◌∷◌, eqb, length, take, drop, Float, Result}
use Rattle.std.specs.Float.{binary64}
use Rattle.std.specs.Float.Ieee.{of_bits}
use Rattle.basics.specs.Refusals.{Test, refuse, fault, Answer, answer}
use Rattle.basics.specs.Answers.{answered}
use Rattle.basics.specs.declared.Refusal.{Refusal}
use Rattle.records.specs.declared.Record.{Record}

-- the number that bytes stand for, the lowest first
unfoldable pub little_endian : List ℕ → ℕ
little_endian [] = 0
little_endian (b ∷ bs) = b + 256 * little_endian bs

-- the number in the eight bytes from an offset on
unfoldable pub number_at : List ℕ → ℕ → ℕ
unfolding little_endian
number_at bytes at = little_endian (take 8 (drop at bytes))

-- the float of that bit pattern: every NaN's pattern is a NaN
unfoldable pub float_at : List ℕ → ℕ → Float
unfolding number_at of_bits
float_at bytes at = of_bits binary64 (number_at bytes at)

unfoldable pub record_at : List ℕ → ℕ → Record
unfolding number_at float_at
record_at bytes at = record {
  id = number_at bytes at;
  x = float_at bytes (at + 8);
  y = float_at bytes (at + 16);
  z = float_at bytes (at + 24);
}

-- ---- the call: a list of bytes that is not one record is 13

unfoldable pub length_tests : List ℕ → List Test
length_tests bytes = refuse 13 (not (eqb (length bytes) 32)) ∷ []

unfoldable pub reading : List ℕ → Answer Record
unfolding length_tests fault answer record_at
reading bytes = answer (fault (length_tests bytes)) (record_at bytes 0)

abbrev pub read_answer : Result Record Refusal → Answer Record
read_answer = answered (λ r. r)
