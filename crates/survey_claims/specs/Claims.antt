-- What is claimed of import and export together. Proofs: proofs/Theorems.antt.
-- Assumes nothing.
use Rattle.std.specs.Prelude.{ℕ, ◌^◌, ◌≤◌, ◌<◌, ◌≡◌, Bool, true, false, ◌&&◌, List, ltb, length, take, pos, Float}
use Rattle.std.proofs.Math.Option.{none}
use Rattle.std.specs.Float.{fin, binary64}
use Rattle.std.specs.Float.Ieee.{fits}
use Rattle.basics.specs.Lists.{all}
use Rattle.basics.specs.Refusals.{success}
use Rattle.floats.specs.Tests.{Binary64}
use Rattle.records.specs.declared.Record.{Record}
use Rattle.millimetres.specs.Millimetres.{value_of, nearest_to, is_decimal}
use Rattle.millimetres.specs.Claims.{Rounds}
use Rattle.decimals.specs.Decimals.{is_coordinate, millimetres, coordinate_text}
use Rattle.mark_lists.specs.MarkLists.{MarkList, marks_in, too_many, same_lengths, holds}
use Rattle.survey_import.specs.Import.{Import, importing}
use Rattle.survey_export.specs.Export.{text_of, exporting}

-- ---- a coordinate as text and as a float

pub record Decimals : Type 0 where
  -- what a coordinate's text means is the exact quotient of its millimetres and 1,000, rounded once
  pub rounded : (field : List ℕ) → is_coordinate field ≡ true → Rounds (millimetres field) (value_of (millimetres field))
  -- its value can be exported
  pub taken : (field : List ℕ) → is_coordinate field ≡ true → is_decimal (value_of (millimetres field)) ≡ true
  -- and what can be exported is the value of such a text: of the one that is written
  pub written : (x : Float) → Binary64 x → is_decimal x ≡ true → (is_coordinate (coordinate_text (nearest_to x)) ≡ true) × (value_of (millimetres (coordinate_text (nearest_to x))) ≡ x)
  -- no text has the value -0
  pub no_minus_zero : (field : List ℕ) → is_coordinate field ≡ true → value_of (millimetres field) ≡ fin true 0 (pos 0) → ⊥

-- ---- lists of marks

-- what lent lists can hold: 64-bit numbers and binary64 values
unfoldable pub lent : Record → Bool
unfolding fits
lent m = ltb m.id (2 ^ 64) && (fits binary64 m.x && (fits binary64 m.y && fits binary64 m.z))

-- an import that gave these marks: all of them, in their order and bit for bit
pub record Gave (marks : List Record) (i : Import) : Type 0 where
  pub answer_is : i.answer ≡ success (length marks)
  pub no_line : i.line ≡ none
  pub marks_are : marks_in i.lists ≡ marks

-- The import of an export of at least one mark, into lists that are long enough, gives the same marks.
abbrev pub RoundTrip : Type 0
RoundTrip = (l : MarkList) (buffer : List ℕ) (n : ℕ) → all lent (marks_in l) ≡ true → 0 < l.used → (exporting l buffer).answer ≡ success n
    → (k : MarkList) → too_many k ≡ false → same_lengths k ≡ true → holds k l.used ≡ true
    → Gave (marks_in l) (importing k (take n (exporting l buffer).list))

-- The export of what an import gave is accepted, into a buffer that is long enough.
abbrev pub Accepted : Type 0
Accepted = (k : MarkList) (text : List ℕ) (n : ℕ) → (importing k text).answer ≡ success n
    → (buffer : List ℕ) → length (text_of (marks_in (importing k text).lists)) ≤ length buffer
    → (exporting (importing k text).lists buffer).answer ≡ success (length (text_of (marks_in (importing k text).lists)))
