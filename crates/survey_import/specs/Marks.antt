-- The text of surveyors: a mark in each line, as number, easting, northing, height, description.
-- Assumes nothing.
use Rattle.std.specs.Prelude.{ℕ, suc, Bool, true, not, cond, ◌&&◌, List, [], ◌∷◌, leb, eqb, length, get_or}
use Rattle.std.specs.Prelude as prelude
use Rattle.std.proofs.Math.Option.{Option, none, some}
use Rattle.basics.specs.Lists.{all}
use Rattle.records.specs.declared.Record.{Record}
use Rattle.text.specs.Text.{number_of}
use Rattle.lines.specs.Pieces.{split}
use Rattle.millimetres.specs.Millimetres.{value_of}
use Rattle.decimals.specs.Decimals.{is_number, is_coordinate, millimetres}

-- a byte from 32 to 126, and no comma
abbrev pub plain : ℕ → Bool
plain b = not (eqb b 44) && (leb 32 b && leb b 126)

-- up to 32 of them
unfoldable pub is_description : List ℕ → Bool
unfolding all
is_description field = leb (length field) 32 && all plain field

-- the fields of a line, between its commas
abbrev pub field : List ℕ → ℕ → List ℕ
field line i = get_or (split 44 line) i []

-- a line is good: it has four commas, and each field is what it has to be
unfoldable pub good_line : List ℕ → Bool
unfolding split is_number is_coordinate is_description
good_line line =
    eqb (length (split 44 line)) 5
    && (is_number (field line 0)
    && (is_coordinate (field line 1)
    && (is_coordinate (field line 2)
    && (is_coordinate (field line 3)
    && is_description (field line 4)))))

-- the mark of a good line: the description is dropped
unfoldable pub mark_of : List ℕ → Record
unfolding split number_of value_of millimetres
mark_of line = record {
  -- number, easting, northing, height
  id = number_of (field line 0);
  x = value_of (millimetres (field line 1));
  y = value_of (millimetres (field line 2));
  z = value_of (millimetres (field line 3));
}

-- what reading a line answers: its mark, or none where it is malformed
unfoldable pub mark_in : List ℕ → Option Record
unfolding good_line mark_of
mark_in line = cond (good_line line) (some (mark_of line)) none

abbrev pub line_read : prelude.Option Record → Option Record
line_read (prelude.Some mark) = some mark
line_read prelude.None = none

-- ---- a list of lines

-- 27: a line is not good, or there is none
unfoldable pub malformed : List (List ℕ) → Bool
unfolding all good_line
malformed [] = true
malformed (line ∷ lines) = not (all good_line (line ∷ lines))

-- the first bad line, counted from 1: that of an empty list is 1
unfoldable pub bad_line : List (List ℕ) → ℕ
unfolding good_line
bad_line [] = 1
bad_line (line ∷ lines) = let rest = bad_line lines in cond (good_line line) (suc rest) 1
