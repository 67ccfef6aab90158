-- What the private functions ensure. Definitions only.
-- Assumes nothing.
use Rattle.std.specs.Prelude.{ℕ, ◌≡◌, true, false, cond, List, ◌∷◌, length, Float, Result, Ok, Err}
use Rattle.std.specs.Prelude as prelude
use Rattle.std.proofs.Math.Option.{Option, none, some}
use Rattle.lines.specs.Pieces.{split}
use Rattle.millimetres.specs.Millimetres.{value_of}
use Rattle.decimals.specs.Decimals.{is_coordinate, millimetres}
use Rattle.survey_import.specs.declared.Fields.{Fields}
use Rattle.survey_import.specs.declared.ImportError.{ImportError}
use Rattle.survey_import.specs.declared.ImportError.TheVariants.{Malformed}
use Rattle.survey_import.specs.Marks.{malformed, bad_line}

-- the value of the coordinate that a field is, or none where it is malformed
unfoldable pub value_in : List ℕ → Option Float
unfolding is_coordinate millimetres value_of
value_in field = cond (is_coordinate field) (some (value_of (millimetres field))) none

abbrev pub value_read : prelude.Option Float → Option Float
value_read (prelude.Some x) = some x
value_read prelude.None = none

-- what stands between the first four commas of a line, and after them
pub record AreFields (line : List ℕ) (f : Fields) : Type 0 where
  pub pieces : split 44 line ≡ f.number.now ∷ f.easting.now ∷ f.northing.now ∷ f.height.now ∷ split 44 f.description.now

-- how many lines a text that is not malformed has, or its first bad line
abbrev pub Judges : List (List ℕ) → Result ℕ ImportError → Type 0
Judges lines (Ok n) = (malformed lines ≡ false) × (n ≡ length lines)
Judges lines (Err e) = (malformed lines ≡ true) × (e ≡ Malformed (bad_line lines))
