-- What the private functions ensure. Definitions only.
use Rattle.std.specs.Prelude.{ℕ, ◌≡◌, true, false, List, ◌++◌, Result, Ok, Err}
use Rattle.basics.specs.Lists.{all}
use Rattle.basics.specs.declared.Refusal.{Refusal}
use Rattle.basics.specs.declared.Refusal.TheVariants.{NoDecimal}
use Rattle.records.specs.declared.Record.{Record}
use Rattle.text.specs.Text.{ascii}
use Rattle.text.specs.Writers.{Puts}
use Rattle.text.specs.declared.Writer.{Writer}
use Rattle.survey_export.specs.Export.{good_mark, text_of}

-- a field with the comma after it
abbrev pub with_comma : List ℕ → List ℕ
with_comma field = field ++ ascii ","

-- every mark is good, and their text was put
pub record Stands (marks : List Record) (old new : Writer) : Type 0 where
  pub good : all good_mark marks ≡ true
  pub put : Puts (text_of marks) old new

abbrev pub PutsMarks : List Record → Writer → Result Unit Refusal → Writer → Type 0
PutsMarks marks old (Ok _) new = Stands marks old new
PutsMarks marks old (Err e) new = (all good_mark marks ≡ false) × (e ≡ NoDecimal)
