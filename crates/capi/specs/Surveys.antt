-- What the import of a point list gives to C: the number, everything lent at exit, and the line that belongs to 27. An export gives what a listing gives: the number, the text and its length.
-- Assumes nothing.
use Rattle.std.specs.Prelude.{ℕ, ◌≡◌}
use Rattle.std.proofs.Math.Option.{Option, none, some}
use Rattle.mark_lists.specs.MarkLists.{MarkList}
use Rattle.survey_import.specs.Import.{Import}
use Rattle.capi.specs.Answers.{number}

-- the line, and where none belongs to the answer the number that was there
abbrev pub line_after : Option ℕ → ℕ → ℕ
line_after none old = old
line_after (some line) old = line

pub record ToldImport (i : Import) (r : ℕ) (after : MarkList) (line line' : ℕ) : Type 0 where
  pub returned : r ≡ number i.answer
  pub lists-are : after ≡ i.lists
  pub line-is : line' ≡ line_after i.line line
