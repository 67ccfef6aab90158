-- What the program's functions say of the text that they put: it is the definition's for some content of the files (`files` says
-- why no more can be said).
-- Assumes nothing.
use Rattle.std.specs.Prelude.{ℕ, ◌≡◌, true, List, Result}
use Rattle.std.proofs.Math.Option.{Option}
use Rattle.basics.specs.Refusals.{Answer, success}
use Rattle.basics.specs.declared.Refusal.{Refusal}
use Rattle.grid_search.specs.declared.GridSearch.{GridSearch}
use Rattle.grid_search.specs.Sheet.{made, sheet_ok}
use Rattle.outcome.specs.Outcome.{after_sheet, printed}

-- a sheet that was not refused passes the check
abbrev pub GoodSheet : Result GridSearch Refusal → Type 0
GoodSheet r = (s : GridSearch) → made r ≡ success s → sheet_ok s ≡ true

-- of what sheet.bin gave, and some content of marks.bin
pub record Judged (sheet : Answer GridSearch) (text : List ℕ) : Type 0 where
  pub marks : Option (List ℕ)
  pub is : text ≡ after_sheet sheet marks

-- of some content of both
pub record Printed (text : List ℕ) : Type 0 where
  pub sheet : Option (List ℕ)
  pub marks : Option (List ℕ)
  pub is : text ≡ printed sheet marks
