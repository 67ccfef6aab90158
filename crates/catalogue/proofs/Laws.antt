-- What is printed of the files, from what is known of them once they were read.
-- Assumes nothing.
use Prim.Native.Nat.{ℕ}
use mathlib.Core.Path.{◌≡◌, sym, ap, ◌∙◌}
use mathlib.Core.Bool.{true}
use mathlib.Core.Option.{Option, none, some}
use mathlib.Core.List.{List, [], ◌∷◌}
use Rattle.basics.specs.Refusals.{Answer, refused, success}
use Rattle.grid_search.specs.declared.GridSearch.{GridSearch}
use Rattle.grid_search.specs.Sheet.{made, sheet_ok}
use Rattle.std.specs.Prelude.{Result}
use Rattle.basics.specs.declared.Refusal.{Refusal}
use Rattle.table.specs.Library.{Library}
use Rattle.rows.specs.Insert.{inserted}
use Rattle.text.specs.Text.{refusal}
use Rattle.loading.proofs.Sheets.{sheet-good}
use Rattle.files.specs.Read.{SheetRead, MarksIn, MarksRead}
use Rattle.outcome.specs.Outcome.{outcome_text, empty_library, after_sheet, printed}
use Rattle.outcome.proofs.Reading.{same_text, unread}
use Rattle.catalogue.specs.Printed.{GoodSheet, Judged, Printed}

pub judged : (s : GridSearch) → sheet_ok s ≡ true → (r : Result ℕ Refusal) (l : Library) (text : List ℕ)
    → MarksRead 32 s empty_library r l → text ≡ outcome_text s l (inserted r) → Judged (success s) text
judged s good r l text p e = go p.file p.is
  where
    go : (file : Option (List ℕ)) → MarksIn 32 s empty_library file r l → Judged (success s) text
    go none f = record { marks = none; is = e ∙ unread s l r f.answers }
    go (some bytes) g = record { marks = some bytes; is = e ∙ same_text s good bytes l r g }

pub good-sheet : (r : Result GridSearch Refusal) → SheetRead r → GoodSheet r
good-sheet r p s e = sheet-good p.file s (sym p.is ∙ e)

pub of_refusal : (n : ℕ) (text : List ℕ) → text ≡ refusal (n ∷ []) → Judged (refused n) text
unfolding after_sheet
of_refusal n text e = record { marks = none; is = e }

pub of_files : (r : Result GridSearch Refusal) (text : List ℕ) → SheetRead r → Judged (made r) text → Printed text
unfolding printed
of_files r text p j = record { sheet = p.file; marks = j.marks; is = j.is ∙ ap (λ (o : Answer GridSearch). after_sheet o j.marks) p.is }
