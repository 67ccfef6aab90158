-- What the program `catalogue` prints, by what its two files hold.
-- Assumes nothing.
use Rattle.std.specs.Prelude.{ℕ, List, [], ◌∷◌, replicate, Float}
use Rattle.std.proofs.Math.Option.{Option, none, some}
use Rattle.basics.specs.Refusals.{Answer, refused, success, fault}
use Rattle.floats.specs.Rounded.{zero_f}
use Rattle.grid_search.specs.declared.GridSearch.{GridSearch}
use Rattle.table.specs.Library.{Library, library, table}
use Rattle.rows.specs.Damage.{library_tests}
use Rattle.rows.specs.Turn.{Turn}
use Rattle.text.specs.Text.{refusal}
use Rattle.display.specs.Display.{display_text}
use Rattle.loading.specs.Loading.{sheet_in, insert_bytes}

-- ---- what is printed of a library and an answer, whatever they are

unfoldable pub text_or : Option ℕ → List ℕ → List ℕ
unfolding refusal
text_or none text = text
text_or (some n) text = refusal (n ∷ [])

-- the text of the rows in use, or the refusal of a library that is damaged (24, 13)
unfoldable pub library_text : GridSearch → Library → List ℕ
unfolding text_or fault library_tests display_text table
library_text s l = text_or (fault (library_tests s l)) (display_text s (table l))

-- of the library as inserting the marks left it, and what that answered
unfoldable pub outcome_text : GridSearch → Library → Answer ℕ → List ℕ
unfolding refusal library_text
outcome_text s l (refused n) = refusal (n ∷ [])
outcome_text s l (success used) = library_text s l

-- ---- what is printed of the two files: marks.bin has records of 32 bytes

-- space for 1,024 rows
unfoldable pub empty_library : Library
empty_library =
    let zeros : List ℕ = replicate 1024 0 in
    let floats : List Float = replicate 1024 zero_f in
    library zeros zeros floats floats floats 0

-- the Rust's `Display` of the library with all marks, or `refused N`
unfoldable pub after_marks : GridSearch → Turn ℕ → Answer ℕ → List ℕ
unfolding refusal display_text table
after_marks s t (refused n) = refusal (n ∷ [])
after_marks s t (success used) = display_text s (table t.library)

unfoldable pub after_sheet : Answer GridSearch → Option (List ℕ) → List ℕ
unfolding refusal after_marks insert_bytes empty_library
after_sheet (refused n) marks = refusal (n ∷ [])
after_sheet (success s) none = refusal (13 ∷ [])
after_sheet (success s) (some bytes) = let t = insert_bytes 32 s empty_library bytes in after_marks s t t.answer

-- what sheet.bin and marks.bin hold; none: a file that is missing or cannot be read
unfoldable pub printed : Option (List ℕ) → Option (List ℕ) → List ℕ
unfolding after_sheet sheet_in
printed sheet marks = after_sheet (sheet_in sheet) marks
