-- What the program `survey` prints, by what standard input holds.
-- Assumes nothing.
use Rattle.std.specs.Prelude.{ℕ, cond, List, [], ◌∷◌, map, ltb, length, replicate, Float, None}
use Rattle.std.proofs.Math.Option.{Option, none, some}
use Rattle.basics.specs.Lists.{fold_all}
use Rattle.basics.specs.Refusals.{Answer, refused, success}
use Rattle.floats.specs.Rounded.{zero_f}
use Rattle.floats.specs.Tests.{min_of, max_of}
use Rattle.grid_search.specs.declared.GridSearch.{GridSearch}
use Rattle.grid_search.specs.Sheet.{new_sheet}
use Rattle.text.specs.Text.{refusal}
use Rattle.records.specs.declared.Record.{Record}
use Rattle.loading.specs.Loading.{insert_one, insert_all}
use Rattle.outcome.specs.Outcome.{empty_library, after_marks}
use Rattle.mark_lists.specs.MarkLists.{MarkList, mark_list, marks_in}
use Rattle.survey_import.specs.Import.{importing}

-- space for 1,024 marks
unfoldable pub empty_marks : MarkList
empty_marks =
    let floats : List Float = replicate 1024 zero_f in
    mark_list (replicate 1024 0) floats floats floats 0

-- ---- the sheet of marks: on three axes from their extremes, with every setting left out

-- (the +0 of no value is used by nothing: an import that is accepted gave a mark)
unfoldable pub lowest_of : List Float → Float
unfolding fold_all min_of
lowest_of values = fold_all min_of zero_f values

unfoldable pub highest_of : List Float → Float
unfolding fold_all max_of
highest_of values = fold_all max_of zero_f values

-- from the coordinates on each axis
unfoldable pub sheet_over : List Float → List Float → List Float → Answer GridSearch
unfolding new_sheet lowest_of highest_of
sheet_over xs ys zs =
    new_sheet (lowest_of xs ∷ lowest_of ys ∷ lowest_of zs ∷ []) (highest_of xs ∷ highest_of ys ∷ highest_of zs ∷ []) None None None

unfoldable pub sheet_of_marks : List Record → Answer GridSearch
unfolding sheet_over
sheet_of_marks marks = sheet_over (map (λ (m : Record). m.x) marks) (map (λ (m : Record). m.y) marks) (map (λ (m : Record). m.z) marks)

-- ---- what is printed

-- as the catalogue does, of the marks one after the other
unfoldable pub on_sheet : Answer GridSearch → List Record → List ℕ
unfolding refusal insert_all empty_library after_marks
on_sheet (refused n) marks = refusal (n ∷ [])
on_sheet (success s) marks = let t = insert_all (insert_one s) empty_library marks in after_marks s t t.answer

unfoldable pub of_marks : List Record → List ℕ
unfolding on_sheet sheet_of_marks
of_marks marks = on_sheet (sheet_of_marks marks) marks

-- a refusal, with the line that belongs to 27
unfoldable pub refused_at : ℕ → Option ℕ → List ℕ
unfolding refusal
refused_at n none = refusal (n ∷ [])
refused_at n (some line) = refusal (n ∷ line ∷ [])

unfoldable pub after_import : MarkList → Answer ℕ → Option ℕ → List ℕ
unfolding refused_at of_marks marks_in
after_import l (refused n) line = refused_at n line
after_import l (success n) line = of_marks (marks_in l)

-- of a text that the program holds
unfoldable pub of_text : List ℕ → List ℕ
unfolding after_import importing empty_marks
of_text bytes = let i = importing empty_marks bytes in after_import i.lists i.answer i.line

-- how many bytes it holds
abbrev pub most_bytes : ℕ
most_bytes = 131072

-- of what standard input holds: more bytes than that are 12, whatever they are; none: it cannot be read, which is 13, as for a file of the catalogue
unfoldable pub surveyed : Option (List ℕ) → List ℕ
unfolding refusal of_text
surveyed none = refusal (13 ∷ [])
surveyed (some bytes) = cond (ltb most_bytes (length bytes)) (refusal (12 ∷ [])) (of_text bytes)

-- by what reading it answered: that bytes came, and which, or a refusal
unfoldable pub input_text : Answer ℕ → List ℕ → List ℕ
unfolding refusal of_text
input_text (refused n) bytes = refusal (n ∷ [])
input_text (success n) bytes = of_text bytes
