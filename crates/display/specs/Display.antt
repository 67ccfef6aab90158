-- The text of a library: what gemlab's `impl Display for GridSearch` prints, and the call that puts it into a lent buffer.
-- Assumes nothing.
use Rattle.std.specs.Prelude.{ℕ, ◌≡◌, ◌+◌, ◌*◌, ◌≤◌, List, [], ◌∷◌, ◌++◌, map, ltb, eqb, length, Result}
use Rattle.std.proofs.Math.Option.{none}
use Rattle.basics.specs.Lists.{keep}
use Rattle.basics.specs.Filled.{Filled, fill}
use Rattle.basics.specs.Answers.{answered}
use Rattle.basics.specs.Refusals.{Test, refuse, fault, Answer}
use Rattle.basics.specs.declared.Refusal.{Refusal}
use Rattle.grid.specs.Divisions.{counts}
use Rattle.grid_search.specs.declared.GridSearch.{GridSearch}
use Rattle.table.specs.declared.Row.{Row}
use Rattle.table.specs.Rows.{Slot, slot_of}
use Rattle.table.specs.Library.{Library, table}
use Rattle.rows.specs.Damage.{library_tests}
use Rattle.sorting.specs.Sorted.{distinct}
use Rattle.text.specs.Text.{ascii, decimal, list_text}

-- ---- containers and ids: the text shows of each row its slot, the key and the id

-- the keys of the containers in use, ascending
unfoldable pub keys_in : List Slot → List ℕ
unfolding distinct
keys_in slots = distinct (map (λ (p : Slot). p.key) slots)

-- the ids, ascending, once each
unfoldable pub ids_in : List Slot → List ℕ
unfolding distinct
ids_in slots = distinct (map (λ (p : Slot). p.id) slots)

-- those of one container
unfoldable pub in_container : ℕ → List Slot → List Slot
unfolding keep
in_container k slots = keep (λ (p : Slot). eqb p.key k) slots

-- ---- lines

-- a container's line, as `2: [7]`
unfoldable pub line : ℕ → List ℕ → List ℕ
unfolding decimal list_text
line k ids = decimal k ++ (ascii ": " ++ (list_text ids ++ ascii "\n"))

-- the lines of these containers
unfoldable pub lines_of : List Slot → List ℕ → List ℕ
unfolding line ids_in in_container
lines_of slots [] = []
lines_of slots (k ∷ ks) = line k (ids_in (in_container k slots)) ++ lines_of slots ks

-- a line of the summary, as `nitem = 2`
unfoldable pub named : List ℕ → List ℕ → List ℕ
named name text = name ++ (ascii " = " ++ (text ++ ascii "\n"))

-- all ids; how many; how many containers; the divisions
unfoldable pub summary : List Slot → List ℕ → List ℕ
unfolding named list_text decimal ids_in keys_in
summary slots divisions =
    named (ascii "ids") (list_text (ids_in slots))
    ++ (named (ascii "nitem") (decimal (length (ids_in slots)))
    ++ (named (ascii "ncontainer") (decimal (length (keys_in slots)))
    ++ named (ascii "ndiv") (list_text divisions)))

-- the lines of the containers in use, and the summary
unfoldable pub slots_text : List ℕ → List Slot → List ℕ
unfolding lines_of keys_in summary
slots_text divisions slots = lines_of slots (keys_in slots) ++ summary slots divisions

-- the text of a library's rows on a sheet
unfoldable pub display_text : GridSearch → List Row → List ℕ
unfolding slots_text
display_text s rows = slots_text (counts s.ndim s.ndiv) (map slot_of rows)

-- ---- the call: 24, 13, and 14 where the buffer is shorter than the text

unfoldable pub display_tests : GridSearch → Library → ℕ → List Test
unfolding library_tests display_text table
display_tests s l room = library_tests s l ++ (refuse 14 (ltb room (length (display_text s (table l)))) ∷ [])

-- the text's length with the text at the front of the buffer, or the refusal with the buffer as it was
unfoldable pub showing : GridSearch → Library → List ℕ → Filled
unfolding fill fault display_tests display_text table
showing s l buffer = fill (fault (display_tests s l (length buffer))) (display_text s (table l)) buffer

-- the text's length or the refusal
abbrev pub shown : Result ℕ Refusal → Answer ℕ
shown = answered (λ n. n)

pub record Shows (w : Filled) (r : Result ℕ Refusal) (buffer : List ℕ) : Type 0 where
  pub answers : shown r ≡ w.answer
  pub buffer_is : buffer ≡ w.list

-- a row takes at most 69 bytes of the text, and the summary 148
abbrev pub most_bytes : ℕ → ℕ
most_bytes used = 69 * used + 148

-- the text of a library that is not damaged is no longer
abbrev pub IsShort : GridSearch → Library → Type 0
IsShort s l = fault (library_tests s l) ≡ none → length (display_text s (table l)) ≤ most_bytes l.used
