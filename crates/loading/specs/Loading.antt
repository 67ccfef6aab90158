-- A sheet and marks from the bytes of their files.
-- Assumes nothing.
use Rattle.std.specs.Prelude.{ℕ, ◌*◌, ◌/◌, ◌%◌, not, List, [], ◌∷◌, eqb, length, take, drop, Float, Result, Some, None}
use Rattle.std.proofs.Math.Option.{Option, none, some}
use Rattle.basics.specs.Lists.{tab}
use Rattle.basics.specs.Refusals.{Test, refuse, fault, Answer, refused, success}
use Rattle.geometry.specs.Position.{coords, dimension}
use Rattle.grid_search.specs.declared.GridSearch.{GridSearch}
use Rattle.grid_search.specs.Sheet.{new_sheet}
use Rattle.basics.specs.declared.Refusal.{Refusal}
use Rattle.table.specs.Library.{Library}
use Rattle.rows.specs.Turn.{Turn, Gives}
use Rattle.rows.specs.Insert.{insertion, inserted}
use Rattle.records.specs.declared.Record.{Record}
use Rattle.records.specs.Records.{record_at, reading}

-- the floats of a record on the first n axes: in 2D the third is not read
abbrev pub place_of : ℕ → Record → List Float
place_of n r = coords n (record { x = r.x; y = r.y; z = r.z })

-- ---- sheet.bin: two records, dimension and low corner, divisions and high corner; other settings left out

unfoldable pub file_tests : List ℕ → List Test
file_tests bytes =
    refuse 13 (not (eqb (length bytes) 64))
    ∷ refuse 1 (not (dimension (record_at bytes 0).id))
    ∷ []

unfoldable pub unless : {A : Type 0} → Option ℕ → Answer A → Answer A
unless none a = a
unless (some n) a = refused n

unfoldable pub sheet_of_records : List ℕ → Answer GridSearch
unfolding unless fault file_tests
sheet_of_records bytes =
    let low = record_at bytes 0 in
    let high = record_at bytes 32 in
    unless (fault (file_tests bytes))
    (new_sheet (place_of low.id low) (place_of low.id high) (Some high.id) None None)

-- the sheet of what the file holds; none: a file that is missing or cannot be read
unfoldable pub sheet_in : Option (List ℕ) → Answer GridSearch
unfolding sheet_of_records
sheet_in none = refused 13
sheet_in (some bytes) = sheet_of_records bytes

-- ---- marks: a record of the file's width for each

-- the whole records, each as its bytes
unfoldable pub records_of : ℕ → List ℕ → List (List ℕ)
records_of width bytes = tab (length bytes / width) (λ i. take width (drop (i * width) bytes))

-- a mark, at its place on the sheet's axes
abbrev pub insert_one : GridSearch → Library → Record → Turn ℕ
insert_one s l m = insertion s l m.id (place_of s.ndim m)

-- the mark of a record: 13 where the bytes are none
unfoldable pub insert_mark : GridSearch → Library → Answer Record → Turn ℕ
unfolding insertion
insert_mark s l (refused n) = record { library = l; answer = refused n }
insert_mark s l (success r) = insert_one s l r

unfoldable pub insert_record : GridSearch → Library → List ℕ → Turn ℕ
unfolding insert_mark reading
insert_record s l bytes = insert_mark s l (reading bytes)

-- one turn, and the next where it was not turned away
unfoldable pub and_then : Turn ℕ → Answer ℕ → Turn ℕ → Turn ℕ
and_then t (refused n) next = t
and_then t (success n) next = next

-- each in order, by the turn that one takes, up to the first that is turned away
unfoldable pub insert_all : {A : Type 0} → (Library → A → Turn ℕ) → Library → List A → Turn ℕ
unfolding and_then
insert_all one l [] = record { library = l; answer = success l.used }
insert_all one l (a ∷ rest) = let t = one l a in and_then t t.answer (insert_all one t.library rest)

-- bytes past the last whole record: 13
unfoldable pub leftover : ℕ → List ℕ → Option ℕ
unfolding fault
leftover width bytes = fault (refuse 13 (not (eqb (length bytes % width) 0)) ∷ [])

-- and they are judged after the marks
unfoldable pub finish : Option ℕ → Turn ℕ → Turn ℕ
unfolding and_then unless
finish left t = and_then t t.answer (record { library = t.library; answer = unless left t.answer })

unfoldable pub insert_bytes : ℕ → GridSearch → Library → List ℕ → Turn ℕ
unfolding finish leftover insert_all insert_record records_of
insert_bytes width s l bytes = finish (leftover width bytes) (insert_all (insert_record s) l (records_of width bytes))

-- What is returned, and the library at exit, once several marks are inserted. After a refusal the rows in use are those of the marks before it.
abbrev pub Inserts : Turn ℕ → Result ℕ Refusal → Library → Type 0
Inserts t r after = Gives t (inserted r) after
