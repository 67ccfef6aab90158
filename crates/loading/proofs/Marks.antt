-- The marks of whole records, one insertion after the other, and the bytes left over.
-- Assumes nothing.
use Prim.Native.Nat.{ℕ, ◌/◌, ◌%◌, ◌<◌}
use mathlib.Core.Path.{◌≡◌, refl, sym, ap, ◌∙◌}
use mathlib.Core.Bool.{cond}
use mathlib.Core.Option.{Option, none, some}
use mathlib.Core.List.{List, ◌∷◌, ◌++◌}
use lib.ListN.{length}
use lib.Dec.{eqb}
use Rattle.basics.proofs.Bools.{by_test}
use Rattle.basics.specs.Refusals.{Answer, refused, success, fault}
use Rattle.grid_search.specs.declared.GridSearch.{GridSearch}
use Rattle.table.specs.Library.{Library}
use Rattle.rows.specs.Damage.{library_tests}
use Rattle.rows.specs.Turn.{Turn, Gives}
use Rattle.rows.specs.Insert.{insertion}
use Rattle.records.specs.declared.Record.{Record}
use Rattle.records.specs.Records.{reading}
use Rattle.loading.specs.Loading.{place_of, unless, records_of, insert_mark, insert_record, and_then, insert_all, leftover, finish, insert_bytes}
use Rattle.loading.proofs.Chunks.{bytes-are, record_first, no_more}
use Rattle.loading.proofs.InOrder.{no, all_none, all-used, all_sound, one-sound, next_stored, next_stops}

-- ---- one record

pub of_record : (s : GridSearch) (l : Library) (bytes : List ℕ) (m : Record) → reading bytes ≡ success m → insert_record s l bytes ≡ insertion s l m.id (place_of s.ndim m)
unfolding insert_record insert_mark
of_record s l bytes m e = rw e

pub no_record : (s : GridSearch) (l : Library) (bytes : List ℕ) (n : ℕ) → reading bytes ≡ refused n → insert_record s l bytes ≡ record { library = l; answer = refused n }
unfolding insert_record insert_mark
no_record s l bytes n e = rw e

-- ---- bytes left over, and they are judged after the marks

finish-refused : (left : Option ℕ) (t : Turn ℕ) (n : ℕ) → t.answer ≡ refused n → finish left t ≡ t
unfolding finish and_then
finish-refused left t n e = rw e

finish-success : (left : Option ℕ) (l : Library) (n : ℕ) → finish left (record { library = l; answer = success n }) ≡ record { library = l; answer = unless left (success n) }
unfolding finish and_then
finish-success left l n = refl

-- what the bytes left over make of the answer
over : (width rows : ℕ) (bytes : List ℕ) → unless (leftover width bytes) (success rows) ≡ cond (eqb (length bytes % width) 0) (success rows) (refused 13)
unfolding unless leftover fault
over width rows bytes = by_test (eqb (length bytes % width) 0) (λ e. rw e refl) (λ e. rw e refl)

-- ---- the walk over the records: l is the library before the records of the bytes that are left

abbrev pub GoingOn : ℕ → GridSearch → List ℕ → Library → Library → List ℕ → Type 0
GoingOn width s bytes l₀ l left = insert_all (insert_record s) l₀ (records_of width bytes) ≡ insert_all (insert_record s) l (records_of width left)

module _ (width : ℕ) (s : GridSearch) (bytes : List ℕ) (l₀ l : Library) where
  abbrev marks : Turn ℕ
  marks = insert_all (insert_record s) l₀ (records_of width bytes)

  -- the next one
  module _ (some_width : 0 < width) (all a left : List ℕ) (g : GoingOn width s bytes l₀ l all) (parts : all ≡ a ++ left) (e : length a ≡ width) where
    next_one : marks ≡ insert_all (insert_record s) l (a ∷ records_of width left)
    next_one = g ∙ ap (λ (b : List ℕ). insert_all (insert_record s) l (records_of width b)) parts ∙ ap (insert_all (insert_record s) l) (record_first width some_width a left e)

    module _ {after : Library} where
      -- it is stored: go on
      pub stored : (n : ℕ) → Gives (insert_record s l a) (success n) after → GoingOn width s bytes l₀ after left
      stored n u = next_stored (insert_record s) (records_of width bytes) l₀ l a (records_of width left) next_one n u

      -- it is turned away: that is the answer
      pub stopped : (n : ℕ) → Gives (insert_record s l a) (refused n) after → Gives (insert_bytes width s l₀ bytes) (refused n) after
      stopped n u =
          let t = next_stops (insert_record s) (records_of width bytes) l₀ l a (records_of width left) next_one n u in
          rw (bytes-are s width l₀ bytes, finish-refused (leftover width bytes) marks n (sym t.answers)) t

  -- all are stored: the bytes left over decide
  module _ (all left : List ℕ) (g : GoingOn width s bytes l₀ l all) (h : length all / width ≡ 0) (many : length left ≡ length bytes % width) where
    the_end : insert_bytes width s l₀ bytes ≡ record { library = l; answer = unless (leftover width bytes) (success l.used) }
    the_end =
        bytes-are s width l₀ bytes
        ∙ ap (finish (leftover width bytes)) (g ∙ ap (insert_all (insert_record s) l) (no_more width all h) ∙ all_none (insert_record s) l)
        ∙ finish-success (leftover width bytes) l l.used

    pub ended : {a : Answer ℕ} → a ≡ cond (eqb (length left) 0) (success l.used) (refused 13) → Gives (insert_bytes width s l₀ bytes) a l
    ended e = rw the_end (record { answers = e ∙ ap (λ (n : ℕ). cond (eqb n 0) (success l.used) (refused 13)) many ∙ sym (over width l.used bytes); library-is = refl })

-- ---- marks that were all taken

finished : (left : Option ℕ) (t : Turn ℕ) (n : ℕ) (o : Answer ℕ) → t.answer ≡ o
    → (and_then t o (record { library = t.library; answer = unless left t.answer })).answer ≡ success n
    → (t.answer ≡ success n) × ((and_then t o (record { library = t.library; answer = unless left t.answer })).library ≡ t.library)
unfolding and_then unless
finished left t n (refused m) a e = no m n (sym a ∙ e)
finished none t n (success m) a e = (e, refl)
finished (some k) t n (success m) a e = no k n e

-- the rows in use after marks that were all taken are as many as the answer says
pub bytes-used : (width : ℕ) (s : GridSearch) (l : Library) (bytes : List ℕ) (n : ℕ) → (insert_bytes width s l bytes).answer ≡ success n → (insert_bytes width s l bytes).library.used ≡ n
unfolding insert_bytes finish
bytes-used width s l bytes n e =
    let all = insert_all (insert_record s) l (records_of width bytes) in
    let f = finished (leftover width bytes) all n all.answer refl e in
    ap (λ (k : Library). k.used) f.1 ∙ all-used (insert_record s) l (records_of width bytes) n f.0

-- a library that is not damaged and took them all is not damaged
record_sound : (s : GridSearch) (l : Library) → fault (library_tests s l) ≡ none → (bytes : List ℕ) → fault (library_tests s (insert_record s l bytes).library) ≡ none
unfolding insert_record insert_mark
record_sound s l v bytes = go (reading bytes)
  where
    go : (a : Answer Record) → fault (library_tests s (insert_mark s l a).library) ≡ none
    go (refused n) = v
    go (success m) = one-sound s l v m

pub bytes-sound : (width : ℕ) (s : GridSearch) (l : Library) → fault (library_tests s l) ≡ none → (bytes : List ℕ) (n : ℕ) → (insert_bytes width s l bytes).answer ≡ success n
    → fault (library_tests s (insert_bytes width s l bytes).library) ≡ none
unfolding insert_bytes finish
bytes-sound width s l v bytes n e =
    let all = insert_all (insert_record s) l (records_of width bytes) in
    rw (finished (leftover width bytes) all n all.answer refl e).1 (all_sound (insert_record s) s (record_sound s) l v (records_of width bytes))
