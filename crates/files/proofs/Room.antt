-- Marks that are inserted leave the lists as long as they were.
-- Assumes nothing.
use Prim.Native.Nat.{ℕ}
use mathlib.Core.Path.{◌≡◌, refl, ◌∙◌}
use mathlib.Core.List.{List, [], ◌∷◌}
use Rattle.basics.specs.Refusals.{Answer, refused, success}
use Rattle.grid_search.specs.declared.GridSearch.{GridSearch}
use Rattle.table.specs.Library.{Library, space}
use Rattle.rows.specs.Turn.{Turn}
use Rattle.rows.proofs.Kept.{insertion-space}
use Rattle.records.specs.declared.Record.{Record}
use Rattle.records.specs.Records.{reading}
use Rattle.loading.specs.Loading.{place_of, unless, and_then, insert_mark, insert_record, insert_all, records_of, leftover, finish, insert_bytes}

record_space : (s : GridSearch) (l : Library) (bytes : List ℕ) → space (insert_record s l bytes).library ≡ space l
unfolding insert_record insert_mark
record_space s l bytes = go (reading bytes)
  where
    go : (a : Answer Record) → space (insert_mark s l a).library ≡ space l
    go (refused n) = refl
    go (success m) = insertion-space s l m.id (place_of s.ndim m)

records_space : (s : GridSearch) (l : Library) (all : List (List ℕ)) → space (insert_all (insert_record s) l all).library ≡ space l
unfolding insert_all and_then
records_space s l [] = refl
records_space s l (bytes ∷ rest) =
    let t = insert_record s l bytes in
    go t (insert_all (insert_record s) t.library rest) t.answer (record_space s l bytes) (records_space s t.library rest)
  where
    go : (t u : Turn ℕ) (o : Answer ℕ) → space t.library ≡ space l → space u.library ≡ space t.library → space (and_then t o u).library ≡ space l
    go t u (refused n) a b = a
    go t u (success n) a b = b ∙ a

pub bytes-space : (width : ℕ) (s : GridSearch) (l : Library) (bytes : List ℕ) → space (insert_bytes width s l bytes).library ≡ space l
unfolding insert_bytes finish and_then
bytes-space width s l bytes =
    let t = insert_all (insert_record s) l (records_of width bytes) in
    go t t.answer (records_space s l (records_of width bytes))
  where
    go : (t : Turn ℕ) (o : Answer ℕ) → space t.library ≡ space l
        → space (and_then t o (record { library = t.library; answer = unless (leftover width bytes) t.answer })).library ≡ space l
    go t (refused n) e = e
    go t (success n) e = e
