-- Invariant: the library is the one after the marks taken so far, and all marks from the start on it are those of the bytes that are
-- left from there.
-- Assumes nothing.
use mathlib.Core.Path.{◌≡◌}
use Rattle.std.specs.Slice.Iter.{chunks_exact_size, chunks_exact_rest}
use Rattle.table.specs.Lent.{lent_mut, SameLists}
use Rattle.loading.proofs.Marks.{GoingOn}
use Rattle.loading.proofs.insert_records.Given as goal

abbrev pub invariant-loop-record : goal.invariant-loop-record
invariant-loop-record l =
    (chunks_exact_size l.record-iterator ≡ l.width)
    × GoingOn l.width l.sheet l.bytes (lent_mut l.fn.library) (lent_mut l.library) (chunks_exact_rest l.record-iterator)
    × SameLists l.fn.library l.library
