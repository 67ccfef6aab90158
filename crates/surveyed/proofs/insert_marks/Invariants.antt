-- Invariant: the library is the one after the first i marks, in the same lists.
-- Assumes nothing.
use Rattle.table.specs.Lent.{lent_mut, SameLists}
use Rattle.loading.specs.Loading.{insert_one}
use Rattle.loading.proofs.InOrder.{Going}
use Rattle.mark_lists.specs.MarkLists.{mark_at}
use Rattle.mark_lists.specs.Lent.{lent}
use Rattle.surveyed.proofs.insert_marks.Given as goal

abbrev pub invariant-loop-i : goal.invariant-loop-i
invariant-loop-i l = Going (insert_one l.sheet) l.marks.lists.used (mark_at (lent l.marks.lists)) (lent_mut l.fn.library) (lent_mut l.library) l.i × SameLists l.fn.library l.library
