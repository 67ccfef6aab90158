-- The invariant: the marks up to i are good, and their lines were put.
-- Assumes nothing.
use Rattle.mark_lists.specs.Lent.{lent}
use Rattle.survey_export.proofs.Walk.{Sofar}
use Rattle.survey_export.proofs.put_marks.Given as goal

abbrev pub invariant-loop-i : goal.invariant-loop-i
invariant-loop-i l = Sofar (lent l.marks.lists) l.initial.writer l.writer l.i
