-- The invariant: the marks of the lines passed stand at the lists' start.
-- Assumes nothing.
use Rattle.lines.specs.Left.{lines_left}
use Rattle.mark_lists.specs.Lent.{lent_mut, SameLists}
use Rattle.survey_import.proofs.Stored.{Storing}
use Rattle.survey_import.proofs.store.Given as goal

abbrev pub invariant-loop-line : goal.invariant-loop-line
invariant-loop-line l = record {
  storing : Storing l.text (lent_mut l.fn.lists) (lent_mut l.lists) (lines_left l.line-iterator);
  same_lists : SameLists l.fn.lists l.lists;
}
