-- `close_gaps` meets its contract, by the laws of the pass. Invariant: of the first i rows those of other ids are at the front.
-- Assumes nothing.
use Rattle.table.specs.Lent.{lent_mut, SameLists}
use Rattle.strike.proofs.Removal.{Closing}
use Rattle.strike.proofs.close_gaps.Given as goal

abbrev pub invariant-loop-i : goal.invariant-loop-i
invariant-loop-i l = record {
  closing : Closing l.id l.at l.i (lent_mut l.fn.library) (lent_mut l.library);
  same_lists : SameLists l.fn.library l.library;
}
