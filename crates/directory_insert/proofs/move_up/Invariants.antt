-- `move_up` meets its contract. Invariant: `Stepping` over the whole list.
-- Assumes nothing.
use Rattle.std.proofs.Common.{length}
use Rattle.directory_insert.proofs.Places.{Stepping}
use Rattle.directory_insert.proofs.move_up.Given as goal

abbrev pub invariant-loop-entry : goal.invariant-loop-entry
invariant-loop-entry l = Stepping 0 (length l.fn.s) l.entry-index l.fn.s l.entry-items
