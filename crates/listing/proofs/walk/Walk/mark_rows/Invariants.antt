-- The invariant: the rows before this one that count are marked, and a place is left for one more.
-- Assumes nothing.
use Rattle.table.specs.Lent.{lent}
use Rattle.listing.proofs.Walks.{Marking}
use Rattle.listing.proofs.walk.Walk.mark_rows.Given as goal

abbrev pub invariant-loop-row : goal.invariant-loop-row
invariant-loop-row l = Marking l.self.sheet l.self.ready.place l.self.filter (lent l.self.library) l.first l.marked l.initial.marks l.row l.n l.marks
