-- The invariant: the walk came to the first row of a container, or to a row of a near one that was begun.
-- Assumes nothing.
use Rattle.std.proofs.Common.{◌-◌}
use Rattle.table.specs.Lent.{lent}
use Rattle.listing.specs.Posts.{Walked}
use Rattle.listing.proofs.walk.Walk.gather.Given as goal

abbrev pub invariant-loop-to : goal.invariant-loop-to
invariant-loop-to l = Walked l.walk.sheet l.walk.ready.place l.walk.filter (lent l.walk.library) l.walk.counts l.to l.marks

abbrev pub decreases-loop-to : goal.decreases-loop-to
decreases-loop-to l = l.walk.library.used - l.to.row
