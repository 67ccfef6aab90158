-- `grid::longer` meets its contract. Assumes nothing.
use Rattle.grid.specs.Divisions.{longer}
use Rattle.grid.proofs.longer.Goals as goal

pub returns-then-delta-best : goal.returns-then-delta-best
unfolding longer
returns-then-delta-best c = rw c.if-delta-best.true

pub returns-else-delta-best : goal.returns-else-delta-best
unfolding longer
returns-else-delta-best c = rw c.if-delta-best.false
