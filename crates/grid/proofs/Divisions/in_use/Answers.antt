-- `grid::Divisions::in_use` meets its contract. Assumes nothing.
use Rattle.geometry.proofs.Axes.{three}
use Rattle.grid.proofs.Divisions.in_use.Goals as goal

pub returns-then-ndim-eq2 : goal.returns-then-ndim-eq2
returns-then-ndim-eq2 c = rw c.if-ndim-eq2.true

pub returns : goal.returns
returns c = rw (three c.args.ndim.n c.args.ndim.two_or_three c.if-ndim-eq2.false)
