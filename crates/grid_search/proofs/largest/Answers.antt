-- `grid_search::largest` meets its contract. Assumes nothing.
use Rattle.geometry.proofs.Axes.{three}
use Rattle.grid_search.specs.Sheet.{largest}
use Rattle.grid_search.proofs.largest.Goals as goal

pub returns-then-ndim-eq2 : goal.returns-then-ndim-eq2
unfolding largest
returns-then-ndim-eq2 c = rw c.if-ndim-eq2.true c.max-first.ensures

pub returns : goal.returns
unfolding largest
returns c = rw (three c.args.ndim.n c.args.ndim.two_or_three c.if-ndim-eq2.false) (rw c.max-first.ensures at c.max.ensures)
