-- `grid::index_along` meets its contract. Assumes nothing.
use Rattle.std.proofs.Common.{lt-ltb, le-ltb}
use Rattle.grid.specs.Containers.{along}
use Rattle.grid.proofs.index_along.Goals as goal

pub returns-then-r-n-clause-value : goal.returns-then-r-n-clause-value
unfolding along
returns-then-r-n-clause-value c = rw (← c.ratio-r.ensures, lt-ltb c.args.n c.ratio-r.result c.if-r-n.true)

pub returns-else-r-n-clause-value : goal.returns-else-r-n-clause-value
unfolding along
returns-else-r-n-clause-value c = rw (← c.ratio-r.ensures, le-ltb c.args.n c.ratio-r.result c.if-r-n.false, c.inner.ensures.value)
