-- `grid_search::diagonal` meets its contract: the two constants are the roots of 2 and 3. Assumes nothing.
use lib.Ieee.{of_bits, of_int}
use Rattle.geometry.proofs.Axes.{three}
use Rattle.grid_search.specs.Sheet.{diagonal}
use Rattle.grid_search.proofs.diagonal.Goals as goal

pub returns-then-ndim-eq2 : goal.returns-then-ndim-eq2
unfolding diagonal of_bits of_int
returns-then-ndim-eq2 c = rw c.if-ndim-eq2.true

pub returns-else-ndim-eq2 : goal.returns-else-ndim-eq2
unfolding diagonal of_bits of_int
returns-else-ndim-eq2 c = rw (three c.args.ndim.n c.args.ndim.two_or_three c.if-ndim-eq2.false)
