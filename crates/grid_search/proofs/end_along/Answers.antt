-- `grid_search::end_along` meets its contract. Assumes nothing.
use Rattle.std.proofs.Common.{◌^◌, arith, le→leb}
use lib.Ieee.{in_float}
use Rattle.grid_search.proofs.end_along.Goals as goal

pub int_to_float-result : goal.int_to_float-result
unfolding in_float
int_to_float-result c = le→leb c.args.n (2 ^ 53) (omega arith)
