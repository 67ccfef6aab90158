-- `grid_search::out_of_limits` meets its contract. Assumes nothing.
use Rattle.grid_search.specs.Sheet.{out_of_limits}
use Rattle.grid_search.proofs.out_of_limits.Goals as goal

pub returns : goal.returns
unfolding out_of_limits
returns c = cc
