-- `grid_search::past_limits` meets its contract. Assumes nothing.
use Rattle.std.proofs.Common.{refl}
use lib.Ieee.{of_bits}
use Rattle.grid_search.specs.Sheet.{past_limits}
use Rattle.grid_search.proofs.past_limits.Goals as goal

pub returns : goal.returns
unfolding past_limits of_bits
returns c = refl
