-- `tolerance_in_force` meets its contract. Assumes nothing.
use Rattle.std.proofs.Common.{◌∙◌}
use lib.Ieee.{of_bits}
use Rattle.grid_search.proofs.InForce.{tolerance-is}
use Rattle.grid_search.proofs.tolerance_in_force.Goals as goal

pub returns : goal.returns
unfolding of_bits
returns c = c.unwrap_or.ensures ∙ tolerance-is c.args.tolerance
