-- `geometry::is_coordinate` meets its contract. Assumes nothing.
use lib.Ieee.{of_bits}
use Rattle.geometry.proofs.is_coordinate.Goals as goal

pub returns : goal.returns
unfolding of_bits
returns c = c.is_within.ensures
