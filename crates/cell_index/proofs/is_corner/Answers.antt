-- `cell_index::is_corner` meets its contract. Assumes nothing.
use lib.Ieee.{of_bits}
use Rattle.cell_index.proofs.is_corner.Goals as goal

pub returns : goal.returns
unfolding of_bits
returns c = c.is_within.ensures
