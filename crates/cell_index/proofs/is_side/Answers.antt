-- `cell_index::is_side` meets its contract. Assumes nothing.
use mathlib.Core.Path.{refl}
use lib.Ieee.{of_bits}
use Rattle.cell_index.proofs.is_side.Goals as goal

pub returns : goal.returns
unfolding of_bits
returns c = refl
