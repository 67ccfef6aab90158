-- `grid_cells::refusals::is_no_part` meets its contract. Assumes nothing.
use mathlib.Core.Path.{refl}
use lib.Ieee.{of_bits}
use Rattle.grid_cells.specs.Build.{not_part}
use Rattle.grid_cells.proofs.refusals.is_no_part.Goals as goal

pub returns : goal.returns
unfolding not_part of_bits
returns c = refl
