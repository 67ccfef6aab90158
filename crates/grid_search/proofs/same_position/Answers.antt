-- `grid_search::same_position` meets its contract. Assumes nothing.
use Rattle.grid_search.specs.Sheet.{same_position}
use Rattle.grid_search.proofs.same_position.Goals as goal

pub returns : goal.returns
unfolding same_position
returns c = rw (c.same_bits.ensures, c.same_bits-2.ensures, c.same_bits-3.ensures)
