-- `grid_search::same_sheet` meets its contract. Assumes nothing.
use Rattle.grid_search.specs.Sheet.{same_sheet, same_divisions}
use Rattle.grid_search.proofs.same_sheet.Goals as goal

pub returns : goal.returns
unfolding same_sheet same_divisions
returns c = rw (
  c.same_position.ensures,
  c.same_position-2.ensures,
  c.eq.ensures,
  c.same_position-3.ensures,
  c.same_position-4.ensures,
  c.same_bits.ensures,
  c.same_bits-2.ensures,
  c.same_bits-3.ensures,
)
