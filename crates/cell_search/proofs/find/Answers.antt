-- `cell_search::find` meets its contract. Assumes nothing.
use Rattle.std.proofs.Common.{sym}
use lib.Seq.{length-take-le}
use Rattle.cell_index.specs.Index.{cell_rows, large_cells}
use Rattle.cell_search.specs.Search.{candidates}
use Rattle.cell_search.proofs.Answers.{usable_index}
use Rattle.cell_search.proofs.Container.{found_first, found-second}
use Rattle.cell_search.proofs.find.Goals as goal

pub slice_bounds-large-end : goal.slice_bounds-large-end
slice_bounds-large-end c = let i = c.args.index in sym (length-take-le i.grid.large i.lists.large.now (usable_index i).room)

pub find_cell-requires : goal.find_cell-requires
unfolding large_cells
find_cell-requires c = let i = c.args.index in rw i.axes (usable_index i).large

pub returns-in-None : goal.returns-in-None
unfolding candidates large_cells cell_rows
returns-in-None c =
    let i = c.args.index in
    let large = rw i.axes at c.find_cell.ensures in
    let own = rw (i.axes, c.own_cells.ensures.cells) at c.find_cell-in-None.ensures in
    found-second i.grid.ndim _ _ _ _ large c.in-None.is own

pub returns-in_default : goal.returns-in_default
unfolding candidates large_cells cell_rows
returns-in_default c =
    let large = rw c.args.index.axes at c.find_cell.ensures in
    found_first c.args.index.grid.ndim _ _ _ _ large c.in_default.not-None
