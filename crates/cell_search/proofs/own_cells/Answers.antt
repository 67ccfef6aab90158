-- `cell_search::own_cells` meets its contract. Assumes nothing.
use Rattle.std.proofs.Common.{◌+◌, take, sym, arith}
use lib.Seq.{length-take-le}
use Rattle.mesh.specs.Mesh.{seen}
use Rattle.table.proofs.First.{rising}
use Rattle.cell_index.specs.Index.{cell_rows}
use Rattle.cell_search.proofs.Answers.{usable_index}
use Rattle.cell_search.proofs.Container.{lead-le, part_end, part_cells, part_numbers}
use Rattle.cell_search.proofs.own_cells.Goals as goal

pub slice_bounds-keys-end : goal.slice_bounds-keys-end
slice_bounds-keys-end c = sym (length-take-le c.args.index.grid.used c.args.index.lists.keys.now (usable_index c.args.index).rows.in_keys)

pub first_of-from-requires : goal.first_of-from-requires
first_of-from-requires c = rising (usable_index c.args.index).rows

pub first_of-to-requires : goal.first_of-to-requires
first_of-to-requires c = rising (usable_index c.args.index).rows

pub offset_bounds-index-from : goal.offset_bounds-index-from
offset_bounds-index-from c =
    let i = c.args.index in
    let rows = (usable_index i).rows in
    let to = part_end i.lists.keys.now i.lists.cells.now i.grid.used c.args.key.0 rows c.first_of-from.ensures c.first_of-to.ensures in
    omega (arith, rows.in_ids, to, c.first_of-from.ensures, c.first_of-to.ensures, lead-le c.args.key.0 (c.args.key.0 + 1) (take i.grid.used i.lists.keys.now) (omega arith))

pub slice_bounds-result-count : goal.slice_bounds-result-count
slice_bounds-result-count c =
    let i = c.args.index in
    let ends = lead-le c.args.key.0 (c.args.key.0 + 1) (take i.grid.used i.lists.keys.now) (omega arith) in
    omega (arith, c.first_of-from.ensures, c.first_of-to.ensures, ends)

pub slice_bounds-result-start : goal.slice_bounds-result-start
slice_bounds-result-start c =
    let i = c.args.index in
    let ends = lead-le c.args.key.0 (c.args.key.0 + 1) (take i.grid.used i.lists.keys.now) (omega arith) in
    omega (arith, c.first_of-from.ensures, c.first_of-to.ensures, ends)

pub slice_bounds-result-end : goal.slice_bounds-result-end
slice_bounds-result-end c =
    let i = c.args.index in
    let rows = (usable_index i).rows in
    omega (arith, rows.in_ids, part_end i.lists.keys.now i.lists.cells.now i.grid.used c.args.key.0 rows c.first_of-from.ensures c.first_of-to.ensures)

pub returns-clause-cells : goal.returns-clause-cells
unfolding cell_rows
returns-clause-cells c =
    let i = c.args.index in
    part_cells i.lists.keys.now i.lists.cells.now i.grid.used c.args.key.0 (usable_index i).rows c.first_of-from.ensures c.first_of-to.ensures

pub returns-clause-numbers : goal.returns-clause-numbers
returns-clause-numbers c =
    let i = c.args.index in
    let u = usable_index i in
    part_numbers i.grid.ndim (seen i.mesh.mesh) i.lists.cells.now i.grid.used c.first_of-from.result c.first_of-to.result
    (part_end i.lists.keys.now i.lists.cells.now i.grid.used c.args.key.0 u.rows c.first_of-from.ensures c.first_of-to.ensures) u.cells
