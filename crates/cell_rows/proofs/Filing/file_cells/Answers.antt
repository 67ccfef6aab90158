-- `cell_rows::Filing::file_cells` meets its contract. Assumes nothing.
use Rattle.std.proofs.Common.{◌≤◌, length, arith}
use Rattle.mesh.specs.Mesh.{seen}
use Rattle.cell_sizes.specs.Large.{boxes}
use Rattle.cell_sizes.specs.Steps.{files}
use Rattle.cell_sizes.proofs.Boxes.{length-boxes}
use Rattle.cell_rows.proofs.Tallies.{filed_rows}
use Rattle.cell_rows.proofs.Filing.file_cells.Goals as goal

pub returns : goal.returns
returns c =
    let s = c.args.self in
    let m = seen s.mesh.mesh in
    let fits = s.few in
    let few : length (boxes s.grid.ndim m) ≤ 65536 = omega (arith, length-boxes s.grid.ndim m) in
    filed_rows s.grid (files s.sizes) (boxes s.grid.ndim m) few c.pack_rows-n.ensures c.sort.ensures c.unpack.ensures.keys c.unpack.ensures.cells
