-- `cell_rows::Filing::pack_rows` meets its contract. Assumes nothing.
use Rattle.mesh.specs.Mesh.{seen}
use Rattle.cell_sizes.specs.Steps.{files}
use Rattle.cell_rows.proofs.Tallies.{Packing}
use Rattle.cell_rows.proofs.Filing.pack_rows.Given as goal

abbrev pub invariant-loop-cell : goal.invariant-loop-cell
invariant-loop-cell l = Packing l.self.grid (files l.self.sizes) l.self.grid.ndim (seen l.self.mesh.mesh) l.cell l.n l.initial.rows l.rows
