-- `cell_rows::Filing::count_rows` meets its contract. Assumes nothing.
use Rattle.mesh.specs.Mesh.{seen}
use Rattle.cell_sizes.specs.Steps.{files}
use Rattle.cell_rows.proofs.Tallies.{Tallied}
use Rattle.cell_rows.proofs.Filing.count_rows.Given as goal

abbrev pub invariant-loop-cell : goal.invariant-loop-cell
invariant-loop-cell l = Tallied l.self.grid (files l.self.sizes) l.self.grid.ndim (seen l.self.mesh.mesh) l.cell l.n
