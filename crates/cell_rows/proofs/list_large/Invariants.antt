-- `cell_rows::list_large` meets its contract. Assumes nothing.
use Rattle.mesh.specs.Mesh.{seen}
use Rattle.cell_sizes.specs.Large.{is_large}
use Rattle.cell_rows.proofs.Tallies.{Marking}
use Rattle.cell_rows.proofs.list_large.Given as goal

abbrev pub invariant-loop-cell : goal.invariant-loop-cell
invariant-loop-cell l = Marking l.mesh.ndim.n (seen l.mesh.mesh) (is_large l.apart.limit) l.cell l.n l.initial.large l.large
