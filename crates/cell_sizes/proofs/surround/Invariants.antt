-- `cell_sizes::surround` meets its contract. Assumes nothing.
use Rattle.mesh.specs.Mesh.{seen}
use Rattle.cell_sizes.proofs.Measures.{Passed}
use Rattle.cell_sizes.proofs.surround.Given as goal

abbrev pub invariant-loop-cell : goal.invariant-loop-cell
invariant-loop-cell l = Passed l.mesh.ndim.n (seen l.mesh.mesh) l.cell l.all
