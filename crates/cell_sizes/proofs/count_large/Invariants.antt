-- `cell_sizes::count_large` meets its contract. Assumes nothing.
use Rattle.mesh.specs.Mesh.{seen}
use Rattle.cell_sizes.proofs.Measures.{Seen}
use Rattle.cell_sizes.proofs.count_large.Given as goal

abbrev pub invariant-loop-cell : goal.invariant-loop-cell
invariant-loop-cell l = Seen l.mesh.ndim.n (seen l.mesh.mesh) l.limit l.cell l.found
