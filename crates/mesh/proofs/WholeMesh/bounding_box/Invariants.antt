-- `mesh::WholeMesh::bounding_box` meets its contract. Assumes nothing.
use Rattle.mesh.specs.Mesh.{seen}
use Rattle.mesh.proofs.Boxes.{Joined}
use Rattle.mesh.proofs.WholeMesh.bounding_box.Given as goal

abbrev pub invariant-loop-k : goal.invariant-loop-k
invariant-loop-k l = Joined l.self.ndim.n (seen l.self.mesh) l.cell l.k l.all
