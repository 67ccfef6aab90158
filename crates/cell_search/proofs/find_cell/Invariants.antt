-- `cell_search::find_cell` meets its contract. Invariants: no cell before this one contains the position, and no axis before `i` fails. Assumes nothing.
use Rattle.mesh.specs.Mesh.{seen}
use Rattle.cell_search.proofs.Walk.{AxesPassed, Seeking}
use Rattle.cell_search.proofs.find_cell.Given as goal

abbrev pub invariant-loop-i : goal.invariant-loop-i
invariant-loop-i l = AxesPassed l.mesh.ndim.n l.b l.x l.i

abbrev pub invariant-outer : goal.invariant-outer
invariant-outer l = Seeking l.mesh.ndim.n (seen l.mesh.mesh) l.x l.cells l.cell_id-index
