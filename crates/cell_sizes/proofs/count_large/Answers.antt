use Rattle.std.proofs.Common.{arith}
use Rattle.mesh.specs.Mesh.{seen, boxed}
use Rattle.cell_sizes.proofs.Measures.{census_start, census_next, census_end}
use Rattle.cell_sizes.proofs.count_large.Goals as goal

pub loop-cell-init : goal.loop-cell-init
loop-cell-init c = census_start c.args.mesh.ndim.n (seen c.args.mesh.mesh) c.args.limit

pub loop-cell-preserved : goal.loop-cell-preserved
loop-cell-preserved c =
    let l = c.loop-cell in
    let n = c.args.mesh.ndim.n in
    census_next n (seen c.args.mesh.mesh) c.args.limit l.cell l.found c.counted-found.result (boxed n c.bounding_box.result) (omega arith) l.invariant c.bounding_box.ensures c.counted-found.ensures

pub returns : goal.returns
returns c = census_end c.args.mesh.ndim.n (seen c.args.mesh.mesh) c.args.limit c.loop-cell.cell c.loop-cell.found (omega arith) c.loop-cell.invariant
