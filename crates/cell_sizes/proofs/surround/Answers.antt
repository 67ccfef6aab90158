use Rattle.std.proofs.Common.{arith}
use Rattle.mesh.specs.Mesh.{seen}
use Rattle.cell_sizes.proofs.Measures.{extent_start, extent_next, extent_end}
use Rattle.cell_sizes.proofs.surround.Goals as goal

pub loop-cell-init : goal.loop-cell-init
loop-cell-init c = extent_start c.args.mesh.ndim.n (seen c.args.mesh.mesh) c.bounding_box-first.result c.largest_length.result c.requires c.bounding_box-first.ensures c.largest_length.ensures

pub loop-cell-preserved : goal.loop-cell-preserved
loop-cell-preserved c =
    let l = c.loop-cell in
    extent_next c.args.mesh.ndim.n (seen c.args.mesh.mesh) l.cell l.all c.widened-all.result c.bounding_box.result (omega arith) l.invariant c.bounding_box.ensures c.widened-all.ensures

pub returns : goal.returns
returns c = extent_end c.args.mesh.ndim.n (seen c.args.mesh.mesh) c.loop-cell.cell c.loop-cell.all (omega arith) c.loop-cell.invariant
