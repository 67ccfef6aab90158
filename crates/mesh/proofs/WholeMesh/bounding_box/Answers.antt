use Rattle.std.proofs.Common.{arith}
use Rattle.mesh.specs.Mesh.{seen}
use Rattle.mesh.proofs.Boxes.{joined_start, joined_next, joined_end}
use Rattle.mesh.proofs.WholeMesh.bounding_box.Goals as goal

pub loop-k-init : goal.loop-k-init
loop-k-init c = joined_start c.args.self.ndim.n (seen c.args.self.mesh) c.args.cell c.around-all.result c.corner.result c.around-all.ensures c.corner.ensures

pub loop-k-preserved : goal.loop-k-preserved
loop-k-preserved c =
    let n = c.args.self.ndim.n in
    joined_next n (seen c.args.self.mesh) c.args.cell c.loop-k.k c.loop-k.all c.around.result c.joined-all.result c.corner-x.result
    (omega arith) c.loop-k.invariant c.around.ensures c.corner-x.ensures (c.joined-all.ensures n)

pub returns : goal.returns
returns c = joined_end c.args.self.ndim.n (seen c.args.self.mesh) c.args.cell c.loop-k.k c.loop-k.all (omega arith) c.loop-k.invariant
