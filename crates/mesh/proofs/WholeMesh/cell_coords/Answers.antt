-- `mesh::WholeMesh::cell_coords` meets its contract. Assumes nothing.
use Rattle.std.proofs.Common.{◌∙◌}
use Rattle.geometry.proofs.Axes.{three}
use Rattle.mesh.proofs.Boxes.{triangle_is, tetrahedron_is}
use Rattle.mesh.specs.Mesh.{seen, corner_points}
use Rattle.mesh.proofs.WholeMesh.cell_coords.Goals as goal

pub returns-then-self-eq2 : goal.returns-then-self-eq2
returns-then-self-eq2 c =
    let n = c.args.self.ndim.n in
    c.triangle_coords.ensures ∙ triangle_is n (corner_points n (seen c.args.self.mesh) c.args.cell)
    c.corner-xa.result c.corner-xb.result c.corner-xc.result c.args.x c.if-self-eq2.true
    c.corner-xa.ensures c.corner-xb.ensures c.corner-xc.ensures

pub returns : goal.returns
returns c =
    let n = c.args.self.ndim.n in
    c.tetrahedron_coords.ensures ∙ tetrahedron_is n (corner_points n (seen c.args.self.mesh) c.args.cell)
    c.corner-xa.result c.corner-xb.result c.corner-xc.result c.corner-xd.result c.args.x
    (three n c.args.self.ndim.two_or_three c.if-self-eq2.false)
    c.corner-xa.ensures c.corner-xb.ensures c.corner-xc.ensures c.corner-xd.ensures
