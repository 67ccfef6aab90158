-- `mesh::WholeMesh::corner` meets its contract. Assumes nothing.
use Rattle.std.proofs.Common.{◌+◌, ◌*◌, sym, ap, ◌∙◌, get_or}
use Rattle.mesh.proofs.Whole.{corner_in, corner_names, names_point, point_in, length_point, corner_at}
use Rattle.mesh.specs.Mesh.{seen, Whole, point_at}
use Rattle.geometry.proofs.Axes.{coords_of}
use Rattle.mesh.proofs.WholeMesh.corner.Goals as goal

pub point-requires : goal.point-requires
point-requires c =
    let n = c.args.self.ndim.n in
    let m = seen c.args.self.mesh in
    let i = c.args.cell * (n + 1) + c.args.k in
    let whole : Whole n m = record { axes = c.args.self.ndim.two_or_three; whole = c.args.self.whole } in
    let named = c.corner_point.ensures ∙ corner_names n m c.args.cell c.args.k c.requires.corner in
    rw named (point_in n m whole (get_or m.corners i 0) (names_point n m whole i (corner_in n m c.args.cell c.args.k c.requires.cell c.requires.corner)))

pub returns : goal.returns
unfolding point_at
returns c =
    let n = c.args.self.ndim.n in
    let m = seen c.args.self.mesh in
    let named = c.corner_point.ensures ∙ corner_names n m c.args.cell c.args.k c.requires.corner in
    let p = c.corner_point.result in
    coords_of n (point_at n m p) c.point.result c.args.self.ndim.two_or_three (length_point n m p) c.point.ensures
    ∙ ap (point_at n m) named
    ∙ sym (corner_at n m c.args.cell c.args.k c.requires.corner)
