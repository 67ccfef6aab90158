use Rattle.std.proofs.Common.{ap, ◌∙◌, arith}
use Rattle.windows.specs.Window.{lies}
use Rattle.listing.specs.Place.{asked}
use Rattle.listing.proofs.Places.{line-told, circle-told, cylinder-told, plane-lies}
use Rattle.listing.proofs.near.lies_at.Goals as goal

pub returns-in-Line : goal.returns-in-Line
returns-in-Line g c = (
  c.point.result,
  (
    c.point.ensures,
    c.holds.ensures
        ∙ ap (lies c.args.w.from c.args.w.to)
        (rw c.in-Line.is (line-told c.args.ndim.n _ _ c.point.result (rw c.in-Line.is at c.requires.window)
        (c.line_square.ensures _ _ (rw c.in-Line.is at c.requires.line)))),
  ),
)

pub returns-in-Circle : goal.returns-in-Circle
returns-in-Circle g c = (
  c.point-in-Circle.result,
  (
    c.point-in-Circle.ensures,
    c.holds-in-Circle.ensures
        ∙ ap (lies c.args.w.from c.args.w.to) (rw c.in-Circle.is (circle-told c.args.ndim.n _ c.point-in-Circle.result _ (rw c.in-Circle.is at c.requires.window) c.point_square.ensures)),
  ),
)

pub returns-in-Cylinder : goal.returns-in-Cylinder
returns-in-Cylinder g c = (
  c.point-in-Cylinder.result,
  (
    c.point-in-Cylinder.ensures,
    c.holds-in-Cylinder.ensures
        ∙ ap (lies c.args.w.from c.args.w.to)
        (rw c.in-Cylinder.is
        (cylinder-told c.args.ndim.n _ _ c.point-in-Cylinder.result _ (rw c.in-Cylinder.is at c.requires.window)
        (c.line_square-in-Cylinder.ensures _ _ (rw c.in-Cylinder.is at c.requires.line)))),
  ),
)

pub returns-in-PlaneXY : goal.returns-in-PlaneXY
unfolding asked
returns-in-PlaneXY g c = (
  c.point-in-PlaneXY.result,
  (
    c.point-in-PlaneXY.ensures,
    c.magnitude.ensures c.args.w.to
        ∙ rw c.in-PlaneXY.is
        (plane-lies c.args.ndim.n 2 c.in-PlaneXY.z c.point-in-PlaneXY.result c.args.w c.args.ndim.two_or_three
        (rw c.in-PlaneXY.is at c.requires.fit) (omega arith) (rw c.in-PlaneXY.is at c.requires.window)),
  ),
)

pub returns-in-PlaneYZ : goal.returns-in-PlaneYZ
unfolding asked
returns-in-PlaneYZ g c = (
  c.point-in-PlaneYZ.result,
  (
    c.point-in-PlaneYZ.ensures,
    c.magnitude-in-PlaneYZ.ensures c.args.w.to
        ∙ rw c.in-PlaneYZ.is
        (plane-lies c.args.ndim.n 0 c.in-PlaneYZ.x c.point-in-PlaneYZ.result c.args.w c.args.ndim.two_or_three
        (rw c.in-PlaneYZ.is at c.requires.fit) (omega arith) (rw c.in-PlaneYZ.is at c.requires.window)),
  ),
)

pub returns : goal.returns
unfolding asked
returns g c = (
  c.point-in-PlaneXZ.result,
  (
    c.point-in-PlaneXZ.ensures,
    c.magnitude-in-PlaneXZ.ensures c.args.w.to
        ∙ rw c.in-PlaneXZ.is
        (plane-lies c.args.ndim.n 1 c.in-PlaneXZ.y c.point-in-PlaneXZ.result c.args.w c.args.ndim.two_or_three
        (rw c.in-PlaneXZ.is at c.requires.fit) (omega arith) (rw c.in-PlaneXZ.is at c.requires.window)),
  ),
)
