-- `geometry::corner` meets its contract. Assumes nothing.
use Rattle.geometry.proofs.Axes.{corner-axes}
use Rattle.geometry.specs.Position.{box_corner}
use Rattle.geometry.proofs.corner.Goals as goal

pub returns : goal.returns
unfolding box_corner
returns c = λ n. let a = c.args in corner-axes n a.low a.high a.c c.end.result c.end-2.result c.end-3.result (rw (c.end.ensures, c.end-2.ensures, c.end-3.ensures))
