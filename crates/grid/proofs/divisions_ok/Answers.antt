-- `grid::divisions_ok` meets its contract. Assumes nothing.
use Rattle.std.proofs.Common.{[], ◌∷◌}
use Rattle.geometry.proofs.Axes.{all_tests}
use Rattle.grid.specs.Divisions.{division}
use Rattle.grid.proofs.divisions_ok.Goals as goal

pub returns : goal.returns
returns c = let d = c.args.ndiv in cc (all_tests division c.args.ndim.n (d.x ∷ d.y ∷ d.z ∷ []))
