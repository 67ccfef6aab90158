-- `grid::num_divisions` meets its contract. Assumes nothing.
use Rattle.std.proofs.Common.{[], ◌∷◌}
use Rattle.geometry.specs.Distances.{less}
use Rattle.geometry.proofs.Axes.{coords-less}
use Rattle.grid.specs.Divisions.{num_divisions, shares}
use Rattle.grid.proofs.Shares.{take-shares}
use Rattle.grid.proofs.num_divisions.Goals as goal

pub returns : goal.returns
unfolding num_divisions shares
returns c =
    let a = c.args in
    let d = less a.xmin a.xmax in
    rw (
      ← coords-less a.ndim.n a.xmin a.xmax,
      ← c.longest_axis-long.ensures,
      ← take-shares a.ndiv_long c.longest_axis-long.result a.ndim.n 0
          (d.x ∷ d.y ∷ d.z ∷ []),
      ← c.share.ensures,
      ← c.share-2.ensures,
      ← c.share-3.ensures,
    )
    c.in_use.ensures
