-- `grid::is_outside` meets its contract. Assumes nothing.
use Rattle.std.proofs.Common.{[], ◌∷◌}
use Rattle.grid.proofs.Flat.{outside_tests}
use Rattle.grid.proofs.is_outside.Goals as goal

pub returns : goal.returns
returns c =
    let s = c.args in
    rw (
      outside_tests s.ndim.n (s.xmin.x ∷ s.xmin.y ∷ s.xmin.z ∷ []) (s.xmax.x ∷ s.xmax.y ∷ s.xmax.z ∷ []) (s.x.x ∷ s.x.y ∷ s.x.z ∷ []),
      ← c.is_beyond.ensures,
      ← c.is_beyond-2.ensures,
      ← c.is_beyond-3.ensures,
    )
    c.on_some_axis.ensures
