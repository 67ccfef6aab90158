-- `grid_search::is_above` meets its contract. Assumes nothing.
use Rattle.std.proofs.Common.{[], ◌∷◌}
use Rattle.basics.specs.Lists.{zip_with}
use Rattle.grid_search.proofs.Corners.{above_tests}
use Rattle.grid_search.proofs.is_above.Goals as goal

pub returns : goal.returns
unfolding zip_with
returns c =
    let a = c.args in
    rw (above_tests a.ndim.n (a.low.x ∷ a.low.y ∷ a.low.z ∷ []) (a.high.x ∷ a.high.y ∷ a.high.z ∷ [])) c.on_every_axis.ensures
