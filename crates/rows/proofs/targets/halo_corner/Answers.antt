-- `halo_corner` meets its contract. Assumes nothing.
use mathlib.Core.Path.{◌∙◌}
use mathlib.Core.List.{[], ◌∷◌}
use Rattle.rows.proofs.Found.{halo-box}
use Rattle.rows.proofs.targets.halo_corner.Goals as goal

pub returns : goal.returns
returns c =
    let x = c.args.x in
    λ n h. c.corner.ensures n ∙ halo-box c.args.tolerance n (x.x ∷ x.y ∷ x.z ∷ []) c.args.c
