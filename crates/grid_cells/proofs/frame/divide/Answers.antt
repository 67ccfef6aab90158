-- `grid_cells::frame::divide` meets its contract. Assumes nothing.
use mathlib.Core.List.{[], ◌∷◌}
use lib.Ieee.{Float}
use Rattle.basics.proofs.Lists.{take_zip}
use Rattle.floats.specs.Rounded.{◌⊖◌, ◌⊘◌, truncate}
use Rattle.floats.specs.Ceil.{ceil_of}
use Rattle.grid_cells.specs.Build.{cell_divisions}
use Rattle.grid_cells.proofs.frame.divide.Goals as goal

pub returns : goal.returns
unfolding cell_divisions
returns c =
    let a = c.args in
    let axes = take_zip (λ (y x : Float). truncate (ceil_of ((y ⊖ x) ⊘ a.side_length))) a.ndim.n (a.xmax.x ∷ a.xmax.y ∷ a.xmax.z ∷ []) (a.xmin.x ∷ a.xmin.y ∷ a.xmin.z ∷ []) in
    rw (← axes, ← c.divisions_along.ensures, ← c.divisions_along-2.ensures, ← c.divisions_along-3.ensures)
    c.in_use.ensures
