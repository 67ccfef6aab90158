-- `probe::containers::grid_of` meets its contract. Assumes nothing.
use Rattle.geometry.proofs.NoAxes.{no_axes-told}
use Rattle.probe.specs.Containers.{is_grid}
use Rattle.probe.proofs.containers.grid_of.Goals as goal

pub returns-in_default-2 : goal.returns-in_default-2
unfolding is_grid
returns-in_default-2 c = rw (no_axes-told c.args.ndim _ c.in_default.ensures.0).0
