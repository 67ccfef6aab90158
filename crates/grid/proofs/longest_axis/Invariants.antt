-- `grid::longest_axis` meets its contract. Assumes nothing.
use Rattle.std.proofs.Common.{◌≡◌, drop}
use Rattle.geometry.specs.Position.{coords}
use Rattle.grid.specs.Divisions.{longest, longest_from}
use Rattle.grid.proofs.longest_axis.Given as goal

abbrev pub invariant-loop-axis : goal.invariant-loop-axis
invariant-loop-axis l = longest (coords l.fn.ndim.n l.delta) ≡ longest_from l.best l.axis (drop l.axis (coords l.fn.ndim.n l.delta))
