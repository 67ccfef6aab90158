-- `find` meets its contract. Invariant: what is left of the halo, looked at with the containers found so far, gives what all of it gives.
-- Assumes nothing.
use Rattle.geometry.specs.Position.{coords}
use Rattle.rows.proofs.Found.{Looked}
use Rattle.rows.proofs.targets.Targets.find.Given as goal

abbrev pub invariant-loop-c : goal.invariant-loop-c
invariant-loop-c l = Looked l.sheet l.tolerance (coords l.sheet.ndim l.x) l.c l.targets
