-- Invariant: best is the extreme of the values so far.
-- Assumes nothing.
use Rattle.surveyed.proofs.Extremes.{Upto}
use Rattle.surveyed.proofs.extreme.Given as goal

abbrev pub invariant-loop-x : goal.invariant-loop-x
invariant-loop-x g l = Upto (goal.F-post g l.choose) l.values l.rest l.best l.x-index
