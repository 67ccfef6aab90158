-- The turns left are those of 53 that the counter has not made.
use Rattle.std.proofs.Common.{◌-◌}
use Rattle.floats.proofs.Steps.{Turns}
use Rattle.floats.proofs.root.Given as goal

abbrev pub invariant-loop : goal.invariant-loop
invariant-loop l = Turns l.fn.m.units l.w l.r l.rest (53 - l.counter)
