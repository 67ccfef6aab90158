-- `move_up` meets its contract.
-- Assumes nothing.
use Rattle.std.proofs.Common.{arith, ◌∙◌}
use Rattle.directory_insert.proofs.Places.{stepping_next, stepping_end, stepped-all}
use Rattle.directory_insert.proofs.move_up.Goals as goal

pub loop-entry-preserved : goal.loop-entry-preserved
loop-entry-preserved c = stepping_next c.loop-entry.invariant (omega (arith, c.loop-entry-test.true, c.loop-entry.invariant.long))

pub returns : goal.returns
returns c = stepping_end c.loop-entry.invariant (omega (arith, c.loop-entry-test.false, c.loop-entry.invariant.long)) ∙ stepped-all c.args.s.now
