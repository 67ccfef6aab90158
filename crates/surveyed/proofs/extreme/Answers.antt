-- Each turn weighs one more value.
-- Assumes nothing.
use lib.Ieee.{of_bits}
use borrow.Author.Rules.{rules}
use Rattle.surveyed.proofs.Extremes.{of_none, of_first, next, of_all}
use Rattle.surveyed.proofs.extreme.Goals as goal

pub returns-in_default : goal.returns-in_default
unfolding of_bits
returns-in_default g c = of_none _ c.args.values.now c.in_default.ensures.cases

pub loop-x-init : goal.loop-x-init
loop-x-init g c = of_first _ c.args.values.now c.in-Some.rest.now c.in-Some.first.now (search rules)

pub loop-x-preserved : goal.loop-x-preserved
loop-x-preserved g c = next _ c.args.values.now c.in-Some.rest.now c.loop-x.best c.choose-best.result c.loop-x.x-index c.loop-x-test.true c.choose-best.ensures c.loop-x.invariant

pub returns : goal.returns
returns g c = of_all _ c.args.values.now c.in-Some.rest.now c.loop-x.best c.loop-x.x-index c.loop-x-test.false c.loop-x.invariant
