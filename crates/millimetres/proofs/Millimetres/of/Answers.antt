-- `Millimetres::of` meets its contract.
-- Assumes nothing.
use Rattle.millimetres.proofs.Steps.{too_large, answered}
use Rattle.millimetres.proofs.Millimetres.of.Goals as goal

pub returns-then-count-gt-LIMIT : goal.returns-then-count-gt-LIMIT
returns-then-count-gt-LIMIT c = too_large c.args.x c.abs.result c.truncated-count.result c.abs.ensures c.truncated-count.ensures c.if-count-gt-LIMIT.true

pub returns : goal.returns
returns c =
    answered c.args.x c.abs.result c.truncated-count.result c.abs.ensures c.truncated-count.ensures
    c.signed-millimetres.result c.signed-millimetres.ensures c.if-count-gt-LIMIT.false
    c.value.result c.same_bits.result c.then_some.result c.value.ensures c.same_bits.ensures c.then_some.ensures
