use Rattle.std.proofs.Common.{arith}
use Rattle.decimals.proofs.Parts.{front_bad, front_good, digits_small}
use Rattle.decimals.proofs.read_thousandths.Goals as goal

pub returns-in_err-n : goal.returns-in_err-n
returns-in_err-n c = rw c.from_residual-in_err-n.ensures (front_bad c.args.field.now c.in_ok-whole.whole.now c.in_ok-whole.decimals c.in_ok-whole.ensures c.in_err-n.ensures)

pub overflow_mul-n : goal.overflow_mul-n
overflow_mul-n c = omega (arith, digits_small c.in_ok-whole.whole.now 7 c.in_ok-n.field-0 c.in_ok-n.ensures)

pub overflow_add-n : goal.overflow_add-n
overflow_add-n c = let below = c.in_ok-whole.ensures.below in omega (arith, below, digits_small c.in_ok-whole.whole.now 7 c.in_ok-n.field-0 c.in_ok-n.ensures)

pub returns : goal.returns
returns c = rw c.then_some.ensures (front_good c.args.field.now c.in_ok-whole.whole.now c.in_ok-whole.decimals c.in_ok-whole.ensures c.in_ok-n.field-0 c.in_ok-n.ensures)
