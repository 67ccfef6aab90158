-- A way out for each number of decimals.
-- Assumes nothing.
use Rattle.std.proofs.Common.{arith}
use Rattle.decimals.proofs.Parts.{decimals_bad, decimals_good, decimals_three, digits_small}
use Rattle.decimals.proofs.read_decimals.Goals as goal

pub returns-in_err-n : goal.returns-in_err-n
returns-in_err-n c = rw c.from_residual.ensures (decimals_bad _ c.in_err-n.ensures)

pub overflow_mul-result : goal.overflow_mul-result
overflow_mul-result c = omega (arith, digits_small c.args.field.now 3 c.in_ok-n.n c.in_ok-n.ensures)

pub overflow_mul-result-in-2 : goal.overflow_mul-result-in-2
overflow_mul-result-in-2 c = omega (arith, digits_small c.args.field.now 3 c.in_ok-n.n c.in_ok-n.ensures)

pub returns-in-1 : goal.returns-in-1
returns-in-1 c = decimals_good c.args.field.now _ 100 c.in_ok-n.ensures (rw c.in-1.is)

pub returns-in-2 : goal.returns-in-2
returns-in-2 c = decimals_good c.args.field.now _ 10 c.in_ok-n.ensures (rw c.in-2.is)

pub returns-in_default : goal.returns-in_default
returns-in_default c = decimals_three c.args.field.now _ c.in_ok-n.ensures (λ e. omega arith) (λ e. omega arith)
