use Rattle.std.proofs.Common.{arith, ap, length, length-append}
use Rattle.text.proofs.Laws.{put_both, decimal-small, decimal_step, decimal-some}
use Rattle.text.proofs.+put_digits.Goals as goal

pub put_at-requires : goal.put_at-requires
put_at-requires t c = omega (arith, decimal-some c.args.n)

pub put_digits-next-requires : goal.put_digits-next-requires
put_digits-next-requires t c = (omega arith, omega (arith, simp length-append at (ap length (decimal_step c.args.n c.if-n-lt10.false))))

pub put_at-requires-2 : goal.put_at-requires-2
put_at-requires-2 t c = omega (arith, simp length-append at (ap length (decimal_step c.args.n c.if-n-lt10.false)), c.put_digits-next.ensures.past)

pub returns-then-n-lt10 : goal.returns-then-n-lt10
returns-then-n-lt10 t c = rw (decimal-small _ c.if-n-lt10.true) c.put_at.ensures

pub returns : goal.returns
returns t c = rw (decimal_step _ c.if-n-lt10.false) (put_both c.put_digits-next.ensures c.put_at-2.ensures)
