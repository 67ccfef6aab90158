-- The first entry is the number alone; any other has the text between in front.
-- Assumes nothing.
use Rattle.std.proofs.Common.{arith, ap, length, length-append}
use Rattle.text.proofs.Laws.{puts_both, entry_first, entry_next}
use Rattle.text.proofs.Writer.put_entry.Goals as goal

pub put_decimal-requires : goal.put_decimal-requires
put_decimal-requires c = let a = c.args in omega (arith, ap length (entry_first a.between.now a.i a.n c.if-i-eq0.true))

pub returns-then-i-eq0 : goal.returns-then-i-eq0
returns-then-i-eq0 c = rw (entry_first _ _ _ c.if-i-eq0.true) c.put_decimal.ensures

pub put_text-requires : goal.put_text-requires
put_text-requires c = let a = c.args in omega (arith, simp length-append at (ap length (entry_next a.between.now a.i a.n c.if-i-eq0.false)))

pub put_decimal-requires-else-i-eq0 : goal.put_decimal-requires-else-i-eq0
put_decimal-requires-else-i-eq0 c = let a = c.args in omega (arith, simp length-append at (ap length (entry_next a.between.now a.i a.n c.if-i-eq0.false)), c.put_text.ensures.put.past)

pub returns-else-i-eq0 : goal.returns-else-i-eq0
returns-else-i-eq0 c = rw (entry_next _ _ _ c.if-i-eq0.false) (puts_both c.put_text.ensures c.put_decimal-else-i-eq0.ensures)
