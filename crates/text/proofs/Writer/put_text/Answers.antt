use Rattle.std.proofs.lemmas.List.{take_more}
use Rattle.text.proofs.Laws.{puts_both}
use Rattle.text.proofs.Writer.put_text.Goals as goal

pub loop-byte-preserved : goal.loop-byte-preserved
loop-byte-preserved c = rw (take_more c.args.text.now c.loop-byte.byte-index 0 c.loop-byte-test.true) (puts_both c.loop-byte.invariant c.put_byte.ensures)
