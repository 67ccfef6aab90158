-- The parts of a line stand one after the other.
-- Assumes nothing.
use Rattle.text.proofs.Laws.{puts_both}
use Rattle.display.specs.Display.{line}
use Rattle.display.proofs.put_line.Goals as goal

pub returns : goal.returns
unfolding line
returns c = puts_both c.put_decimal.ensures (puts_both c.put_text.ensures (puts_both c.put_list.ensures c.put_byte.ensures))
