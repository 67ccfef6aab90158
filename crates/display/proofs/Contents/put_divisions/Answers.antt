-- The parts of the line stand one after the other.
-- Assumes nothing.
use Rattle.text.proofs.Laws.{puts_both}
use Rattle.display.specs.Display.{named}
use Rattle.display.proofs.Contents.put_divisions.Goals as goal

pub returns : goal.returns
unfolding named
returns c = puts_both c.put_text.ensures (puts_both c.put_list.ensures c.put_byte.ensures)
