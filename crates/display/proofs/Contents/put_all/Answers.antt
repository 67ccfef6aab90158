-- The lines, and the summary after them.
-- Assumes nothing.
use Rattle.display.specs.Display.{slots_text}
use Rattle.text.proofs.Laws.{puts_both}
use Rattle.display.proofs.Contents.put_all.Goals as goal

pub returns : goal.returns
unfolding slots_text
returns c = puts_both c.put_lines-ncontainer.ensures.puts c.put_summary.ensures
