-- A bracket, the entries and a bracket.
-- Assumes nothing.
use Rattle.text.specs.Text.{list_text}
use Rattle.text.proofs.Laws.{puts_both}
use Rattle.text.proofs.Writer.put_list.Goals as goal

pub returns : goal.returns
unfolding list_text
returns c = puts_both c.put_byte.ensures (puts_both c.put_entries.ensures c.put_byte-2.ensures)
