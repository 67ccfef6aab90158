-- The word, the entries and the end of the line.
-- Assumes nothing.
use Rattle.text.specs.Text.{refusal}
use Rattle.text.proofs.Laws.{puts_both}
use Rattle.text.proofs.Writer.put_refusal.Goals as goal

pub returns : goal.returns
unfolding refusal
returns c = puts_both c.put_text.ensures (puts_both c.put_entries.ensures c.put_byte.ensures)
