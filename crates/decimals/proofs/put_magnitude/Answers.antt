-- One text after another.
-- Assumes nothing.
use Rattle.text.proofs.Laws.{puts_both}
use Rattle.decimals.specs.Decimals.{magnitude_text}
use Rattle.decimals.proofs.put_magnitude.Goals as goal

pub returns : goal.returns
unfolding magnitude_text
returns c = puts_both c.put_decimal.ensures (puts_both c.put_byte.ensures (puts_both c.put_byte-2.ensures (puts_both c.put_byte-3.ensures c.put_byte-4.ensures)))
