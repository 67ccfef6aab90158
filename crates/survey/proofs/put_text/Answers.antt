-- What came is held.
-- Assumes nothing.
use native.Mathlib.Omega.{arith}
use Rattle.survey.proofs.Laws.{of_input}
use Rattle.survey.proofs.put_text.Goals as goal

pub returns : goal.returns
returns g c = let p =
    c.put_input.ensures in record {
      prefix_len = p.0;
      printed = of_input c.read_input-input.result _
          (omega (arith, c.read_input-input.ensures.room, c.came-n.ensures.0, c.came-n.ensures.1)) _ p.1;
    }
