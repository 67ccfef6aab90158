-- `floats::same_bits` meets its contract. Assumes nothing.
use Rattle.floats.proofs.Order.{eq-right}
use Rattle.floats.proofs.same_bits.Goals as goal

pub float_to_bits-result-then-a-b : goal.float_to_bits-result-then-a-b
float_to_bits-result-then-a-b c = rw (eq-right c.args.a c.args.b c.if-a-b.true) tt
