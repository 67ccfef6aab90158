-- `floats::is_within` meets its contract. Assumes nothing.
use Rattle.std.proofs.Common.{sym}
use Rattle.floats.proofs.Choice.{within-ends}
use Rattle.floats.proofs.is_within.Goals as goal

pub returns : goal.returns
returns c = sym (within-ends c.args.limit c.args.x)
