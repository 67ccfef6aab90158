-- `Millimetres::value` meets its contract. The cast loses nothing, since the number is within the limit.
-- Assumes nothing.
use Rattle.millimetres.proofs.Signed.{read_back}
use Rattle.millimetres.proofs.Steps.{thousand, value-is}
use Rattle.millimetres.proofs.Millimetres.value.Goals as goal

pub returns : goal.returns
returns c = let m = c.args.self in rw (thousand, read_back m.count m.within) (value-is m.count)
