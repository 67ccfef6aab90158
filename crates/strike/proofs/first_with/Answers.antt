-- `first_with` meets its contract.
-- Assumes nothing.
use Rattle.strike.proofs.Removal.{first-with}
use Rattle.strike.proofs.first_with.Goals as goal

pub returns : goal.returns
returns c = first-with c.args.id c.args.ids.now c.find.ensures
