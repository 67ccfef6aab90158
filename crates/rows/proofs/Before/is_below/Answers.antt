-- `is_below` meets its contract.
-- Assumes nothing.
use Rattle.rows.proofs.Walks.{told-above}
use Rattle.rows.proofs.Before.is_below.Goals as goal

pub returns : goal.returns
returns c = told-above c.args.self.bound c.args.self.last c.args.row.key.0 c.args.row.id.0
