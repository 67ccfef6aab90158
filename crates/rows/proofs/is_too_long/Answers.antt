-- `is_too_long` meets its contract.
-- Assumes nothing.
use mathlib.Core.Bool.{or-false}
use Rattle.table.specs.Library.{space, too_long}
use Rattle.rows.proofs.is_too_long.Goals as goal

pub returns : goal.returns
unfolding too_long space
returns c = rw or-false
