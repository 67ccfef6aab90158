-- `take_off` meets its contract: the places that are left, and zeros past them.
-- Assumes nothing.
use Rattle.std.proofs.Common.{◌∙◌}
use Rattle.directory.proofs.Writes.{written-cut}
use Rattle.directory_strike.proofs.take_off.Goals as goal

pub returns-clause-takes : goal.returns-clause-takes
returns-clause-takes c = c.truncate.ensures.cuts ∙ written-cut _ _ _ c.close_places.ensures.closes
