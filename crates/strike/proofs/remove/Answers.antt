-- `remove` meets its contract: the rows that are left, and zeros past them.
-- Assumes nothing.
use Rattle.std.proofs.Common.{ap}
use Rattle.table.specs.Posts.{counted}
use Rattle.strike.proofs.Removal.{closed-room, left-clear}
use Rattle.strike.proofs.remove.Goals as goal

pub clear_from-requires : goal.clear_from-requires
clear_from-requires c = closed-room _ _ c.requires.room c.close_gaps-left.ensures.closes

pub returns-clause-leaves : goal.returns-clause-leaves
returns-clause-leaves c = left-clear _ _ c.requires.room c.close_gaps-left.ensures.closes _ (ap (counted c.close_gaps-left.result) c.clear_from.ensures.clears)
