-- `rows_left` meets its contract: rows that are all of other ids are all left.
-- Assumes nothing.
use Rattle.directory_strike.proofs.Pass.{quiet-count}
use Rattle.directory_strike.proofs.rows_left.Goals as goal

pub returns-then-row-count : goal.returns-then-row-count
returns-then-row-count c = quiet-count c.if-row-count.true c.requires.within c.requires.quiet
