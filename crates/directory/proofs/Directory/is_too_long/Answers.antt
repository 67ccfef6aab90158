-- `is_too_long` meets its contract.
-- Assumes nothing.
use mathlib.Core.Bool.{or-false}
use Rattle.directory.specs.Directory.{long_places}
use Rattle.directory.proofs.Directory.is_too_long.Goals as goal

pub returns : goal.returns
unfolding long_places
returns c = rw or-false
