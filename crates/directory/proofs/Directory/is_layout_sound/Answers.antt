-- `is_layout_sound` meets its contract.
-- Assumes nothing.
use mathlib.Core.Bool.{and-true}
use Rattle.table.specs.Library.{level, fits}
use Rattle.directory.specs.Directory.{sound_places}
use Rattle.directory.proofs.Directory.is_layout_sound.Goals as goal

pub returns : goal.returns
unfolding sound_places level fits
returns c = rw and-true
