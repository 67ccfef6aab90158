-- `is_layout_sound` meets its contract.
-- Assumes nothing.
use mathlib.Core.Bool.{and-true}
use Rattle.table.specs.Library.{space, level, fits, sound_layout}
use Rattle.rows.proofs.is_layout_sound.Goals as goal

pub returns : goal.returns
unfolding sound_layout level fits space
returns c = rw and-true
