-- `capi::index::no_index` meets its contract. Assumes nothing.
use lib.Ieee.{of_bits, div}
use mathlib.Core.Path.{refl}
use Rattle.capi.specs.Indexes.{read_index}
use Rattle.capi.proofs.index.no_index.Goals as goal

pub returns : goal.returns
unfolding of_bits div read_index
returns c = refl
