-- `capi::index::read_index` meets its contract. Assumes nothing.
use Rattle.capi.specs.Indexes.{read_index}
use Rattle.capi.proofs.index.read_index.Goals as goal

pub returns : goal.returns
unfolding read_index
returns c = rw (c.position_at-xmin.ensures, c.position_at-xmax.ensures)
