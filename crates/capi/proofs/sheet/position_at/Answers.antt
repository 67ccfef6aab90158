-- `capi::sheet::position_at` meets its contract. Assumes nothing.
use mathlib.Core.Path.{refl}
use Rattle.capi.proofs.sheet.position_at.Goals as goal

pub returns : goal.returns
returns c = refl
