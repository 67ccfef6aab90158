-- Each turn numbers one entry more, and leaves those before it.
-- Assumes nothing.
use Rattle.std.proofs.Common.{arith, refl}
use Rattle.display.proofs.number.Goals as goal

pub loop-i-init : goal.loop-i-init
loop-i-init c = (refl, λ j h. absurd (omega arith))
