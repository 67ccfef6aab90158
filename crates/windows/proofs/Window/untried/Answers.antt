-- `windows::Window::untried` meets its contract. Assumes nothing.
use lib.Ieee.{of_bits}
use Rattle.windows.proofs.Tellings.{untold}
use Rattle.windows.proofs.Window.untried.Goals as goal

pub invariant_of-result : goal.invariant_of-result
unfolding of_bits
invariant_of-result c = record { tells = untold _ c.args.from c.args.to }
