-- `geometry::Line::too_close` meets its contract. Assumes nothing.
use Rattle.std.proofs.Common.{ap}
use lib.Ieee.{of_bits, le}
use Rattle.floats.specs.Rounded.{pow2⁻}
use Rattle.geometry.specs.Distances.{too_close, line_of}
use Rattle.geometry.specs.declared.Line.{Line}
use Rattle.geometry.proofs.Line.too_close.Goals as goal

pub returns : goal.returns
unfolding too_close line_of of_bits
returns c = λ ndim a b e. ap (λ (l : Line). le l.n_dot_n (pow2⁻ 52)) e
