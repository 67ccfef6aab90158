-- No record has width 0, and as the quotient has it none is read.
-- Assumes nothing.
use native.Mathlib.Nat.{div-mul-le_self}
use native.Mathlib.Omega.{arith}
use mathlib.Core.Path.{refl}
use Rattle.files.specs.Files.{part_length}
use Rattle.files.proofs.part_length.Goals as goal

pub overflow_mul-result : goal.overflow_mul-result
overflow_mul-result c = omega (arith, div-mul-le_self 65536 c.args.width)

pub returns-then-width-eq0 : goal.returns-then-width-eq0
unfolding part_length
returns-then-width-eq0 c = record { value = rw c.if-width-eq0.true; most = omega arith }

pub returns-else-width-eq0 : goal.returns-else-width-eq0
unfolding part_length
returns-else-width-eq0 c = record { value = refl; most = div-mul-le_self 65536 c.args.width }
