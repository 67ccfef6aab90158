-- The sign, and then the size.
-- Assumes nothing.
use Rattle.std.proofs.Common.{nat_abs, arith, ap, length, length-append}
use Rattle.text.specs.Writers.{Puts}
use Rattle.text.proofs.Laws.{puts_both}
use Rattle.decimals.proofs.Written.{magnitude_length, sign, sign_magnitude, size_written, minus_written, none_written}
use Rattle.decimals.proofs.put_coordinate.Goals as goal
use Rattle.decimals.proofs.put_coordinate.Goals.{then-millimetres-lt0, else-millimetres-lt0}

pub put_byte-requires : goal.put_byte-requires
put_byte-requires c = let z = c.args.millimetres.count in omega (arith, simp length-append at (ap length (sign_magnitude z)), magnitude_length (nat_abs z))

pub put_magnitude-requires : goal.put_magnitude-requires
put_magnitude-requires c =
    let z = c.args.millimetres.count in
    let signed : Puts (sign z) c.args.writer.now c.if-millimetres-lt0.writer = elim c.if-millimetres-lt0.branch [
      | then-millimetres-lt0 w ↦ rw w.writer-is (minus_written z c.args.millimetres.within w.if-millimetres-lt0.true w.put_byte.ensures)
      | else-millimetres-lt0 w ↦ rw w.writer-is (none_written z c.args.millimetres.within _ w.if-millimetres-lt0.false)
    ] in
    omega (arith, signed.put.past, simp length-append at (ap length (size_written z c.args.millimetres.within c.unsigned_abs.ensures.value)))

pub returns : goal.returns
returns c =
    let z = c.args.millimetres.count in
    let signed : Puts (sign z) c.args.writer.now c.if-millimetres-lt0.writer = elim c.if-millimetres-lt0.branch [
      | then-millimetres-lt0 w ↦ rw w.writer-is (minus_written z c.args.millimetres.within w.if-millimetres-lt0.true w.put_byte.ensures)
      | else-millimetres-lt0 w ↦ rw w.writer-is (none_written z c.args.millimetres.within _ w.if-millimetres-lt0.false)
    ] in
    rw (size_written z c.args.millimetres.within c.unsigned_abs.ensures.value) (puts_both signed c.put_magnitude.ensures)
