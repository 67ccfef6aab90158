-- `floats::root_bits` meets its contract: `Patterns.antt` has the subnormal and the normal values. Assumes nothing.
use Rattle.std.proofs.Common.{◌%◌, ◌^◌, refl, arith}
use Rattle.floats.proofs.Patterns.{zeros, moved, root-low, root_mid}
use Rattle.floats.proofs.root_bits.Goals as goal

pub overflow_sub-fraction : goal.overflow_sub-fraction
overflow_sub-fraction c = zeros (c.args.b % 2 ^ 52) (omega arith) (omega arith)

pub invariant_of-assembled : goal.invariant_of-assembled
invariant_of-assembled c = let m = moved (c.args.b % 2 ^ 52) c.from-z.result (omega arith) (omega arith) c.from-z.ensures in record { from_one = m.from; below_two = m.to }

pub returns-then-field-eq0 : goal.returns-then-field-eq0
returns-then-field-eq0 c =
    let b = c.args.b in
    let m = moved (b % 2 ^ 52) c.from-z.result (omega arith) (omega arith) c.from-z.ensures in
    root-low b c.assembled.result 1074 _ refl c.if-field-eq0.true (omega arith) (omega arith) m.exact c.assembled.ensures

pub returns-else-field-eq0 : goal.returns-else-field-eq0
returns-else-field-eq0 c = root_mid c.args.b c.assembled-else-field-eq0.result 1073 refl c.if-field-eq0.false c.requires.finite c.assembled-else-field-eq0.ensures
