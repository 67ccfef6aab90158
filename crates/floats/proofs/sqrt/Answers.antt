-- `floats::sqrt` meets its contract. `Cases.antt` has the values by its tests; a value is the one that is read from its own pattern. Assumes nothing.
use Rattle.std.proofs.Common.{T, sym, ap, ◌∙◌, subst}
use lib.Ieee.{binary64, of_bits}
use lib.Ieee.Bits.{of_bits-to_bits}
use Rattle.floats.specs.Sqrt.{sqrt_of}
use Rattle.floats.proofs.Cases.{pattern_pos, finite_no_nan, root_from_infinity, root_of-zero, no_root}
use Rattle.floats.proofs.sqrt.Goals as goal

pub root_bits-requires-clause-above_zero : goal.root_bits-requires-clause-above_zero
unfolding of_bits
root_bits-requires-clause-above_zero c = pattern_pos c.args.x (subst T (sym c.well_formed.0.1) tt) c.if-x.true

pub float_from_bits-result : goal.float_from_bits-result
float_from_bits-result c = finite_no_nan c.root_bits.result c.root_bits.ensures.finite

pub returns-then-b-lt9218868437227405312 : goal.returns-then-b-lt9218868437227405312
returns-then-b-lt9218868437227405312 c = c.root_bits.ensures.value ∙ ap sqrt_of (of_bits-to_bits binary64 c.args.x (subst T (sym c.well_formed.0.1) tt))

pub returns-else-b-lt9218868437227405312 : goal.returns-else-b-lt9218868437227405312
unfolding of_bits
returns-else-b-lt9218868437227405312 c = root_from_infinity c.args.x (subst T (sym c.well_formed.0.1) tt) c.if-x.true c.if-b-lt9218868437227405312.false

pub returns-then-x-2 : goal.returns-then-x-2
unfolding of_bits
returns-then-x-2 c = root_of-zero c.args.x c.if-x-2.true

pub returns-else-x-2 : goal.returns-else-x-2
unfolding of_bits
returns-else-x-2 c = no_root c.args.x c.if-x.false c.if-x-2.false
