-- `floats::assembled` meets its contract: `Patterns.antt` has what each parity of h makes. Assumes nothing.
use Rattle.std.proofs.Common.{arith}
use Rattle.floats.proofs.Patterns.{shifted, at_either}
use Rattle.floats.proofs.assembled.Goals as goal

pub invariant_of-nearest : goal.invariant_of-nearest
invariant_of-nearest c = let a = c.args.a in let s = shifted a.digits c.args.h a.from_one a.below_two in record { from_one = s.0; below_four = s.1; finite = omega arith }

pub returns : goal.returns
returns c = let a = c.args.a in at_either a.digits c.args.h c.nearest-q.result a.from_one a.below_two c.requires.least c.requires.largest c.nearest-q.ensures
