-- `grid::share` meets its contract. Assumes nothing.
use Rattle.std.proofs.Common.{◌^◌, max, arith, ap, ◌∙◌, le→leb, eq-eqb, ne_eqb}
use lib.Ieee.{in_float}
use Rattle.grid.specs.Divisions.{share}
use Rattle.grid.proofs.share.Goals as goal

pub returns-then-axis-long : goal.returns-then-axis-long
unfolding share
returns-then-axis-long c = rw (eq-eqb c.args.axis c.args.long.axis c.if-axis-long.true)

pub int_to_float-ndiv_long : goal.int_to_float-ndiv_long
unfolding in_float
int_to_float-ndiv_long c = le→leb c.args.ndiv_long (2 ^ 53) (omega arith)

pub returns : goal.returns
unfolding share
returns c = rw (ne_eqb c.args.axis c.args.long.axis c.if-axis-long.false) (c.max.ensures ∙ ap (max 1) c.truncated.ensures)
