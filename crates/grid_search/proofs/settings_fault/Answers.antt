-- `grid_search::settings_fault` meets its contract: the tests before each way out are passed. Assumes nothing.
use Rattle.std.proofs.Common.{eq-eqb, ne_eqb, lt-ltb, le-ltb}
use lib.Ieee.{of_bits}
use Rattle.basics.specs.Refusals.{fault}
use Rattle.grid_search.specs.Steps.{in_force_tests}
use Rattle.grid_search.proofs.settings_fault.Goals as goal

pub returns-then-out_of_limits : goal.returns-then-out_of_limits
unfolding fault in_force_tests
returns-then-out_of_limits c = rw (← c.out_of_limits.ensures, c.if-out_of_limits.true)

pub returns-then-ndiv_long-eq0 : goal.returns-then-ndiv_long-eq0
unfolding fault in_force_tests
returns-then-ndiv_long-eq0 c = rw (← c.out_of_limits.ensures, c.if-out_of_limits.false, eq-eqb c.args.ndiv_long 0 c.if-ndiv_long-eq0.true)

pub returns-then-ndiv_long-eq1 : goal.returns-then-ndiv_long-eq1
unfolding fault in_force_tests
returns-then-ndiv_long-eq1 c =
    rw (← c.out_of_limits.ensures, c.if-out_of_limits.false, ne_eqb c.args.ndiv_long 0 c.if-ndiv_long-eq0.false, eq-eqb c.args.ndiv_long 1 c.if-ndiv_long-eq1.true)

pub returns-then-ndiv_long-gt1024 : goal.returns-then-ndiv_long-gt1024
unfolding fault in_force_tests
returns-then-ndiv_long-gt1024 c =
    rw (
      ← c.out_of_limits.ensures,
      c.if-out_of_limits.false,
      ne_eqb c.args.ndiv_long 0 c.if-ndiv_long-eq0.false,
      ne_eqb c.args.ndiv_long 1 c.if-ndiv_long-eq1.false,
      lt-ltb 1024 c.args.ndiv_long c.if-ndiv_long-gt1024.true,
    )

pub returns-then-not-is_above : goal.returns-then-not-is_above
unfolding fault in_force_tests
returns-then-not-is_above c =
    rw (
      ← c.out_of_limits.ensures,
      c.if-out_of_limits.false,
      ne_eqb c.args.ndiv_long 0 c.if-ndiv_long-eq0.false,
      ne_eqb c.args.ndiv_long 1 c.if-ndiv_long-eq1.false,
      le-ltb 1024 c.args.ndiv_long c.if-ndiv_long-gt1024.false,
    )
    (rw (← c.is_above.ensures, c.if-not-is_above.true))

pub returns-then-tol : goal.returns-then-tol
unfolding fault in_force_tests of_bits
returns-then-tol c =
    rw (
      ← c.out_of_limits.ensures,
      c.if-out_of_limits.false,
      ne_eqb c.args.ndiv_long 0 c.if-ndiv_long-eq0.false,
      ne_eqb c.args.ndiv_long 1 c.if-ndiv_long-eq1.false,
      le-ltb 1024 c.args.ndiv_long c.if-ndiv_long-gt1024.false,
    )
    (rw (← c.is_above.ensures, c.if-not-is_above.false, c.if-tol.true))

pub returns-then-border : goal.returns-then-border
unfolding fault in_force_tests of_bits
returns-then-border c =
    rw (
      ← c.out_of_limits.ensures,
      c.if-out_of_limits.false,
      ne_eqb c.args.ndiv_long 0 c.if-ndiv_long-eq0.false,
      ne_eqb c.args.ndiv_long 1 c.if-ndiv_long-eq1.false,
      le-ltb 1024 c.args.ndiv_long c.if-ndiv_long-gt1024.false,
    )
    (rw (← c.is_above.ensures, c.if-not-is_above.false, c.if-tol.false, c.if-border.true))

pub returns : goal.returns
unfolding fault in_force_tests of_bits
returns c =
    rw (
      ← c.out_of_limits.ensures,
      c.if-out_of_limits.false,
      ne_eqb c.args.ndiv_long 0 c.if-ndiv_long-eq0.false,
      ne_eqb c.args.ndiv_long 1 c.if-ndiv_long-eq1.false,
      le-ltb 1024 c.args.ndiv_long c.if-ndiv_long-gt1024.false,
    )
    (rw (← c.is_above.ensures, c.if-not-is_above.false, c.if-tol.false, c.if-border.false))
