-- `capi::sheet::readable` meets its contract. Assumes nothing.
use lib.ListN.{length, get_or}
use lib.Ieee.{of_bits}
use borrow.Author.Tests.{eq-eqb, ne_eqb}
use mathlib.Core.Path.{◌∙◌}
use Rattle.geometry.proofs.NoAxes.{made-axes}
use Rattle.capi.specs.Sheets.{readable}
use Rattle.capi.proofs.sheet.readable.Goals as goal

pub returns-then-numbers-ne-NUMBERS : goal.returns-then-numbers-ne-NUMBERS
unfolding readable
returns-then-numbers-ne-NUMBERS c = rw (ne_eqb (length c.args.numbers.now) 8 c.if-numbers-ne-NUMBERS.true)

pub returns-then-floats-ne-FLOATS : goal.returns-then-floats-ne-FLOATS
unfolding readable
returns-then-floats-ne-FLOATS c = rw (eq-eqb (length c.args.numbers.now) 8 c.if-numbers-ne-NUMBERS.false, ne_eqb (length c.args.floats.now) 17 c.if-floats-ne-FLOATS.true)

pub returns : goal.returns
unfolding readable of_bits
returns c =
    let a = c.args in
    rw (
      eq-eqb (length a.numbers.now) 8 c.if-numbers-ne-NUMBERS.false,
      eq-eqb (length a.floats.now) 17 c.if-floats-ne-FLOATS.false,
      c.is_ok.ensures.value ∙ made-axes (get_or a.numbers.now 0 0) c.try_from.result c.try_from.ensures.0,
      c.is_setting.ensures,
      c.is_setting-2.ensures,
      c.is_setting-3.ensures,
      c.same_bits.ensures,
      c.same_bits-2.ensures,
    )
