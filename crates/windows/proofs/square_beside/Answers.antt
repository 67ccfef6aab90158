-- `windows::square_beside` meets its contract. Assumes nothing.
use Rattle.std.proofs.Common.{sym, ◌∙◌}
use lib.Ieee.{of_bits}
use Rattle.basics.proofs.Bools.{and_both}
use Rattle.windows.proofs.Tellings.{is_square, no_square}
use Rattle.windows.proofs.square_beside.Goals as goal

pub returns-then-passed-is_steady : goal.returns-then-passed-is_steady
returns-then-passed-is_steady g c =
    let w = and_both _ _ c.if-passed-is_steady.true in
    let v = and_both _ _ w.1 in (
      c.beside-root.result,
      c.passes-passed.result,
      rw c.distance_at.ensures at c.passes-passed.ensures,
      is_square c.args.radius c.beside-root.result (sym c.is_steady.ensures ∙ v.0) (c.is_root.ensures v.1) c.passes-passed.result w.0,
    )

pub returns : goal.returns
unfolding of_bits
returns g c = (c.beside-root.result, c.passes-passed.result, rw c.distance_at.ensures at c.passes-passed.ensures, no_square c.args.radius c.beside-root.result c.passes-passed.result)
