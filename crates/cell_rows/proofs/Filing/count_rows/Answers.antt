use Rattle.std.proofs.Common.{ap, sym, ◌∙◌, arith}
use Rattle.cell_rows.specs.Keys.{keys_in}
use Rattle.cell_rows.proofs.Corners.{length_held}
use Rattle.cell_rows.proofs.Tallies.{tally_next, tally_far, tally_end}
use Rattle.cell_rows.proofs.Filing.count_rows.Goals as goal

pub returns-in_err-cell_keys : goal.returns-in_err-cell_keys
returns-in_err-cell_keys c =
    let count = rw c.args.self.axes at c.cell_count-cell-end.ensures in
    c.from_residual.ensures ∙ tally_far c.loop-cell.invariant (omega (arith, count)) (sym (ap keys_in c.in_err-cell_keys.was) ∙ c.cell_keys.ensures)

pub loop-cell-preserved : goal.loop-cell-preserved
loop-cell-preserved c =
    let count = rw c.args.self.axes at c.cell_count-cell-end.ensures in
    let keys = c.in_ok-cell_keys.field-0 in
    let few = keys.few in
    rw c.as_slice.ensures
    (tally_next c.loop-cell.invariant (omega (arith, count)) (omega (arith, length_held keys)) (sym (ap keys_in c.in_ok-cell_keys.was) ∙ c.cell_keys.ensures))

pub returns : goal.returns
returns c =
    let count = rw c.args.self.axes at c.cell_count-cell-end.ensures in
    tally_end c.loop-cell.invariant (omega (arith, count))
