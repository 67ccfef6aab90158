use Rattle.std.proofs.Common.{◌≤◌, ◌<◌, add-one, arith, sym, ap, ◌∙◌, length, drop_of_length-le}
use Rattle.geometry.specs.Position.{coords}
use Rattle.geometry.proofs.Axes.{axis_at, coords-length, for_axes}
use Rattle.grid.specs.Divisions.{longest, longest_from}
use Rattle.grid.proofs.longest_axis.Goals as goal

pub loop-axis-init : goal.loop-axis-init
unfolding longest
loop-axis-init c = ap longest (axis_at c.args.ndim.n 0 c.args.delta c.args.ndim.two_or_three (for_axes (λ n. 0 < n) (omega arith) (omega arith) c.args.ndim.n c.args.ndim.two_or_three))

pub loop-axis-preserved : goal.loop-axis-preserved
unfolding longest_from
loop-axis-preserved c =
    let l = c.loop-axis in
    rw (c.longer-best.ensures, c.axis.ensures, add-one)
    (l.invariant ∙ ap (longest_from l.best l.axis) (axis_at c.args.ndim.n l.axis c.args.delta c.args.ndim.two_or_three c.loop-axis-test.true))

pub returns : goal.returns
unfolding longest_from
returns c =
    let l = c.loop-axis in
    let past : length (coords c.args.ndim.n c.args.delta) ≤ l.axis = omega (arith, coords-length c.args.ndim.n c.args.delta c.args.ndim.two_or_three, c.loop-axis-test.false) in
    sym (l.invariant ∙ rw (drop_of_length-le (coords c.args.ndim.n c.args.delta) past))
