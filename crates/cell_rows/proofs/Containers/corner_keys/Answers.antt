use Rattle.std.proofs.Common.{sym, ◌∙◌, ap, arith}
use Rattle.geometry.specs.Position.{coords}
use Rattle.cell_rows.specs.Keys.{keys_in}
use Rattle.cell_rows.proofs.Corners.{key-small, walk-next, walk_far, walk_end, is_key, is_far}
use Rattle.cell_rows.proofs.Containers.corner_keys.Goals as goal

pub returns-in_err-container : goal.returns-in_err-container
returns-in_err-container c =
    let g = c.args.self in
    let far = is_far g (coords g.ndim c.corner.result) (sym c.container.ensures ∙ c.in_err-container.was) in
    ap keys_in c.from_residual.ensures ∙ walk_far c.requires.axes c.loop-c.invariant c.corner.result (omega (arith, c.corner_count-c-end.ensures)) (c.corner.ensures g.ndim) far

pub join-requires-clause-small : goal.join-requires-clause-small
join-requires-clause-small c =
    let g = c.args.self in
    let f = is_key g (coords g.ndim c.corner.result) (sym c.container.ensures ∙ c.in_ok-container.was) in
    rw f.1 (key-small g c.corner.result c.requires f.0)

pub loop-c-preserved : goal.loop-c-preserved
loop-c-preserved c =
    let g = c.args.self in
    let f = is_key g (coords g.ndim c.corner.result) (sym c.container.ensures ∙ c.in_ok-container.was) in
    walk-next c.requires.axes c.loop-c.invariant c.corner.result (omega (arith, c.corner_count-c-end.ensures)) (c.corner.ensures g.ndim) f c.join.ensures

pub returns : goal.returns
returns c = walk_end c.requires.axes c.loop-c.invariant (omega (arith, c.corner_count-c-end.ensures))
