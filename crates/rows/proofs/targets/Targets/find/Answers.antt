-- `find` meets its contract: the laws of the walk over the halo.
-- Assumes nothing.
use Rattle.std.proofs.Common.{ap, ◌∙◌, [], ◌∷◌, Some}
use lib.Ieee.{Float}
use Rattle.geometry.specs.Position.{coords}
use Rattle.rows.specs.Insert.{halo}
use Rattle.rows.specs.Posts.{look_all}
use Rattle.rows.proofs.Found.{corners-along, looked_start, looked_stop, looked_again, looked_none, looked_end}
use Rattle.rows.proofs.targets.Targets.find.Goals as goal

pub returns-in_err-look_at : goal.returns-in_err-look_at
returns-in_err-look_at c = c.from_residual.ensures ∙ looked_stop c.args.sheet _ _ (rw c.new-targets.ensures at c.in_err-look_at.ensures)

pub loop-c-init : goal.loop-c-init
loop-c-init c = looked_start c.args.sheet c.tolerance_in_force-tolerance.result _ (rw c.new-targets.ensures at c.in_ok-look_at.ensures)

pub returns-in_err-look_at-2 : goal.returns-in_err-look_at-2
returns-in_err-look_at-2 c =
    let s = c.args.sheet in
    let x = coords s.ndim c.args.x in
    let corner = c.halo_corner.ensures s.ndim c.requires.axes in
    let corners = corners-along s c.args.x c.requires c.corner_count-c-end.ensures in
    c.from_residual-in_err-look_at-2.ensures
    ∙ looked_none s c.tolerance_in_force-tolerance.result x c.loop-c.invariant (rw (← corners) c.loop-c-test.true) (rw corner at c.in_err-look_at-2.ensures)
    ∙ ap (λ (t : Float). look_all s (Some []) (x ∷ halo t x)) c.tolerance_in_force-tolerance.ensures

pub loop-c-preserved : goal.loop-c-preserved
loop-c-preserved c =
    let s = c.args.sheet in
    let corner = c.halo_corner.ensures s.ndim c.requires.axes in
    let corners = corners-along s c.args.x c.requires c.corner_count-c-end.ensures in
    looked_again s c.tolerance_in_force-tolerance.result _ c.loop-c.invariant (rw (← corners) c.loop-c-test.true) (rw corner at c.in_ok-look_at-2.ensures)

pub returns : goal.returns
returns c =
    let s = c.args.sheet in
    let x = coords s.ndim c.args.x in
    let corners = corners-along s c.args.x c.requires c.corner_count-c-end.ensures in
    looked_end s c.tolerance_in_force-tolerance.result x c.loop-c.invariant (rw (← corners) c.loop-c-test.false)
    ∙ ap (λ (t : Float). look_all s (Some []) (x ∷ halo t x)) c.tolerance_in_force-tolerance.ensures
