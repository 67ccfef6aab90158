-- `grid_cells::GridCells::build` meets its contract. Assumes nothing.
use Rattle.std.proofs.Common.{sym, ap, ◌∙◌}
use Rattle.basics.specs.Refusals.{Answer}
use Rattle.basics.proofs.Answers.{raised_answer}
use Rattle.mesh.specs.Mesh.{seen}
use Rattle.grid_cells.specs.declared.GridCells.{GridCells}
use Rattle.grid_cells.specs.Lent.{lent_mut}
use Rattle.grid_cells.proofs.Builds.{refuse_early, measurable, refuse_frame, finishable, finish_with}
use Rattle.grid_cells.proofs.GridCells.build.Goals as goal

pub returns-in_err-mesh-clause-builds : goal.returns-in_err-mesh-clause-builds
returns-in_err-mesh-clause-builds c =
    let l = lent_mut c.args.lists.now in
    ap (λ (x : Answer GridCells). record { answer = x; lists = l }) (raised_answer _ c.in_err-mesh.field-0.0 c.from_residual.result c.from_residual.ensures)
    ∙ refuse_early c.args.mesh.ndim (seen c.args.mesh) c.args.settings l (rw c.as_lists.ensures at c.in_err-mesh.ensures.judged)

pub measure-sizes-requires-clause-some : goal.measure-sizes-requires-clause-some
measure-sizes-requires-clause-some c =
    let same = c.in_ok-mesh.ensures.same in
    let early = sym (rw c.as_lists.ensures at c.in_ok-mesh.ensures.judged) in
    rw (same.0, same.1) (measurable c.args.mesh.ndim (seen c.args.mesh) c.args.settings (lent_mut c.args.lists.now) early).cells

pub measure-sizes-requires-clause-few : goal.measure-sizes-requires-clause-few
measure-sizes-requires-clause-few c =
    let same = c.in_ok-mesh.ensures.same in
    let early = sym (rw c.as_lists.ensures at c.in_ok-mesh.ensures.judged) in
    rw (same.0, same.1) (measurable c.args.mesh.ndim (seen c.args.mesh) c.args.settings (lent_mut c.args.lists.now) early).few

pub returns-in_err-grid-clause-builds : goal.returns-in_err-grid-clause-builds
returns-in_err-grid-clause-builds c =
    let l = lent_mut c.args.lists.now in
    let framed = rw (c.in_ok-mesh.ensures.same.0, c.in_ok-mesh.ensures.same.1) at c.in_err-grid.ensures in
    ap (λ (x : Answer GridCells). record { answer = x; lists = l }) (raised_answer _ c.in_err-grid.field-0.0 c.from_residual-in_err-grid.result c.from_residual-in_err-grid.ensures)
    ∙ refuse_frame c.args.mesh.ndim (seen c.args.mesh) c.args.settings l (sym (rw c.as_lists.ensures at c.in_ok-mesh.ensures.judged)) framed

pub filed-requires : goal.filed-requires
filed-requires c =
    let same = c.in_ok-mesh.ensures.same in
    let framed = rw (same.0, same.1) at c.in_ok-grid.ensures in
    let sized = rw (same.0, same.1) at c.measure-sizes.ensures in
    rw (same.0, same.1) (finishable c.args.mesh.ndim (seen c.args.mesh) c.args.settings (lent_mut c.args.lists.now) (sym (rw c.as_lists.ensures at c.in_ok-mesh.ensures.judged)) framed sized)

pub returns-clause-builds : goal.returns-clause-builds
returns-clause-builds c =
    let same = c.in_ok-mesh.ensures.same in
    let framed = rw (same.0, same.1) at c.in_ok-grid.ensures in
    let sized = rw (same.0, same.1) at c.measure-sizes.ensures in
    let filed = rw same.1 at c.filed.ensures.files in
    filed ∙ finish_with c.args.mesh.ndim (seen c.args.mesh) c.args.settings (lent_mut c.args.lists.now) (sym (rw c.as_lists.ensures at c.in_ok-mesh.ensures.judged)) framed sized
