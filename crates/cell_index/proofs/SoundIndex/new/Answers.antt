-- `cell_index::SoundIndex::new` meets its contract. Assumes nothing.
-- A law for each way out.
use Rattle.std.proofs.Common.{sym, ◌∙◌}
use Rattle.basics.proofs.Answers.{raised_fault}
use Rattle.mesh.specs.Mesh.{seen, broken_mesh}
use Rattle.grid_cells.specs.Lent.{lent}
use Rattle.cell_index.proofs.Sound.{unbroken, refuse_sizes, refuse_mesh, refuse_13, refuse-none}
use Rattle.cell_index.proofs.SoundIndex.new.Goals as goal

pub returns-in_err-ndim-clause-judged : goal.returns-in_err-ndim-clause-judged
returns-in_err-ndim-clause-judged c =
    raised_fault c.in_err-ndim.field-0.0 c.from_residual.result c.from_residual.ensures
    ∙ refuse_sizes c.args.grid (seen c.args.mesh) (lent c.args.lists) c.in_err-ndim.ensures.judged

pub returns-in_err-mesh-clause-judged : goal.returns-in_err-mesh-clause-judged
returns-in_err-mesh-clause-judged c =
    raised_fault c.in_err-mesh.field-0.0 c.from_residual-in_err-mesh.result c.from_residual-in_err-mesh.ensures
    ∙ refuse_mesh c.args.grid (seen c.args.mesh) (lent c.args.lists) (sym c.in_ok-ndim.ensures.judged) (rw c.in_ok-ndim.ensures.same at c.in_err-mesh.ensures.judged)

pub returns-then-not-is_sound-clause-judged : goal.returns-then-not-is_sound-clause-judged
returns-then-not-is_sound-clause-judged c =
    let g = c.args.grid in
    let m = seen c.args.mesh in
    let whole = unbroken (broken_mesh g.ndim m) (rw c.in_ok-ndim.ensures.same at c.in_ok-mesh.ensures.judged) in
    let count = rw (c.in_ok-mesh.ensures.same.0, c.in_ok-mesh.ensures.same.1, c.in_ok-ndim.ensures.same) at c.cell_count.ensures in
    let damaged = sym (rw count at c.is_sound.ensures) ∙ c.if-not-is_sound.true in
    refuse_13 g m (lent c.args.lists) (sym c.in_ok-ndim.ensures.judged) whole damaged

pub returns-clause-judged : goal.returns-clause-judged
returns-clause-judged c =
    let g = c.args.grid in
    let m = seen c.args.mesh in
    let whole = unbroken (broken_mesh g.ndim m) (rw c.in_ok-ndim.ensures.same at c.in_ok-mesh.ensures.judged) in
    let count = rw (c.in_ok-mesh.ensures.same.0, c.in_ok-mesh.ensures.same.1, c.in_ok-ndim.ensures.same) at c.cell_count.ensures in
    let sound = sym (rw count at c.is_sound.ensures) ∙ c.if-not-is_sound.false in
    refuse-none g m (lent c.args.lists) (sym c.in_ok-ndim.ensures.judged) whole sound
