-- `cell_search::search_mesh` meets its contract. Assumes nothing.
-- A law for each way out.
use Rattle.std.proofs.Common.{ℕ, sym, ap, ◌∙◌}
use mathlib.Core.Option.{Option}
use Rattle.basics.specs.Refusals.{Answer}
use Rattle.basics.proofs.Answers.{raised_answer}
use Rattle.mesh.specs.Mesh.{Mesh, seen}
use Rattle.grid_cells.specs.Lent.{lent}
use Rattle.cell_search.proofs.Answers.{refuse-index, refuse-asked, pass-zeta, pass-key, answered_none, answered-some}
use Rattle.cell_search.proofs.search_mesh.Goals as goal

pub returns-in_err-index : goal.returns-in_err-index
returns-in_err-index c =
    ap (λ (a : Answer (Option ℕ)). record { answer = a; zeta = c.args.zeta.now }) (raised_answer _ c.in_err-index.field-0.0 c.from_residual.result c.from_residual.ensures)
    ∙ refuse-index c.args.grid (seen c.args.mesh) (lent c.args.lists) c.args.zeta.now c.args.x.now c.in_err-index.ensures.judged

pub returns-in_err-key : goal.returns-in_err-key
returns-in_err-key c =
    let index = c.in_ok-index.ensures in
    let key = rw (index.grid, ap (λ (m : Mesh). m.points) index.mesh) at c.in_err-key.ensures in
    ap (λ (a : Answer (Option ℕ)). record { answer = a; zeta = c.args.zeta.now }) (raised_answer _ c.in_err-key.field-0.0 c.from_residual-in_err-key.result c.from_residual-in_err-key.ensures)
    ∙ refuse-asked c.args.grid (seen c.args.mesh) (lent c.args.lists) c.args.zeta.now c.args.x.now (sym index.judged) key

pub find-requires : goal.find-requires
find-requires c =
    let index = c.in_ok-index.ensures in
    let key = rw (index.grid, ap (λ (m : Mesh). m.points) index.mesh) at c.in_ok-key.ensures in
    pass-key c.args.grid (seen c.args.mesh) (lent c.args.lists) c.args.zeta.now c.args.x.now (sym index.judged) key c.new-2.ensures

pub returns-in_default : goal.returns-in_default
returns-in_default c =
    let index = c.in_ok-index.ensures in
    let key = rw (index.grid, ap (λ (m : Mesh). m.points) index.mesh) at c.in_ok-key.ensures in
    let none = rw (index.grid, index.mesh, index.lists) at (sym c.in_default.is ∙ c.find.ensures) in
    answered_none c.args.grid (seen c.args.mesh) (lent c.args.lists) c.args.zeta.now c.args.x.now (sym index.judged) key c.new-2.ensures none

pub write_zeta-requires : goal.write_zeta-requires
write_zeta-requires c =
    let index = c.in_ok-index.ensures in
    let key = rw (index.grid, ap (λ (m : Mesh). m.points) index.mesh) at c.in_ok-key.ensures in
    pass-zeta c.args.grid (seen c.args.mesh) (lent c.args.lists) c.args.zeta.now c.args.x.now (sym index.judged) key

pub returns : goal.returns
returns c =
    let index = c.in_ok-index.ensures in
    let key = rw (index.grid, ap (λ (m : Mesh). m.points) index.mesh) at c.in_ok-key.ensures in
    let found = rw (index.grid, index.mesh, index.lists) at (sym c.in-Some.is ∙ c.find.ensures) in
    let written = rw (c.in_ok-index.index.axes, index.grid) at c.write_zeta.ensures in
    answered-some c.args.grid (seen c.args.mesh) (lent c.args.lists) c.args.zeta.now c.args.x.now (sym index.judged) key c.new-2.ensures found written
