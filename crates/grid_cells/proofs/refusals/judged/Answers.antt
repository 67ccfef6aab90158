-- `grid_cells::refusals::judged` meets its contract. Assumes nothing.
use Rattle.std.proofs.Common.{sym, ◌∙◌}
use Rattle.basics.proofs.Answers.{raised_fault}
use Rattle.basics.proofs.Refusals.{fault_stop, fault-right}
use Rattle.mesh.specs.Mesh.{seen}
use Rattle.grid_cells.specs.Build.{size_tests, given_tests}
use Rattle.grid_cells.specs.Lent.{lent}
use Rattle.grid_cells.specs.Steps.{early_tests}
use Rattle.grid_cells.proofs.refusals.judged.Goals as goal

pub returns-in_err-ndim-clause-judged : goal.returns-in_err-ndim-clause-judged
unfolding early_tests
returns-in_err-ndim-clause-judged c =
    let m = seen c.args.mesh in
    let l = lent c.args.lists in
    raised_fault c.in_err-ndim.field-0.0 c.from_residual.result c.from_residual.ensures
    ∙ sym (fault_stop (size_tests c.args.mesh.ndim m l) (given_tests c.args.mesh.ndim m c.args.settings l) _ (sym c.in_err-ndim.ensures.judged))

pub returns-clause-judged : goal.returns-clause-judged
unfolding early_tests
returns-clause-judged c =
    let m = seen c.args.mesh in
    let l = lent c.args.lists in
    let n = c.in_ok-ndim.ensures.same in
    rw n at c.given.ensures.judged ∙ sym (fault-right (size_tests c.args.mesh.ndim m l) (given_tests c.args.mesh.ndim m c.args.settings l) (sym c.in_ok-ndim.ensures.judged))
