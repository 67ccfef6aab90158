-- `grid_cells::refusals::given` meets its contract. Assumes nothing.
use Rattle.std.proofs.Common.{◌∙◌, eq-eqb}
use Rattle.basics.specs.Refusals.{fault}
use Rattle.basics.proofs.Answers.{raised_fault}
use Rattle.mesh.specs.Mesh.{seen, broken_mesh}
use Rattle.grid_cells.specs.Build.{given_tests}
use Rattle.grid_cells.proofs.Ways.{first_fails}
use Rattle.grid_cells.proofs.refusals.given.Goals as goal

pub returns-in_err-whole-clause-judged : goal.returns-in_err-whole-clause-judged
unfolding fault given_tests
returns-in_err-whole-clause-judged c =
    raised_fault c.in_err-whole.field-0.0 c.from_residual.result c.from_residual.ensures
    ∙ rw (eq-eqb _ _ c.if-lists.false) (first_fails (broken_mesh c.args.ndim.n (seen c.args.mesh)) 19 _ c.in_err-whole.ensures.judged)
