-- `library_fault` meets its contract: a law for each answer of the check.
-- Assumes nothing.
use Rattle.std.proofs.Common.{sym, ◌∙◌, ap}
use Rattle.basics.specs.Refusals.{is_none}
use Rattle.basics.proofs.Answers.{raised_fault}
use Rattle.rows.proofs.Theorems.{fault_of, faults}
use Rattle.rows.proofs.library_fault.Goals as goal

pub returns-in_err-check_library : goal.returns-in_err-check_library
unfolding fault_of
returns-in_err-check_library c =
    raised_fault c.in_err-check_library.field-0.0 c.from_residual.result c.from_residual.ensures ∙ ap fault_of c.in_err-check_library.ensures ∙ sym (faults c.args.sheet _)

pub returns-in-Some : goal.returns-in-Some
unfolding fault_of is_none
returns-in-Some c = (rw c.in-Some.is at (ap fault_of c.in_ok-check_library.ensures)) ∙ sym (faults c.args.sheet _)

pub returns-in-None : goal.returns-in-None
unfolding fault_of is_none
returns-in-None c = (rw c.in-None.is at (ap fault_of c.in_ok-check_library.ensures)) ∙ sym (faults c.args.sheet _)
