-- `call_fault` meets its contract: the library's tests, and then the position's.
-- Assumes nothing.
use Rattle.std.proofs.Common.{sym, ◌∙◌}
use Rattle.basics.proofs.Answers.{raised_fault}
use Rattle.rows.proofs.Check.{whole, divided}
use Rattle.rows.proofs.Answers.{of_library, of_position}
use Rattle.rows.proofs.call_fault.Goals as goal

pub returns-in_err-library_fault : goal.returns-in_err-library_fault
returns-in_err-library_fault c =
    raised_fault c.in_err-library_fault.field-0.0 c.from_residual.result c.from_residual.ensures ∙ sym (of_library c.args.sheet _ c.args.x.now (sym c.in_err-library_fault.ensures))

pub position_fault-requires : goal.position_fault-requires
position_fault-requires c = (divided c.args.sheet (whole c.args.sheet _ (sym c.in_ok-library_fault.ensures)).sheet).axes

pub returns : goal.returns
returns c = c.position_fault.ensures ∙ sym (of_position c.args.sheet _ c.args.x.now (sym c.in_ok-library_fault.ensures))
