-- `look_up` meets its contract: the tests, and then the look-up.
-- Assumes nothing.
use Rattle.std.proofs.Common.{sym, ap, ◌∙◌}
use lib.Seq.{length-take-le}
use Rattle.basics.specs.Refusals.{success}
use Rattle.basics.proofs.Answers.{raised_answer}
use Rattle.directory.specs.Calls.{look_of}
use Rattle.directory.proofs.Passing.{places-room, look-refused, look-told}
use Rattle.directory.proofs.look_up.Goals as goal

pub returns-in_err-directory_fault : goal.returns-in_err-directory_fault
returns-in_err-directory_fault c =
    raised_answer look_of c.in_err-directory_fault.field-0.0 c.from_residual.result c.from_residual.ensures ∙ look-refused c.args.sheet _ _ c.args.key (sym c.in_err-directory_fault.ensures)

pub slice_bounds-find_place-end : goal.slice_bounds-find_place-end
slice_bounds-find_place-end c = sym (length-take-le c.args.directory.used c.args.directory.keys.now (places-room c.args.sheet _ _ (sym c.in_ok-directory_fault.ensures)).0)

pub returns : goal.returns
returns c = ap success c.find_place.ensures ∙ look-told c.args.sheet _ _ (sym c.in_ok-directory_fault.ensures) c.args.key
