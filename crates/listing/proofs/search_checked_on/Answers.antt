use Rattle.listing.proofs.Answers.{axes, misplaced, walks, listed_out}
use Rattle.listing.proofs.search_checked_on.Goals as goal

pub place_fault-requires : goal.place_fault-requires
place_fault-requires c = axes _ _ c.args.of.sound

pub returns-in_err-place_fault : goal.returns-in_err-place_fault
returns-in_err-place_fault c = misplaced _ _ _ _ _ c.args.of.sound c.in_err-place_fault.field-0.0 (rw c.in_err-place_fault.was at c.place_fault.ensures) c.from_residual.ensures

pub list_on-requires : goal.list_on-requires
list_on-requires c = walks _ _ c.args.of.sound _ _ (rw c.in_ok-place_fault.was at c.place_fault.ensures)

pub returns : goal.returns
returns c = listed_out _ _ _ _ _ c.args.of.sound (rw c.in_ok-place_fault.was at c.place_fault.ensures) c.list_on.ensures
