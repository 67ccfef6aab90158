use Rattle.std.proofs.Common.{sym}
use Rattle.listing.proofs.Answers.{turned_away}
use Rattle.listing.proofs.search_on_place.Goals as goal

pub returns-in_err-library_fault : goal.returns-in_err-library_fault
returns-in_err-library_fault c = turned_away _ _ _ _ _ c.in_err-library_fault.field-0.0 (rw c.in_err-library_fault.was at c.library_fault.ensures) c.from_residual.ensures

pub invariant_of-of : goal.invariant_of-of
invariant_of-of c = record { sound = sym c.in_ok-library_fault.ensures; counted = tt }
