use Rattle.std.proofs.Common.{sym}
use Rattle.directory.proofs.Passing.{passing}
use Rattle.directory_list.proofs.Answers.{turned_away, same}
use Rattle.directory_list.proofs.search_on_place.Goals as goal

pub returns-in_err-counts : goal.returns-in_err-counts
returns-in_err-counts c = turned_away _ _ _ _ _ c.in_err-counts.field-0.0 c.in_err-counts.ensures.tests c.from_residual.ensures

pub invariant_of-of : goal.invariant_of-of
invariant_of-of c = record { sound = (passing _ _ _ (sym c.in_ok-counts.ensures.tests)).library-passes; counted = c.in_ok-counts.ensures.counted }

pub returns : goal.returns
returns c = same _ _ _ _ _ c.in_ok-counts.ensures.tests c.search_checked_on_place.ensures
