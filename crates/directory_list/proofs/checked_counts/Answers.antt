use Rattle.std.proofs.Common.{sym}
use lib.Seq.{length-take-le}
use Rattle.directory.proofs.Passing.{passing, place-room}
use Rattle.directory_list.proofs.Counts.{counted}
use Rattle.directory_list.proofs.checked_counts.Goals as goal

pub slice_bounds-result-end : goal.slice_bounds-result-end
slice_bounds-result-end c =
    let p = passing _ _ _ (sym (rw c.in_ok-directory_fault.was at c.directory_fault.ensures)) in
    sym (length-take-le _ c.args.directory.counts.now (place-room _ p.places-sound).1.1.0)

pub returns-clause-counted : goal.returns-clause-counted
returns-clause-counted c = counted (passing _ _ _ (sym (rw c.in_ok-directory_fault.was at c.directory_fault.ensures)))
