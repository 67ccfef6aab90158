-- The invariant: the ids of the first marks stand at the front of the list.
-- Assumes nothing.
use Rattle.std.proofs.Common.{◌≡◌, map, take}
use Rattle.basics.specs.Lists.{over}
use Rattle.sorting.specs.Posts.{mark_id}
use Rattle.listing.proofs.walk.write_ids.Given as goal

abbrev pub invariant-loop-i : goal.invariant-loop-i
invariant-loop-i l = l.list ≡ over (map (mark_id l.ids) (take l.i l.marks)) l.initial.list
