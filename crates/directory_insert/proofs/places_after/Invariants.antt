-- `places_after` meets its contract. Invariant: n is the count after the first i containers.
-- Assumes nothing.
use Rattle.std.proofs.Common.{◌+◌, ◌≤◌, length, take}
use Rattle.directory_insert.specs.Posts.{PlacesAfter}
use Rattle.directory_insert.proofs.places_after.Given as goal

abbrev pub invariant-loop-i : goal.invariant-loop-i
invariant-loop-i l = record {
  most : l.n ≤ length l.keys + l.i;
  count : PlacesAfter l.keys (take l.i l.into) l.n;
}
