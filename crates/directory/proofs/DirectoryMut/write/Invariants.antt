-- `write` meets its contract. Invariant: the entries of the first containers stand at the front of the lists.
-- Assumes nothing.
use Rattle.std.proofs.Common.{length, take}
use Rattle.directory.specs.Entries.{entries_from}
use Rattle.directory.specs.Lent.{kept_mut, SamePlaces}
use Rattle.directory.specs.Posts.{Written}
use Rattle.directory.proofs.DirectoryMut.write.Given as goal

abbrev pub invariant-loop-entry : goal.invariant-loop-entry
invariant-loop-entry l = record {
  written : Written (take (length l.yielded) (entries_from 0 l.fn.keys)) (kept_mut l.fn.self) (kept_mut l.self);
  same_places : SamePlaces l.fn.self l.self;
}
