-- `store_all` meets its contract. Invariant: the library and the directory are those that the first stores make.
-- Assumes nothing.
use Rattle.std.proofs.Common.{take}
use Rattle.table.specs.Rows.{put_in}
use Rattle.table.specs.Lent.{lent_mut, SameLists}
use Rattle.directory.specs.Lent.{kept_mut, SamePlaces}
use Rattle.directory_insert.specs.Posts.{BecomesBoth}
use Rattle.directory_insert.proofs.store_all.Given as goal

abbrev pub invariant-loop-key : goal.invariant-loop-key
invariant-loop-key l = record {
  stores : BecomesBoth (put_in l.mark.id.0 l.mark.at (take l.key-index l.into)) (lent_mut l.fn.library) (kept_mut l.fn.directory) (lent_mut l.library) (kept_mut l.directory);
  same_lists : SameLists l.fn.library l.library;
  same_places : SamePlaces l.fn.directory l.directory;
}
