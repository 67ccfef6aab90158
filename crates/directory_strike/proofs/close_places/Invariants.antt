-- `close_places` meets its contract, by the laws of the pass. Invariant: of the first i places those that are left are at the front.
-- None of the rows from those of place i on stands before `next` and is of the id. Assumes nothing.
use Rattle.directory.specs.Lent.{kept_mut, SamePlaces}
use Rattle.directory_strike.specs.Posts.{Quiet}
use Rattle.directory_strike.proofs.Pass.{Thinning}
use Rattle.directory_strike.proofs.close_places.Given as goal

abbrev pub invariant-loop-i : goal.invariant-loop-i
invariant-loop-i l = record {
  thinning : Thinning l.id l.at l.i l.row l.first l.ids (kept_mut l.fn.directory) (kept_mut l.directory);
  quiet : Quiet l.id l.row l.next l.ids;
  same_places : SamePlaces l.fn.directory l.directory;
}
