-- `find_place` meets its contract. Invariant: `Looking`.
-- Assumes nothing.
use Rattle.directory.proofs.Looks.{Looking}
use Rattle.directory.proofs.find_place.Given as goal

abbrev pub invariant-loop-n : goal.invariant-loop-n
invariant-loop-n l = Looking l.key l.keys l.at l.n l.reads

abbrev pub decreases-loop-n : goal.decreases-loop-n
decreases-loop-n l = l.n
