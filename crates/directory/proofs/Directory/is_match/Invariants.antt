-- `is_match` meets its contract. Invariant: `Matching`.
-- Assumes nothing.
use Rattle.directory.specs.Lent.{kept}
use Rattle.directory.proofs.Match.{Matching}
use Rattle.directory.proofs.Directory.is_match.Given as goal

abbrev pub invariant-loop-p : goal.invariant-loop-p
invariant-loop-p l = Matching l.keys (kept l.self) l.next l.p
