-- The invariant: the lines of the containers so far were put, and those of the keys and ids that are left make the rest.
-- Assumes nothing.
use Rattle.display.proofs.Walks.{Walking}
use Rattle.display.proofs.Contents.put_lines.Given as goal

abbrev pub invariant-loop-run : goal.invariant-loop-run
invariant-loop-run l = Walking l.self.keys.now l.self.ids.now l.initial.out l.n l.run-iterator.rest.now l.rest l.out
