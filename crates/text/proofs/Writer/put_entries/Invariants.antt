-- The invariant: the entries so far were put.
-- Assumes nothing.
use Rattle.std.proofs.Common.{take}
use Rattle.text.specs.Text.{entries}
use Rattle.text.specs.Writers.{Puts}
use Rattle.text.proofs.Writer.put_entries.Given as goal

abbrev pub invariant-loop-i : goal.invariant-loop-i
invariant-loop-i l = Puts (entries l.between 0 (take l.i l.numbers)) l.initial.self l.self
