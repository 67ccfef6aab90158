-- The invariant: the ids so far were put.
-- Assumes nothing.
use Rattle.std.proofs.Common.{take}
use Rattle.text.specs.Text.{ascii, entries}
use Rattle.text.specs.Writers.{Puts}
use Rattle.display.proofs.Picks.{listed}
use Rattle.display.proofs.Contents.put_ids.Given as goal

abbrev pub invariant-loop-i : goal.invariant-loop-i
invariant-loop-i l = Puts (entries (ascii ", ") 0 (take l.i (listed l.self))) l.initial.out l.out
