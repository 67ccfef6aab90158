-- The invariant: the bytes so far were put.
-- Assumes nothing.
use Rattle.std.proofs.Common.{take}
use Rattle.text.specs.Writers.{Puts}
use Rattle.text.proofs.Writer.put_text.Given as goal

abbrev pub invariant-loop-byte : goal.invariant-loop-byte
invariant-loop-byte l = Puts (take l.byte-index l.text) l.initial.self l.self
