-- The invariant: the bytes so far are digits, and stand for n.
-- Assumes nothing.
use Rattle.decimals.proofs.Digits.{Walk}
use Rattle.decimals.proofs.read_digits.Given as goal

abbrev pub invariant-loop-byte : goal.invariant-loop-byte
invariant-loop-byte l = Walk l.field l.n l.byte-index
