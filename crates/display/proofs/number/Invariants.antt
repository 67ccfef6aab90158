-- The invariant: the entries so far are numbered.
-- Assumes nothing.
use Rattle.std.proofs.Common.{ℕ, ◌≡◌, ◌<◌, length, get_or}
use Rattle.display.proofs.number.Given as goal

abbrev pub invariant-loop-i : goal.invariant-loop-i
invariant-loop-i l = (length l.order ≡ length l.initial.order) × ((j : ℕ) → j < l.i → get_or l.order j 0 ≡ j)
