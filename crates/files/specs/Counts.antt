-- How many bytes stand at the front of a buffer.
-- Assumes nothing.
use Rattle.std.specs.Prelude.{ℕ, ◌≡◌, ◌≤◌, List, length, take}

-- The first n bytes can be lent as a slice, and are n. The second part follows from the first; both are stated so that the proof
-- of `&bytes[..n]` finds them.
abbrev pub IsPrefixLen : ℕ → List ℕ → Type 0
IsPrefixLen n bytes = (n ≤ length bytes) × (n ≡ length (take n bytes))
