-- The number of axes. Assumes nothing.
use Rattle.std.specs.Prelude.{ℕ, Bool, ◌||◌, eqb}

-- 2 or 3 axes
abbrev pub dimension : ℕ → Bool
dimension n = eqb n 2 || eqb n 3
