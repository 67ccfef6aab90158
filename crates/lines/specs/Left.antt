-- What the iterator over lines has left. Definitions only.
-- Assumes nothing.
use Rattle.std.specs.Prelude.{ℕ, List}
use Rattle.lines.specs.Lines.{lines}
use Rattle.lines.specs.declared.Lines.{Lines}

-- the lines of what is left of the text
abbrev pub lines_left : Lines → List (List ℕ)
lines_left s = lines s.rest.now
