-- What the functions ensure. Definitions only.
-- Assumes nothing.
use Rattle.std.specs.Prelude.{ℕ, ◌-◌, ◌≤◌, ◌<◌, ◌≡◌, List, ◌∷◌, length, take, drop}
use Rattle.lines.specs.Lines.{lines}
use Rattle.lines.specs.declared.Line.{Line}

-- from an index on, the first line of a text lies up to r's end, and the others start where the next one does
pub record IsLine (text : List ℕ) (at : ℕ) (r : Line) : Type 0 where
  pub starts : at ≤ r.end
  pub ends : r.end ≤ length text
  pub onward : at < r.next
  pub within : r.next ≤ length text
  pub first : lines (drop at text) ≡ take (r.end - at) (drop at text) ∷ lines (drop r.next text)
