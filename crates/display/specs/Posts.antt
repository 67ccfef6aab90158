-- What the crate's private functions ensure. Definitions only.
use Rattle.std.specs.Prelude.{ℕ, ◌<◌, ◌≡◌, List, [], ◌∷◌, map, ltb, length, get_or}
use Rattle.basics.specs.Refusals.{refuse, fault}
use Rattle.basics.specs.Filled.{Filled, fill}
use Rattle.sorting.specs.Posts.{mark_id, Indices}
use Rattle.sorting.specs.Sorted.{distinct}

-- the order names the ids, ascending, once each
pub record Picked (ids order : List ℕ) : Type 0 where
  pub by_id : map (mark_id ids) order ≡ distinct ids
  pub below : Indices (length ids) (length order) order

-- the entries are 0, 1, ..
abbrev pub Numbered : List ℕ → Type 0
Numbered order = (i : ℕ) → i < length order → get_or order i 0 ≡ i

-- 14 where the buffer is shorter than the text, and else the text at its front
abbrev pub fitted : List ℕ → List ℕ → Filled
fitted text buffer = fill (fault (refuse 14 (ltb (length buffer) (length text)) ∷ [])) text buffer
