-- What the crate's inner functions ask and ensure. Definitions only.
use Rattle.std.specs.Prelude.{ℕ, ◌≤◌, ◌<◌, ◌≡◌, List, length, take, Option, Some, None}
use Rattle.basics.specs.Lists.{leading}
use Rattle.table.specs.declared.Row.{Row}
use Rattle.table.specs.Rows.{without}
use Rattle.table.specs.Library.{Library, rows_of, table, write, blank, lengths}
use Rattle.table.specs.Posts.{Room}

-- the first of the ids that is this one, where there is one
abbrev pub FirstWith : ℕ → List ℕ → Option ℕ → Type 0
FirstWith id ids None = leading id ids ≡ length ids
FirstWith id ids (Some at) = (leading id ids ≡ at) × (at < length ids)

-- f makes the rows in use after a call of those before it, and every entry past them is 0 or +0
abbrev pub Leaves : (List Row → List Row) → Library → Library → Type 0
Leaves f l after = after ≡ write (f (table l)) (blank l)

-- the lists hold the rows in use, and none of the first `from` is of the id
pub record Strikes (id from : ℕ) (l : Library) : Type 0 where
  pub room : Room l l.used
  pub first : from ≤ leading id (take l.used l.ids)

-- the first r rows of the lists are those of other ids, in their order; the lists are as long as they were
pub record Closed (id r : ℕ) (l after : Library) : Type 0 where
  pub rows : rows_of after r ≡ without id (table l)
  pub lengths-are : lengths after ≡ lengths l
