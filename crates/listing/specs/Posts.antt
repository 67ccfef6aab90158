-- What the inner functions of a listing ask and ensure.
-- Assumes nothing.
use Rattle.std.specs.Prelude.{ℕ, ◌+◌, ◌≤◌, ◌<◌, ◌≡◌, true, false, List, [], ◌∷◌, map, ltb, length, get_or, take, drop, Float, Option, Some, None, Result}
use denote.Ref.{Bor}
use Rattle.basics.specs.Lists.{keep}
use Rattle.basics.specs.Refusals.{refuse, fault}
use Rattle.basics.specs.declared.Refusal.{Refusal}
use Rattle.geometry.specs.Axes.{dimension}
use Rattle.grid.specs.Divisions.{counts}
use Rattle.grid.specs.Containers.{containers}
use Rattle.grid_search.specs.declared.GridSearch.{GridSearch}
use Rattle.table.specs.Rows.{id_in, run}
use Rattle.table.specs.Library.{Library, rows_of}
use Rattle.rows.specs.Posts.{Checked}
use Rattle.sorting.specs.Posts.{mark_id, Indices}
use Rattle.listing.specs.declared.Place.{Place}
use Rattle.listing.specs.declared.Filter.{Filter}
use Rattle.listing.specs.declared.walk.Reached.{Reached}
use Rattle.listing.specs.declared.walk.Marked.{Marked}
use Rattle.listing.specs.Place.{unknown, asked_of, asked, wrong_length, unfit, unfit_filter, container_near, is_on}
use Rattle.listing.specs.Listing.{listed}
use Rattle.basics.specs.Filled.{fill}
pub use Rattle.listing.specs.Counted.{Runs, CountedFrom, Counted}

-- A place that the code makes of a number and slices: the one that they name, where the slices have the right length, and else of
-- the same kind, so that 16 says the same of both.
pub record Stands (p : ℕ) (a b : List Float) (v : Float) (on : Place) : Type 0 where
  pub same : (n : ℕ) → dimension n ≡ true → wrong_length n (asked_of p a b v) ≡ false → asked n on ≡ asked_of p a b v
  pub alike : (n : ℕ) → unfit n (asked n on) ≡ unfit n (asked_of p a b v)

-- that place, or none where the number names none
abbrev pub Named : ℕ → List Float → List Float → Float → Option Place → Type 0
Named p a b v (Some on) = Stands p a b v on
Named p a b v None = asked_of p a b v ≡ unknown

-- ---- containers side by side, and how many rows each has

-- where the rows of the container end whose first row this is
abbrev pub end_from : List ℕ → ℕ → ℕ → ℕ
end_from keys used first = first + run (get_or keys first 0) (drop first (take used keys))

-- ---- the walk

-- what is known of the sheet, the rows, the place and the filter when the rows are walked
pub record Known (s : GridSearch) (l : Library) (p : Place) (f : Filter) : Type 0 where
  pub checked : Checked s l
  pub small : l.used ≤ 65536
  pub keys_below : (i : ℕ) → i < l.used → get_or l.keys i 0 < containers (counts s.ndim s.ndiv)
  pub fit : unfit s.ndim (asked s.ndim p) ≡ false
  pub fit-filter : unfit_filter s.ndim f ≡ false

-- the containers of the rows from one on, up to another, are near
abbrev pub AllNear : GridSearch → Place → List ℕ → ℕ → ℕ → Type 0
AllNear s p keys from end = (i : ℕ) → from ≤ i → i < end → container_near s (asked s.ndim p) (get_or keys i 0) ≡ true

-- n of the first i rows count, and the first n marks are their indices
pub record Gathered (s : GridSearch) (p : Place) (f : Filter) (l : Library) (i n : ℕ) (marks : List ℕ) : Type 0 where
  pub upto : n ≤ i
  pub below : Indices i n marks
  pub ids-are : map (mark_id l.ids) (take n marks) ≡ map id_in (keep (is_on s (asked s.ndim p) f) (rows_of l i))

-- The rows of a container are marked behind the first `marked`, which stay: all of them, or up to one behind which no place
-- would be left for one more.
pub record Marks (s : GridSearch) (p : Place) (f : Filter) (l : Library) (first end marked : ℕ) (marks : List ℕ) (r : Marked) : Type 0 where
  pub from : first ≤ r.row
  pub upto : r.row ≤ end
  pub inside : r.marked < length marks
  pub full : r.row < end → length marks ≡ r.marked + 1
  pub before : Gathered s p f l first marked marks
  pub gathered : Gathered s p f l r.row r.marked marks

-- A walk came to a row, and has marked the rows before it that count; there is a place for one more. From that row up to `end`
-- the rows are of a near container that was begun, and `place` containers stand before `end`.
pub record Walked (s : GridSearch) (p : Place) (f : Filter) (l : Library) (counts : Option (Bor (List ℕ))) (r : Reached) (marks : List ℕ) : Type 0 where
  pub upto : r.row ≤ r.end
  pub end-upto : r.end ≤ l.used
  pub near : AllNear s p l.keys r.row r.end
  pub few : r.place ≤ r.end
  pub counted : CountedFrom l.keys l.used counts r.place r.end
  pub inside : r.marked < length marks
  pub gathered : Gathered s p f l r.row r.marked marks

-- what is returned, and what the list holds at exit, where only 14 can turn the call away
pub record Out (ids list : List ℕ) (r : Result ℕ Refusal) (after : List ℕ) : Type 0 where
  pub answers : listed r ≡ (fill (fault (refuse 14 (ltb (length list) (length ids)) ∷ [])) ids list).answer
  pub list-is : after ≡ (fill (fault (refuse 14 (ltb (length list) (length ids)) ∷ [])) ids list).list
