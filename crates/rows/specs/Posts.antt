-- What the crate's inner functions ask and ensure. Definitions only.
use Rattle.std.specs.Prelude.{ℕ, zero, suc, ◌≡◌, Bool, true, cond, ◌&&◌, List, [], ◌∷◌, ◌++◌, ltb, eqb, Float}
use Rattle.std.proofs.Math.Option.{Option, none, some}
use Rattle.basics.specs.Lists.{all, has}
use Rattle.basics.specs.Refusals.{fault}
use Rattle.floats.specs.Rounded.{zero_f}
use Rattle.floats.specs.Tests.{same_bits}
use Rattle.geometry.specs.Position.{position_of, coordinate, dimension}
use Rattle.grid.specs.Divisions.{counts, division}
use Rattle.grid_search.specs.declared.GridSearch.{GridSearch}
use Rattle.table.specs.declared.Row.{Row}
use Rattle.table.specs.Rows.{Slot, slotted, key_in, x_in, y_in, z_in, put_in}
use Rattle.table.specs.Library.{Library, table}
use Rattle.table.specs.Posts.{Room}
use Rattle.rows.specs.Insert.{outside_sheet, overshoots, container_of, rows_with, insert_tests}
use Rattle.std.specs.Prelude as found
use Rattle.std.specs.Prelude.{Some, None, Result, Ok, Err}
use Rattle.basics.specs.declared.Refusal.{Refusal}
use Rattle.basics.specs.Answers.{refusal_number}

abbrev pub plus_zero : Float → Bool
plus_zero z = same_bits z zero_f

-- ---- the walk over the rows

-- the third coordinate of a row: +0 in 2D
abbrev pub third : ℕ → Float → Bool
third n z = cond (eqb n 2) (plus_zero z) (coordinate z)

-- a row by itself, where there are so many axes and containers: by its key and coordinates
abbrev pub good_parts : ℕ → ℕ → ℕ → Float → Float → Float → Bool
good_parts n count key x y z = third n z && (ltb key count && (coordinate x && coordinate y))

abbrev pub good_in : ℕ → ℕ → Row → Bool
good_in n count r = good_parts n count (key_in r) (x_in r) (y_in r) (z_in r)

-- the slot of the row before, which the code keeps as its id and its key plus one; the bound of the first row is 0
abbrev pub slot_before : ℕ → ℕ → Option Slot
slot_before zero last = none
slot_before (suc key) last = some (slotted key last)

-- ---- what is known of a sheet and of lists

-- what a container's key is worked out from is in order
pub record Divided (s : GridSearch) : Type 0 where
  pub axes : dimension s.ndim ≡ true
  pub divisions : all division (counts s.ndim s.ndiv) ≡ true

-- what is known of the sheet and the lists when the rows are looked at
pub record Checked (s : GridSearch) (l : Library) : Type 0 where
  pub sheet : Divided s
  pub room : Room l l.used

-- ---- the containers of a mark, each once

-- with one more, unless it is among them
unfoldable pub joined : List ℕ → ℕ → List ℕ
unfolding has
joined ks k = cond (has k ks) ks (ks ++ k ∷ [])

-- with the container of one more point, unless it is outside the sheet; none where a ratio of the point exceeds its divisions
unfoldable pub look : GridSearch → List ℕ → List Float → found.Option (List ℕ)
unfolding outside_sheet overshoots joined container_of
look s ks p = cond (outside_sheet s p) (Some ks) (cond (overshoots s p) None (Some (joined ks (container_of s p))))

-- with those of several points
unfoldable pub look_all : GridSearch → found.Option (List ℕ) → List (List Float) → found.Option (List ℕ)
unfolding look
look_all s ks [] = ks
look_all s None (p ∷ ps) = None
look_all s (Some ks) (p ∷ ps) = look_all s (look s ks p) ps

-- a point looked at, with these containers before and after
abbrev pub Looks : GridSearch → List Float → List ℕ → found.Option (Unit {0}) → List ℕ → Type 0
Looks s p ks (Some u) after = look s ks p ≡ Some after
Looks s p ks None after = look s ks p ≡ None

-- ---- an insertion judged before anything is written

-- it is not turned away, and the mark in each of these containers is the mark in each of its containers
pub record Accepts (s : GridSearch) (l : Library) (i : ℕ) (x : List Float) (into : List ℕ) : Type 0 where
  pub passes : fault (insert_tests s l i x) ≡ none
  pub rows_are : put_in i (position_of x) into (table l) ≡ rows_with s i x (table l)

abbrev pub Judges : GridSearch → Library → ℕ → List Float → Result (List ℕ) Refusal → Type 0
Judges s l i x (Ok into) = Accepts s l i x into
Judges s l i x (Err e) = fault (insert_tests s l i x) ≡ some (refusal_number e)
