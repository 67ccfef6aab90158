-- The check of a library's rows in one walk: the lowest bad row, or none, and how many rows were visited.
-- Assumes nothing.
use Rattle.std.specs.Prelude.{ℕ, suc, Bool, true, not, cond, ◌&&◌, List, [], ◌∷◌}
use Rattle.std.proofs.Math.Option.{Option, none, some}
use Rattle.basics.specs.Refusals.{Test, refuse, fault, Answer, answer}
use Rattle.grid_search.specs.declared.GridSearch.{GridSearch}
use Rattle.grid_search.specs.Sheet.{sheet_ok}
use Rattle.table.specs.declared.Row.{Row}
use Rattle.table.specs.Rows.{Slot, slot_of, before}
use Rattle.table.specs.Library.{Library, table, space, too_long, sound_layout}
use Rattle.rows.specs.Damage.{good_row}
use Rattle.std.specs.Prelude as prelude
use Rattle.std.specs.Prelude.{Some, None, Result}
use Rattle.basics.specs.declared.Refusal.{Refusal}
use Rattle.basics.specs.Answers.{answered}
use Rattle.rows.specs.declared.Walk as code

-- a slot stands above the one before it, where there is one
unfoldable pub above : Option Slot → Slot → Bool
unfolding before
above none q = true
above (some p) q = before p q

-- what the walk tells: the lowest bad row, or none, and how many rows were visited
pub record Walk : Type 0 where
  pub bad : Option ℕ
  pub visited : ℕ

-- The walk from row n on, n rows having been visited; p is the slot of the row before, if there is one.
-- Each row is visited once. The first that is bad by itself or does not stand above the one before it is told and ends the walk.
unfoldable pub walk_from : (Row → Bool) → ℕ → Option Slot → List Row → Walk
unfolding above
walk_from good n p [] = record { bad = none; visited = n }
walk_from good n p (r ∷ rows) =
    let rest = walk_from good (suc n) (some (slot_of r)) rows in
    cond (good r && above p (slot_of r)) rest (record { bad = some n; visited = suc n })

unfoldable pub walk : (Row → Bool) → List Row → Walk
unfolding walk_from
walk good rows = walk_from good 0 none rows

-- 24, and 13 for the sheet, the lengths of the lists and the used count
unfoldable pub check_tests : GridSearch → Library → List Test
unfolding too_long space sheet_ok sound_layout
check_tests s l =
    refuse 24 (too_long (space l))
    ∷ refuse 13 (not (sheet_ok s && sound_layout l))
    ∷ []

-- what the walk over the rows in use tells, or the refusal
unfoldable pub checking : GridSearch → Library → Answer Walk
unfolding answer fault check_tests walk good_row table
checking s l = answer (fault (check_tests s l)) (walk (good_row s) (table l))

-- what the code's walk tells, and the answer's number, or what it tells
abbrev pub row_told : prelude.Option ℕ → Option ℕ
row_told (Some i) = some i
row_told None = none

abbrev pub walk_of : code.Walk → Walk
walk_of w = record { bad = row_told w.bad; visited = w.visited }

abbrev pub walked : Result code.Walk Refusal → Answer Walk
walked = answered walk_of
