-- What is claimed of the check of a library. Proofs: proofs/Theorems.antt.
-- Assumes nothing.
use Rattle.std.specs.Prelude.{ℕ, suc, ◌<◌, ◌≡◌, true, false, cond, List, length, take}
use Rattle.std.proofs.Math.Option.{none, some}
use Rattle.basics.specs.Refusals.{fault, is_none, code, Answer, refused, success}
use Rattle.grid_search.specs.declared.GridSearch.{GridSearch}
use Rattle.table.specs.declared.Row.{Row}
use Rattle.table.specs.Library.{Library}
use Rattle.rows.specs.Damage.{good_row, sound_rows, library_tests}
use Rattle.rows.specs.Check.{Walk, walk, checking}

-- What the walk tells of rows, in the words of 13 (`sound_rows`).
pub record Telling (s : GridSearch) (rows : List Row) (w : Walk) : Type 0 where
  -- 13 holds of the rows exactly if a row is told
  pub exactly : is_none w.bad ≡ sound_rows s rows
  -- the row told is one of them; those before it are sound, and with it they are not
  pub among : (i : ℕ) → w.bad ≡ some i → i < length rows
  pub sound-before : (i : ℕ) → w.bad ≡ some i → sound_rows s (take i rows) ≡ true
  pub unsound_with : (i : ℕ) → w.bad ≡ some i → sound_rows s (take (suc i) rows) ≡ false
  -- the rows visited are those up to it, and it, or all
  pub visited_to : (i : ℕ) → w.bad ≡ some i → w.visited ≡ suc i
  pub visited-all : w.bad ≡ none → w.visited ≡ length rows

abbrev pub Told : Type 0
Told = (s : GridSearch) (rows : List Row) → Telling s rows (walk (good_row s) rows)

-- the number that a check's answer stands for in other calls: its refusal, or 13 where a row is told, or 0
unfoldable pub damage : Answer Walk → ℕ
unfolding is_none
damage (refused n) = n
damage (success w) = cond (is_none w.bad) 0 13

-- Every other call turns a library away with 24 and 13 as the check does, and with 13 also where the check tells a row.
abbrev pub SameDamage : Type 0
SameDamage = (s : GridSearch) (l : Library) → code (fault (library_tests s l)) ≡ damage (checking s l)
