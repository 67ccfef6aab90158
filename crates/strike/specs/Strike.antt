-- Striking off an id: what turns it away, and what it answers and leaves.
-- Assumes nothing.
use Rattle.std.specs.Prelude.{ℕ, not, List, [], ◌∷◌, ◌++◌, map, length, Result}
use Rattle.basics.specs.Lists.{has}
use Rattle.basics.specs.Refusals.{Test, refuse, fault, Answer}
use Rattle.basics.specs.Answers.{answered}
use Rattle.basics.specs.declared.Refusal.{Refusal}
use Rattle.grid_search.specs.declared.GridSearch.{GridSearch}
use Rattle.table.specs.declared.Row.{Row}
use Rattle.table.specs.Rows.{id_in, own, without}
use Rattle.table.specs.Library.{Library, table, write, blank}
use Rattle.rows.specs.Damage.{library_tests}
use Rattle.rows.specs.Turn.{Turn, settle}

-- the id has no row: 26
unfoldable pub id_tests : ℕ → List Row → List Test
unfolding has
id_tests i rows = refuse 26 (not (has i (map id_in rows))) ∷ []

-- 24, 13, 26
unfoldable pub strike_tests : GridSearch → Library → ℕ → List Test
unfolding library_tests id_tests table
strike_tests s l i = library_tests s l ++ id_tests i (table l)

-- The answer is how many rows went. The rows of other ids are left, in their order, and every entry past them, to the end of each list, is 0 or +0.
unfoldable pub striking : GridSearch → Library → ℕ → Turn ℕ
unfolding settle fault strike_tests own without table write blank
striking s l i = settle (fault (strike_tests s l i)) (length (own i (table l))) (write (without i (table l)) (blank l)) l

-- the answer's number or its count
abbrev pub struck : Result ℕ Refusal → Answer ℕ
struck = answered (λ n. n)
