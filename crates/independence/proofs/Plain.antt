-- A change of a library alone: its own tests, past 24 and 13, and what it answers and leaves where none fails: a clause for each kind of change.
use Prim.Native.Nat.{ℕ}
use mathlib.Core.List.{List, ◌++◌}
use lib.ListN.{length}
use Rattle.basics.specs.Refusals.{Test}
use Rattle.grid_search.specs.declared.GridSearch.{GridSearch}
use Rattle.table.specs.declared.Row.{Row}
use Rattle.table.specs.Rows.{own, without}
use Rattle.table.specs.Library.{Library, table, write, blank}
use Rattle.rows.specs.Insert.{points, rows_with, position_tests, room_tests}
use Rattle.strike.specs.Strike.{id_tests}
use Rattle.independence.specs.Run.{Change, insert, strike}

unfoldable pub plain_tests : GridSearch → Library → Change → List Test
plain_tests s l (insert i x) = position_tests s x (points s x) ++ room_tests l (rows_with s i x (table l))
plain_tests s l (strike i) = id_tests i (table l)

unfoldable pub counting : GridSearch → Change → List Row → ℕ
counting s (insert i x) rows = length (rows_with s i x rows)
counting s (strike i) rows = length (own i rows)

unfoldable pub left : GridSearch → Library → Change → Library
left s l (insert i x) = write (rows_with s i x (table l)) l
left s l (strike i) = write (without i (table l)) (blank l)
