-- The row that the distance of a near id is taken of.
use Prim.Native.Nat.{ℕ}
use mathlib.Core.Path.{◌≡◌, sym}
use mathlib.Core.Option.{none, some}
use mathlib.Core.List.{List, [], ◌∷◌, Memᴰ}
use lib.Ieee.{Float}
use Rattle.basics.specs.Refusals.{fault}
use Rattle.basics.proofs.Refusals.{fault_left}
use Rattle.grid_search.specs.declared.GridSearch.{GridSearch}
use Rattle.table.specs.declared.Row.{Row}
use Rattle.table.specs.Rows.{slotted, id_in, row_for}
use Rattle.table.proofs.Ids.{row_for-among}
use Rattle.rows.specs.Insert.{container_of, position_tests}
use Rattle.search.specs.Search.{near_rows}
use Rattle.search.proofs.Choice.{near_row}
use Rattle.independence.specs.Holdings.{Holding, rows_in, holding_tests}
use Rattle.independence.specs.Queries.{near_tests}
use Rattle.independence.proofs.Holdings.{order_in}

module _ (s : GridSearch) (l : Holding) (x : List Float) where
  abbrev rows : List Row
  rows = near_rows s x (rows_in l)

  -- where no test fails, the rows are in strict order: a near row is the only one of its id in the container
  pub only_row : fault (near_tests s l x) ≡ none → (r : Row) → Memᴰ r rows → {i : ℕ} → id_in r ≡ i → row_for (slotted (container_of s x) i) (rows_in l) ≡ some r
  unfolding near_tests
  only_row v r m e =
      let n = near_row s x (rows_in l) r m in
      let order = order_in s l (fault_left (holding_tests s l) (position_tests s x (x ∷ [])) v) in
      rw (sym e, sym n.there) (row_for-among r (rows_in l) order n.among)
