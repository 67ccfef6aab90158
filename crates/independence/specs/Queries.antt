-- Near and listed: of which ids, whatever the choice among them and the list lent for them, and how far from a position an id is. Where a query is refused, no id is near or listed.
-- Assumes nothing.
use Rattle.std.specs.Prelude.{ℕ, Bool, ◌&&◌, List, [], ◌∷◌, ◌++◌, map, Float}
use Rattle.std.proofs.Math.Option.{Option-elim}
use Rattle.std.specs.Float.{nan}
use Rattle.basics.specs.Lists.{has}
use Rattle.basics.specs.Refusals.{Test, fault, is_none}
use Rattle.grid_search.specs.declared.GridSearch.{GridSearch}
use Rattle.table.specs.Rows.{slotted, id_in, row_for}
use Rattle.rows.specs.Insert.{container_of, position_tests}
use Rattle.search.specs.Search.{near_rows, away}
use Rattle.listing.specs.declared.Filter.{Filter}
use Rattle.listing.specs.Place.{Asked, is_on, place_tests}
use Rattle.listing.specs.Listing.{ids_of, occupied}
use Rattle.independence.specs.Holdings.{Holding, rows_in, holding_tests}

-- no test fails
unfoldable pub pass : List Test → Bool
unfolding is_none fault
pass ts = is_none (fault ts)

-- the tests of a search: 24, 13 and with a directory 29; 2, 3, 11, 17
unfoldable pub near_tests : GridSearch → Holding → List Float → List Test
unfolding holding_tests position_tests
near_tests s h x = holding_tests s h ++ position_tests s x (x ∷ [])

-- the id is one of those near the position: search does not refuse the position, and one of the near rows is the id's
unfoldable pub near : GridSearch → Holding → List Float → ℕ → Bool
unfolding pass near_tests has near_rows
near s h x i = pass (near_tests s h x) && has i (map id_in (near_rows s x (rows_in h)))

-- the computed distance of the id's mark from the position: that of the id's row in the position's container, and a NaN where it has none there
unfoldable pub distance : GridSearch → Holding → List Float → ℕ → Float
unfolding Option-elim row_for container_of away
distance s h x i = Option-elim (row_for (slotted (container_of s x) i) (rows_in h)) nan (away s x)

-- the ids on a place
unfoldable pub ids_in : GridSearch → Holding → Asked → Filter → List ℕ
unfolding ids_of is_on
ids_in s h p f = ids_of (is_on s p f) (rows_in h)

-- the tests of a listing that its lent list has no part in: 24, 13 and with a directory 29; 16, 2, 3, 15
unfoldable pub placed_tests : GridSearch → Holding → Asked → Filter → List Test
unfolding holding_tests place_tests occupied
placed_tests s h p f = holding_tests s h ++ place_tests s p f (occupied (rows_in h))

-- the id is one of those on the place: a listing does not refuse the place, however long its list, and the id is one of those listed
unfoldable pub on : GridSearch → Holding → Asked → Filter → ℕ → Bool
unfolding pass placed_tests has ids_in
on s h p f i = pass (placed_tests s h p f) && has i (ids_in s h p f)
