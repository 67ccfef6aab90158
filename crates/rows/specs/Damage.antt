-- When a library on a sheet is damaged: 24 and 13.
-- Assumes nothing.
use Rattle.std.specs.Prelude.{Bool, not, ◌&&◌, ◌||◌, List, [], ◌∷◌, map, ltb, eqb}
use Rattle.basics.specs.Lists.{all}
use Rattle.basics.specs.Refusals.{Test, refuse}
use Rattle.floats.specs.Rounded.{zero_f}
use Rattle.floats.specs.Tests.{same_bits}
use Rattle.geometry.specs.Position.{coords, coordinate}
use Rattle.grid.specs.Divisions.{counts}
use Rattle.grid.specs.Containers.{containers}
use Rattle.grid_search.specs.declared.GridSearch.{GridSearch}
use Rattle.grid_search.specs.Sheet.{sheet_ok}
use Rattle.table.specs.declared.Row.{Row}
use Rattle.table.specs.Rows.{slot_of, sorted, key_in, z_in}
use Rattle.table.specs.Library.{Library, table, space, too_long, sound_layout}

-- A row by itself: its key is below the container count, its coordinates are finite and within limits, the third +0 in 2D.
unfoldable pub good_row : GridSearch → Row → Bool
unfolding containers all same_bits
good_row s r =
    ltb (key_in r) (containers (counts s.ndim s.ndiv))
    && (all coordinate (coords s.ndim r.at) && (eqb s.ndim 3 || same_bits (z_in r) zero_f))

-- what 13 says of the rows: each is good by itself, and stands before the next
unfoldable pub sound_rows : GridSearch → List Row → Bool
unfolding all good_row sorted
sound_rows s rows = all (good_row s) rows && sorted (map slot_of rows)

-- 13 is not the case: the sheet is the one its settings give, the lists have the layout of a library, and the rows in use are sound
unfoldable pub sound : GridSearch → Library → Bool
unfolding sheet_ok sound_layout sound_rows table
sound s l = sheet_ok s && (sound_layout l && sound_rows s (table l))

-- every call on a library but its check: 24, 13
unfoldable pub library_tests : GridSearch → Library → List Test
unfolding too_long space sound
library_tests s l =
    refuse 24 (too_long (space l))
    ∷ refuse 13 (not (sound s l))
    ∷ []
