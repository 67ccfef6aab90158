-- A cell index that is handed in: its rows and large cells in use, and what turns it away.
-- Assumes nothing.
use Rattle.std.specs.Prelude.{ℕ, Bool, true, not, ◌&&◌, List, [], ◌∷◌, ◌++◌, ltb, leb, eqb, length, take, Float}
use Rattle.std.specs.Float.Ieee.{le}
use Rattle.basics.specs.Lists.{all}
use Rattle.basics.specs.Refusals.{Test, refuse}
use Rattle.floats.specs.Rounded.{pow2, pow2⁻}
use Rattle.floats.specs.Tests.{within}
use Rattle.geometry.specs.Position.{coords}
use Rattle.grid.specs.Divisions.{counts, division}
use Rattle.grid.specs.Containers.{containers}
use Rattle.mesh.specs.Mesh.{Mesh, cell_count, broken_mesh}
use Rattle.table.specs.Rows.{Slot, sorted, slots_of}
use Rattle.sorting.specs.Ascent.{ascending}
use Rattle.grid_cells.specs.declared.GridCells.{GridCells}
use Rattle.grid_cells.specs.Build.{IndexLists, size_tests}

-- the rows in use, and the large cells in use
unfoldable pub cell_rows : GridCells → IndexLists → List Slot
unfolding slots_of
cell_rows g l = slots_of l.keys l.cells g.used

unfoldable pub large_cells : GridCells → IndexLists → List ℕ
large_cells g l = take g.large l.large

-- ---- what turns an index away: 1, 24, 19, 13

-- a corner of the index: finite, of magnitude at most 2 ^ 24
abbrev pub corner_limit : Float → Bool
corner_limit x = within (pow2 24) x

-- xmin is not above xmax on any axis
unfoldable pub ordered : List Float → List Float → Bool
unfolding le
ordered (a ∷ los) (b ∷ his) = le a b && ordered los his
ordered [] his = true
ordered (a ∷ los) [] = true

-- the index by itself
unfoldable pub good_index : GridCells → Bool
unfolding all le ordered
good_index g =
    (le (pow2⁻ 19) g.side_length && le g.side_length (pow2 22))
    && (all division (counts g.ndim g.ndiv)
    && (all corner_limit (coords g.ndim g.xmin)
    && (all corner_limit (coords g.ndim g.xmax)
    && ordered (coords g.ndim g.xmin) (coords g.ndim g.xmax))))

-- the lists have equal lengths where they are rows, and no fewer entries than are in use
unfoldable pub enough_entries : GridCells → IndexLists → Bool
enough_entries g l = eqb (length l.cells) (length l.keys) && (leb g.used (length l.keys) && leb g.large (length l.large))

-- rows of so many containers and cells: each by itself, and in strict order
unfoldable pub good_rows : ℕ → ℕ → List Slot → Bool
unfolding all sorted
good_rows count ncell ps = all (λ (p : Slot). ltb p.key count && ltb p.id ncell) ps && sorted ps

-- numbers of so many cells, strictly ascending
unfoldable pub good_numbers : ℕ → List ℕ → Bool
unfolding all ascending
good_numbers ncell cs = all (λ (c : ℕ). ltb c ncell) cs && ascending cs

-- 13 is not the case, of an index of so many cells
unfoldable pub sound_index : GridCells → ℕ → IndexLists → Bool
unfolding good_index enough_entries good_rows good_numbers cell_rows large_cells containers
sound_index g ncell l =
    good_index g
    && (enough_entries g l
    && (good_rows (containers (counts g.ndim g.ndiv)) ncell (cell_rows g l)
    && good_numbers ncell (large_cells g l)))

unfoldable pub index_tests : GridCells → Mesh → IndexLists → List Test
unfolding size_tests broken_mesh sound_index cell_count
index_tests g m l = size_tests g.ndim m l ++ refuse 19 (broken_mesh g.ndim m) ∷ refuse 13 (not (sound_index g (cell_count g.ndim m) l)) ∷ []
