-- How a cell index that is handed in is read from its two lists, and what the search of one gives to C.
-- Assumes nothing.
use Rattle.std.specs.Prelude.{ℕ, ◌≡◌, cond, List, [], ◌∷◌, get_or, Float}
use Rattle.std.specs.Float.{nan}
use Rattle.grid_cells.specs.declared.GridCells.{GridCells}
use Rattle.cell_search.specs.Search.{CellSearch}
use Rattle.capi.specs.Sheets.{position_at}
use Rattle.capi.specs.Libraries.{ToldFound}
use Rattle.capi.specs.Cells.{cells_lengths}

-- from lists of 6 and of 7 entries, as `cells_numbers` and `cells_floats` lay them out
unfoldable pub read_index : List ℕ → List Float → GridCells
read_index numbers floats = record {
  ndim = get_or numbers 0 0;
  ndiv = record { x = get_or numbers 1 0; y = get_or numbers 2 0; z = get_or numbers 3 0 };
  side_length = get_or floats 0 nan;
  xmin = position_at 1 floats;
  xmax = position_at 4 floats;
  used = get_or numbers 4 0;
  large = get_or numbers 5 0;
}

-- For lists of another length stands what lists hold that have the dimension alone, the first of the numbers or 0: 1, 24 and 19 are judged on it, and 13 turns it away.
unfoldable pub index_of : List ℕ → List Float → GridCells
unfolding read_index
index_of numbers floats = cond (cells_lengths numbers floats) (read_index numbers floats) (read_index (get_or numbers 0 0 ∷ []) [])

-- the number, whether a cell is found, its number, and the coordinate list at exit
pub record ToldCell (s : CellSearch) (r : ℕ) (zeta' : List Float) (found found' cell cell' : ℕ) : Type 0 where
  pub told : ToldFound s.answer r found found' cell cell'
  pub zeta-is : zeta' ≡ s.zeta
