-- An index in two lists: lists of another length are 13 in a search; what a build wrote is read back.
-- Assumes nothing.
use Prim.Native.Nat.{ℕ}
use mathlib.Core.Path.{◌≡◌, refl}
use mathlib.Core.Bool.{false}
use mathlib.Core.List.{List}
use lib.Ieee.{Float, le}
use Rattle.grid_cells.specs.declared.GridCells.{GridCells}
use Rattle.grid_cells.specs.Build.{IndexLists}
use Rattle.cell_index.specs.Index.{good_index, sound_index}
use Rattle.capi.specs.Cells.{cells_numbers, cells_floats, cells_lengths}
use Rattle.capi.specs.Indexes.{read_index, index_of}

-- ---- reading

module _ (numbers : List ℕ) (floats : List Float) where
  -- 13
  pub other-lengths : cells_lengths numbers floats ≡ false → (n : ℕ) (l : IndexLists) → sound_index (index_of numbers floats) n l ≡ false
  unfolding index_of read_index sound_index good_index le
  other-lengths e n l = rw e

pub read_back : (g : GridCells) → index_of (cells_numbers g) (cells_floats g) ≡ g
unfolding index_of read_index
read_back g = refl
