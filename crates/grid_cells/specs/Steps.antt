-- The steps of a build: what turns it away before the cells are measured, and what its last step gives. Public contracts cite none of this.
-- Assumes nothing.
use Rattle.std.specs.Prelude.{ℕ, ◌≤◌, ◌<◌, ◌≡◌, Bool, true, List, ◌++◌, length, Float}
use Rattle.basics.specs.Lists.{all}
use Rattle.basics.specs.Refusals.{Test, fault}
use Rattle.grid.specs.Divisions.{counts, division}
use Rattle.mesh.specs.Mesh.{Mesh, Box, cell_count, Whole}
use Rattle.cell_sizes.specs.declared.Settings.{Settings}
use Rattle.cell_sizes.specs.declared.Sizes.{Sizes}
use Rattle.cell_sizes.specs.Large.{boxes}
use Rattle.cell_sizes.specs.Steps.{lists}
use Rattle.grid_cells.specs.declared.GridCells.{GridCells}
use Rattle.grid_cells.specs.Build.{IndexLists, Build, file_index, size_tests, given_tests, row_tests, settle_build}

-- 1, 24, 13, 19, 3, 8, 9, 20, 21, 18
unfoldable pub early_tests : ℕ → Mesh → Settings → IndexLists → List Test
early_tests n m t l = size_tests n m l ++ given_tests n m t l

-- what they leave, so that the cells can be measured
pub record Measurable (n : ℕ) (m : Mesh) (l : IndexLists) : Type 0 where
  pub whole : Whole n m
  pub few : cell_count n m ≤ 65536
  pub cells : 0 < cell_count n m
  pub lengths : length l.cells ≡ length l.keys

-- what the last step asks: an index whose containers have keys, and the mesh that was measured
pub record Finishable (g : GridCells) (sizes : Sizes) (n : ℕ) (m : Mesh) (l : IndexLists) : Type 0 where
  pub axes : n ≡ g.ndim
  pub divisions : all division (counts g.ndim g.ndiv) ≡ true
  pub few : cell_count g.ndim m ≤ 65536
  pub lengths : length l.cells ≡ length l.keys
  pub large : g.large ≡ length (lists sizes (boxes g.ndim m))

-- the index of these boxes, or the refusal 17 or 12
unfoldable pub finish_of : GridCells → Bool → Float → List Box → IndexLists → Build
finish_of g apart limit bs l = settle_build (fault (row_tests g apart limit bs l)) (file_index g apart limit bs) l
