-- What an accepted index gives to those who read it.
-- Assumes nothing.
use Rattle.std.specs.Prelude.{ℕ, ◌≤◌, ◌<◌, List, length, get_or, take}
use Rattle.mesh.specs.Mesh.{Mesh, cell_count, Whole}
use Rattle.table.specs.Posts.{Ordered}
use Rattle.cell_rows.specs.Steps.{Keyed}
use Rattle.grid_cells.specs.declared.GridCells.{GridCells}
use Rattle.grid_cells.specs.Build.{IndexLists, containers_of}
use Rattle.cell_index.specs.Index.{large_cells}

-- each entry is the number of a cell
abbrev pub Numbers : ℕ → Mesh → List ℕ → Type 0
Numbers dim m cells = (i : ℕ) → i < length cells → get_or cells i 0 < cell_count dim m

-- the mesh is whole, containers have keys, rows are in order, and rows and large cells name cells
pub record Usable (g : GridCells) (m : Mesh) (l : IndexLists) : Type 0 where
  pub whole : Whole g.ndim m
  pub keyed : Keyed (containers_of g)
  pub rows : Ordered l.keys l.cells g.used
  pub room : g.large ≤ length l.large
  pub cells : Numbers g.ndim m (take g.used l.cells)
  pub large : Numbers g.ndim m (large_cells g l)
