-- What an index is judged for once the lists' sizes are.
-- Assumes nothing.
use mathlib.Core.Bool.{not}
use mathlib.Core.List.{List, [], ◌∷◌}
use Rattle.basics.specs.Refusals.{Test, refuse}
use Rattle.mesh.specs.Mesh.{Mesh, cell_count, broken_mesh}
use Rattle.grid_cells.specs.declared.GridCells.{GridCells}
use Rattle.grid_cells.specs.Build.{IndexLists}
use Rattle.cell_index.specs.Index.{sound_index}

-- 19, 13
abbrev pub later : GridCells → Mesh → IndexLists → List Test
later g m l = refuse 19 (broken_mesh g.ndim m) ∷ refuse 13 (not (sound_index g (cell_count g.ndim m) l)) ∷ []
