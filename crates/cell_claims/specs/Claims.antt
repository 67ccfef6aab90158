-- What is claimed of an index that the build wrote. Proofs: proofs/Theorems.antt.
-- Assumes nothing.
use Rattle.std.specs.Prelude.{ℕ, ◌≡◌, Bool, true, List, [], length, Float}
use Rattle.std.specs.Float.{binary64}
use Rattle.std.specs.Float.Ieee.{fits}
use Rattle.basics.specs.Lists.{all}
use Rattle.basics.specs.Refusals.{fault, success}
use Rattle.mesh.specs.Mesh.{Mesh, cell_count}
use Rattle.cell_sizes.specs.declared.Settings.{Settings}
use Rattle.grid_cells.specs.declared.GridCells.{GridCells}
use Rattle.grid_cells.specs.Build.{IndexLists, build}
use Rattle.cell_index.specs.Index.{sound_index}
use Rattle.cell_search.specs.Search.{asked_tests, cell_search_tests}

-- every coordinate is a binary64 value, as every f64 is
unfoldable pub in_binary64 : Mesh → Bool
unfolding all fits
in_binary64 m = all (fits binary64) m.points

-- An index that the build wrote passes 13 of the search on that mesh, with the lists as the build left them.
abbrev pub BuiltIsSound : Type 0
BuiltIsSound =
    (n : ℕ) (m : Mesh) (t : Settings) (l : IndexLists) (g : GridCells) → in_binary64 m ≡ true
    → (build n m t l).answer ≡ success g → sound_index g (cell_count g.ndim m) (build n m t l).lists ≡ true

-- So a search of such an index is turned away only for what is asked: the coordinate list and the position, and for no point of the mesh.
abbrev pub BuiltServes : Type 0
BuiltServes =
    (n : ℕ) (m : Mesh) (t : Settings) (l : IndexLists) (g : GridCells) → in_binary64 m ≡ true → (build n m t l).answer ≡ success g
    → (zeta x : List Float) → fault (cell_search_tests g m (build n m t l).lists zeta x) ≡ fault (asked_tests g [] (length zeta) x)
