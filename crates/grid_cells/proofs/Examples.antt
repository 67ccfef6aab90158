-- The index of one triangle, evaluated: percentage 1 is 23, the default percentage is accepted.
-- Assumes nothing.
use mathlib.Core.Path.{◌≡◌, refl}
use mathlib.Core.List.{[], ◌∷◌}
use lib.Ieee.{add, sub, mul, div, of_int, to_unsigned}
use Rattle.basics.specs.Refusals.{refused}
use Rattle.floats.specs.Rounded.{zero_f, pow2}
use Rattle.floats.specs.Tests.{within}
use Rattle.std.specs.Prelude.{Some, None}
use Rattle.grid_cells.specs.declared.GridCells.{GridCells}
use Rattle.mesh.specs.Mesh.{Mesh}
use Rattle.cell_sizes.specs.declared.Settings.{Settings}
use Rattle.cell_sizes.specs.Large.{measure}
use Rattle.grid_cells.specs.Build.{settings_of, IndexLists, make, build}

unfoldable pub triangle : Mesh
triangle = record { points = zero_f ∷ zero_f ∷ pow2 2 ∷ zero_f ∷ zero_f ∷ pow2 2 ∷ []; corners = 0 ∷ 1 ∷ 2 ∷ [] }

unfoldable pub defaults : Settings
unfolding settings_of
defaults = settings_of None None None None

all_large : Settings
unfolding settings_of
all_large = settings_of None None None (Some (pow2 0))

lent : IndexLists
lent = record { keys = 7 ∷ 7 ∷ 7 ∷ 7 ∷ []; cells = 8 ∷ 8 ∷ 8 ∷ 8 ∷ []; large = 9 ∷ [] }

twenty_three : (build 2 triangle all_large lent).answer ≡ refused 23
unfolding build add sub mul div of_int to_unsigned within triangle all_large lent
twenty_three = refl

rows : (build 2 triangle defaults lent).lists ≡ record { keys = 0 ∷ 1 ∷ 2 ∷ 3 ∷ []; cells = 0 ∷ 0 ∷ 0 ∷ 0 ∷ []; large = 9 ∷ [] }
unfolding build add sub mul div of_int to_unsigned within triangle defaults lent
rows = refl

-- the index that the default settings give
unfoldable pub made : GridCells
unfolding make measure triangle defaults
made = (make 2 (measure 2 triangle defaults) defaults).grid
