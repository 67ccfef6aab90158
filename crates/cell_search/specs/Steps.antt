-- What the private functions of a search answer. The public contract cites none of this.
-- Assumes nothing.
use Rattle.std.specs.Prelude.{ℕ, List, Float, Option, Some, None, Result}
use Rattle.std.proofs.Math.Option as math
use Rattle.basics.specs.declared.Refusal.{Refusal}
use Rattle.basics.specs.Answers.{answered}
use Rattle.basics.specs.Refusals.{Answer}
use Rattle.floats.specs.Rounded.{zero_f}
use Rattle.grid.specs.declared.ContainerKey.{ContainerKey}
use Rattle.mesh.specs.Mesh.{Mesh, corner_points}
use Rattle.mesh.specs.Cell.{cell_zeta, contains}
use Rattle.cell_search.specs.declared.Found.{Found}
use Rattle.cell_search.specs.Search.{first_cell}

-- the container to look into, or the refusal
abbrev pub asked : Result ContainerKey Refusal → Answer ℕ
asked = answered (λ (k : ContainerKey). k.0)

-- a cell with the coordinates of a position in it
unfoldable pub found_of : ℕ → Mesh → List Float → math.Option ℕ → Option Found
unfolding cell_zeta corner_points
found_of n m x math.none = None
found_of n m x (math.some c) = Some (record { cell = record { 0 = c }; zeta = cell_zeta n (corner_points n m c) x })

-- the first of these cells that contains the position
unfoldable pub first_found : ℕ → Mesh → List Float → List ℕ → Option Found
unfolding found_of first_cell contains
first_found n m x cs = found_of n m x (first_cell (contains n m zero_f x) cs)
