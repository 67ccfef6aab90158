-- The cell at a position, over the rows and the mesh handed in, and what turns a search away.
-- Assumes nothing.
use Rattle.std.specs.Prelude.{ℕ, ◌+◌, Bool, cond, not, ◌&&◌, List, [], ◌∷◌, ◌++◌, map, eqb, length, Float, Option, Some, None, Result}
use Rattle.std.proofs.Math.Option as math
use Rattle.basics.specs.declared.Refusal.{Refusal}
use Rattle.basics.specs.Answers.{answered}
use Rattle.basics.specs.Lists.{all, keep, over}
use Rattle.basics.specs.Refusals.{Test, refuse, fault, Answer, refused, success}
use Rattle.floats.specs.Rounded.{zero_f}
use Rattle.geometry.specs.Position.{coords, coordinate}
use Rattle.geometry.specs.Cells.{zetas}
use Rattle.grid.specs.Containers.{outside}
use Rattle.mesh.specs.Mesh.{Mesh, corner_points}
use Rattle.mesh.specs.Cell.{cell_zeta, contains}
use Rattle.table.specs.Rows.{Slot}
use Rattle.cell_rows.specs.Filing.{cell_key, cell_exceeds}
use Rattle.grid_cells.specs.declared.CellId.{CellId}
use Rattle.grid_cells.specs.declared.GridCells.{GridCells}
use Rattle.grid_cells.specs.Build.{containers_of, IndexLists}
use Rattle.cell_index.specs.Index.{cell_rows, large_cells, index_tests}

-- ---- what turns a search away: 1, 24, 19, 13, 25, 2, 3, 11, 17

-- for the length of the coordinate list, the position and the mesh's points: 25, 2, 3, 11, 17
unfoldable pub asked_tests : GridCells → List Float → ℕ → List Float → List Test
unfolding all outside cell_exceeds
asked_tests g points nzeta x =
    refuse 25 (not (eqb nzeta 4))
    ∷ refuse 2 (not (eqb (length x) g.ndim))
    ∷ refuse 3 (not (all coordinate x && all coordinate points))
    ∷ refuse 11 (outside (coords g.ndim g.xmin) (coords g.ndim g.xmax) x)
    ∷ refuse 17 (cell_exceeds (containers_of g) x)
    ∷ []

unfoldable pub cell_search_tests : GridCells → Mesh → IndexLists → List Float → List Float → List Test
unfolding index_tests asked_tests
cell_search_tests g m l zeta x = index_tests g m l ++ asked_tests g m.points (length zeta) x

-- ---- the cells to try: large cells ascending, then those of a container ascending

unfoldable pub candidates : GridCells → IndexLists → ℕ → List ℕ
unfolding large_cells keep cell_rows
candidates g l key = large_cells g l ++ map (λ (p : Slot). p.id) (keep (λ (p : Slot). eqb p.key key) (cell_rows g l))

-- the first that contains the position
unfoldable pub first_cell : (ℕ → Bool) → List ℕ → math.Option ℕ
first_cell p [] = math.none
first_cell p (c ∷ cs) = let rest = first_cell p cs in cond (p c) (math.some c) rest

-- ---- what it answers, and the coordinate list at exit: those of the cell found, in 2D the fourth entry stays; else the list as it was

pub record CellSearch : Type 0 where
  pub answer : Answer (math.Option ℕ)
  pub zeta : List Float

unfoldable pub answer_cell : ℕ → Mesh → List Float → List Float → math.Option ℕ → CellSearch
unfolding over cell_zeta corner_points
answer_cell n m zeta x math.none = record { answer = success math.none; zeta = zeta }
answer_cell n m zeta x (math.some c) = record { answer = success (math.some c); zeta = over (zetas (n + 1) (cell_zeta n (corner_points n m c) x)) zeta }

-- these cells tried in turn
unfoldable pub try_cells : ℕ → Mesh → List Float → List Float → List ℕ → CellSearch
unfolding answer_cell first_cell contains
try_cells n m zeta x cs = answer_cell n m zeta x (first_cell (contains n m zero_f x) cs)

unfoldable pub settle_search : math.Option ℕ → List Float → CellSearch → CellSearch
settle_search math.none zeta s = s
settle_search (math.some r) zeta s = record { answer = refused r; zeta = zeta }

unfoldable pub cell_search : GridCells → Mesh → IndexLists → List Float → List Float → CellSearch
unfolding settle_search fault cell_search_tests try_cells candidates cell_key
cell_search g m l zeta x = settle_search (fault (cell_search_tests g m l zeta x)) zeta (try_cells g.ndim m zeta x (candidates g l (cell_key (containers_of g) x)))

-- the number of the cell, if one is found
abbrev pub number_in : Option CellId → math.Option ℕ
number_in None = math.none
number_in (Some c) = math.some c.0

abbrev pub found_cell : Result (Option CellId) Refusal → Answer (math.Option ℕ)
found_cell = answered number_in

-- an answer, and the coordinate list at exit
abbrev pub leaves : Result (Option CellId) Refusal → List Float → CellSearch
leaves r zeta = record { answer = found_cell r; zeta = zeta }
