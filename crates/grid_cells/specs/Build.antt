-- The index that a mesh and settings give, step by step as in `GridCells::new`, and what turns a build away.
-- Assumes nothing.
use Rattle.std.specs.Prelude.{ℕ, Bool, false, not, ◌&&◌, ◌||◌, List, [], ◌∷◌, ◌++◌, map, ltb, eqb, length, negsuc, Float, Option, Some, None, Result}
use Rattle.std.proofs.Math.Option as math
use Rattle.std.specs.Float.{fin, binary64}
use Rattle.std.specs.Float.Ieee.{round, lt, le}
use Rattle.basics.specs.declared.Refusal.{Refusal}
use Rattle.basics.specs.Answers.{answered}
use Rattle.basics.specs.Lists.{all, any, zip_with, over}
use Rattle.basics.specs.Refusals.{Test, refuse, fault, Answer, refused, success}
use Rattle.floats.specs.Rounded.{◌⊕◌, ◌⊖◌, ◌⊗◌, ◌⊘◌, truncate, zero_f, pow2}
use Rattle.floats.specs.Tests.{finite}
use Rattle.floats.specs.Ceil.{ceil_of}
use Rattle.geometry.specs.Position.{position_of, dimension, coordinate}
use Rattle.grid.specs.Divisions.{counts, divisions_of}
use Rattle.grid_search.specs.Sheet.{tolerance_of, border_of, lowered, raised, covered_of, past_limits, in_order}
use Rattle.mesh.specs.Mesh.{Mesh, Box, cell_count, mesh_too_long, broken_mesh, least, greatest}
use Rattle.table.specs.Rows.{Slot}
use Rattle.cell_sizes.specs.declared.Settings.{Settings}
use Rattle.cell_sizes.specs.Large.{Measured, measure, is_filed, large_of, nothing_filed}
use Rattle.cell_rows.specs.declared.Containers.{Containers}
use Rattle.cell_rows.specs.Filing.{file_cells, box_exceeds}
use Rattle.grid_cells.specs.declared.GridCells.{GridCells}

-- ---- settings: tolerance and border as the sheet's, the cutoff 0.75 and the percentage 0.2 where left out

unfoldable pub cutoff_of : Option Float → Float
cutoff_of None = fin false 3 (negsuc 1)
cutoff_of (Some v) = v

unfoldable pub percentage_of : Option Float → Float
unfolding round
percentage_of None = round binary64 false 1 5
percentage_of (Some v) = v

unfoldable pub settings_of : Option Float → Option Float → Option Float → Option Float → Settings
unfolding tolerance_of border_of cutoff_of percentage_of
settings_of tolerance border cutoff percentage = record {
  tolerance = tolerance_of tolerance;
  border_tol = border_of border;
  large_cutoff = cutoff_of cutoff;
  large_pct = percentage_of percentage;
}

-- ---- the index

-- the corners of the whole, widened by a border above 0
unfoldable pub low_corner : Measured → Settings → List Float
unfolding least lowered
low_corner w t = lowered t.border_tol (least (map (λ (b : Box). b.low) w.all-boxes))

unfoldable pub high_corner : Measured → Settings → List Float
unfolding greatest raised
high_corner w t = raised t.border_tol (greatest (map (λ (b : Box). b.high) w.all-boxes))

-- the side is the largest filed length and twice the tolerance
unfoldable pub cell_side : Measured → Settings → Float
cell_side w t = w.longest ⊕ pow2 1 ⊗ t.tolerance

-- (xmax - xmin) / side, rounded up
unfoldable pub cell_divisions : Float → List Float → List Float → List ℕ
unfolding zip_with ceil_of
cell_divisions side xmin xmax = zip_with (λ (b a : Float). truncate (ceil_of ((b ⊖ a) ⊘ side))) xmax xmin

-- with no rows yet
unfoldable pub index : ℕ → Measured → Settings → GridCells
unfolding low_corner high_corner cell_side cell_divisions covered_of
index n w t =
    let xmin = low_corner w t in
    let side = cell_side w t in
    let ns = cell_divisions side xmin (high_corner w t) in
    record {
      ndim = n;
      ndiv = divisions_of ns;
      side_length = side;
      xmin = position_of xmin;
      xmax = position_of (covered_of side xmin ns);
      used = 0;
      large = length w.large;
    }

-- where its containers lie
abbrev pub containers_of : GridCells → Containers
containers_of g = record { ndim = g.ndim; ndiv = g.ndiv; side_length = g.side_length; xmin = g.xmin }

-- with so many rows
abbrev pub with_rows : GridCells → ℕ → GridCells
with_rows g used = record { ndim = g.ndim; ndiv = g.ndiv; side_length = g.side_length; xmin = g.xmin; xmax = g.xmax; used = used; large = g.large }

-- an index, its rows and its large cells
pub record FiledIndex : Type 0 where
  pub grid : GridCells
  pub rows : List Slot
  pub large : List ℕ

-- with the rows and the large cells of these boxes
unfoldable pub file_index : GridCells → Bool → Float → List Box → FiledIndex
unfolding file_cells is_filed large_of
file_index g apart limit bs =
    let rows = file_cells (containers_of g) (is_filed apart limit) 0 bs [] in
    record { grid = with_rows g (length rows); rows = rows; large = large_of apart limit bs }

-- what a build makes
unfoldable pub make : ℕ → Measured → Settings → FiledIndex
unfolding file_index index
make n w t = file_index (index n w t) w.apart w.limit w.all-boxes

-- ---- what turns a build away: 1, 24, 13, 19, 3, 8, 9, 20, 21, 18, 23, 22, 6, 17, 12

-- the lists that are lent to a build: rows, and large cells
pub record IndexLists : Type 0 where
  pub keys : List ℕ
  pub cells : List ℕ
  pub large : List ℕ

abbrev pub index_lists : List ℕ → List ℕ → List ℕ → IndexLists
index_lists keys cells large = record { keys = keys; cells = cells; large = large }

unfoldable pub lists_too_long : IndexLists → Bool
lists_too_long l = ltb 65536 (length l.keys) || (ltb 65536 (length l.cells) || ltb 65536 (length l.large))

-- the dimension, and the lists by their lengths: 1, 24
unfoldable pub size_tests : ℕ → Mesh → IndexLists → List Test
unfolding mesh_too_long lists_too_long
size_tests n m l = refuse 1 (not (dimension n)) ∷ refuse 24 (mesh_too_long n m || lists_too_long l) ∷ []

-- outside 0 to 1
unfoldable pub not_part : Float → Bool
unfolding lt
not_part v = lt v zero_f || lt (pow2 0) v

-- 3 is not the case: each setting is finite, and tolerance and border are within their limits
unfoldable pub settings_ok : Settings → Bool
unfolding all finite past_limits
settings_ok t = all finite (t.tolerance ∷ t.border_tol ∷ t.large_cutoff ∷ t.large_pct ∷ []) && not (past_limits t.tolerance t.border_tol)

-- rows in lists of unequal length, the mesh and the settings: 13, 19, 3, 8, 9, 20, 21, 18
unfoldable pub given_tests : ℕ → Mesh → Settings → IndexLists → List Test
unfolding broken_mesh all settings_ok not_part le lt cell_count
given_tests n m t l =
    refuse 13 (not (eqb (length l.cells) (length l.keys)))
    ∷ refuse 19 (broken_mesh n m)
    ∷ refuse 3 (not (all coordinate m.points && settings_ok t))
    ∷ refuse 8 (le t.tolerance zero_f)
    ∷ refuse 9 (lt t.border_tol zero_f)
    ∷ refuse 20 (not_part t.large_cutoff)
    ∷ refuse 21 (not_part t.large_pct)
    ∷ refuse 18 (eqb (cell_count n m) 0)
    ∷ []

-- the corners and the divisions: 22, 6
unfoldable pub division_tests : List Float → List Float → List ℕ → List Test
unfolding in_order any
division_tests low high ns = refuse 22 (not (in_order low high) || any (λ (d : ℕ). eqb d 0) ns) ∷ refuse 6 (any (λ (d : ℕ). ltb 1024 d) ns) ∷ []

-- the index without rows: 23, 22, 6
unfoldable pub frame_tests : ℕ → Measured → Settings → List Test
unfolding nothing_filed division_tests low_corner high_corner index
frame_tests n w t = refuse 23 (nothing_filed w) ∷ division_tests (low_corner w t) (high_corner w t) (counts n (index n w t).ndiv)

-- its rows: 17, 12
unfoldable pub row_tests : GridCells → Bool → Float → List Box → IndexLists → List Test
unfolding any is_filed box_exceeds file_index
row_tests g apart limit bs l =
    let k = file_index g apart limit bs in
    refuse 17 (any (λ (b : Box). is_filed apart limit b && box_exceeds (containers_of g) b) bs)
    ∷ refuse 12 (ltb (length l.keys) (length k.rows) || ltb (length l.large) (length k.large))
    ∷ []

-- all that follow 1 and 24
unfoldable pub later_tests : ℕ → Mesh → Settings → IndexLists → List Test
unfolding given_tests frame_tests row_tests measure index
later_tests n m t l =
    let w = measure n m t in
    given_tests n m t l ++ (frame_tests n w t ++ row_tests (index n w t) w.apart w.limit w.all-boxes l)

unfoldable pub build_tests : ℕ → Mesh → Settings → IndexLists → List Test
unfolding size_tests later_tests
build_tests n m t l = size_tests n m l ++ later_tests n m t l

-- ---- what it answers, and the lent lists at exit: entries past the new counts stay

pub record Build : Type 0 where
  pub answer : Answer GridCells
  pub lists : IndexLists

unfoldable pub settle_build : math.Option ℕ → FiledIndex → IndexLists → Build
unfolding over
settle_build math.none k l = record {
  answer = success k.grid;
  lists = record {
    keys = over (map (λ (p : Slot). p.key) k.rows) l.keys;
    cells = over (map (λ (p : Slot). p.id) k.rows) l.cells;
    large = over k.large l.large;
  };
}
settle_build (math.some r) k l = record { answer = refused r; lists = l }

unfoldable pub build : ℕ → Mesh → Settings → IndexLists → Build
unfolding settle_build fault build_tests make measure
build n m t l = settle_build (fault (build_tests n m t l)) (make n (measure n m t) t) l

abbrev pub built : Result GridCells Refusal → Answer GridCells
built = answered (λ (g : GridCells). g)

-- an answer, and the lists at exit
abbrev pub leaves : Result GridCells Refusal → IndexLists → Build
leaves r l = record { answer = built r; lists = l }

abbrev pub leaves_lists : Result GridCells Refusal → List ℕ → List ℕ → List ℕ → Build
leaves_lists r keys cells large = leaves r (index_lists keys cells large)
