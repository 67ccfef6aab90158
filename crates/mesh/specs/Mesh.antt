-- A mesh in two flat lists: the coordinates of its points, and the corners of its cells, 3 of each cell in 2D and 4 in 3D.
-- Assumes nothing.
use Rattle.std.specs.Prelude.{ℕ, ◌+◌, ◌*◌, ◌/◌, ◌%◌, ◌≡◌, Bool, true, false, not, ◌||◌, List, [], map, ltb, eqb, length, get_or, Float}
use Rattle.std.specs.Float.{nan}
use Rattle.basics.specs.Lists.{all, zip_with, tab, fold_all}
use Rattle.floats.specs.Tests.{min_of, max_of}
use Rattle.geometry.specs.Position.{coords, dimension}
use Rattle.geometry.specs.Distances.{from}
use Rattle.grid_search.specs.Sheet.{largest}
use Rattle.mesh.specs.declared.BoundingBox.{BoundingBox}
use Rattle.mesh.specs.declared.Mesh.{Mesh as MeshView}

pub record Mesh : Type 0 where
  pub points : List Float
  pub corners : List ℕ

abbrev pub mesh_of : List Float → List ℕ → Mesh
mesh_of points corners = record { points = points; corners = corners }

-- the mesh that the code's view shows
abbrev pub seen : MeshView → Mesh
seen v = mesh_of v.coords.now v.corners.now

-- ---- counts: whole points and whole cells

unfoldable pub point_count : ℕ → Mesh → ℕ
point_count n m = length m.points / n

unfoldable pub cell_count : ℕ → Mesh → ℕ
cell_count n m = length m.corners / (n + 1)

-- 24: more than 65,536 whole points or cells
unfoldable pub mesh_too_long : ℕ → Mesh → Bool
unfolding point_count cell_count
mesh_too_long n m = ltb 65536 (point_count n m) || ltb 65536 (cell_count n m)

-- 19: the flat lists hold no whole number of points or cells, or a corner names no point
unfoldable pub broken_mesh : ℕ → Mesh → Bool
unfolding all point_count
broken_mesh n m =
    not (eqb (length m.points % n) 0)
    || (not (eqb (length m.corners % (n + 1)) 0) || not (all (λ (p : ℕ). ltb p (point_count n m)) m.corners))

-- neither 1 nor 19
pub record Whole (n : ℕ) (m : Mesh) : Type 0 where
  pub axes : dimension n ≡ true
  pub whole : broken_mesh n m ≡ false

-- ---- points and cells

-- the coordinates of point p
unfoldable pub point_at : ℕ → Mesh → ℕ → List Float
point_at n m p = tab n (λ (i : ℕ). get_or m.points (p * n + i) nan)

-- the point numbers of a cell's corners
unfoldable pub corners_of : ℕ → Mesh → ℕ → List ℕ
corners_of n m c = tab (n + 1) (λ (k : ℕ). get_or m.corners (c * (n + 1) + k) 0)

-- the coordinates of a cell's corners
unfoldable pub corner_points : ℕ → Mesh → ℕ → List (List Float)
unfolding point_at corners_of
corner_points n m c = map (point_at n m) (corners_of n m c)

-- ---- bounding boxes: on each axis the least and the greatest coordinate of the corners

pub record Box : Type 0 where
  pub low : List Float
  pub high : List Float

unfoldable pub least : List (List Float) → List Float
unfolding fold_all zip_with min_of
least ps = fold_all (zip_with min_of) [] ps

unfoldable pub greatest : List (List Float) → List Float
unfolding fold_all zip_with max_of
greatest ps = fold_all (zip_with max_of) [] ps

unfoldable pub box_of : ℕ → Mesh → ℕ → Box
unfolding least greatest corner_points
box_of n m c = let ps = corner_points n m c in record { low = least ps; high = greatest ps }

-- the box around two boxes
unfoldable pub joined_box : Box → Box → Box
unfolding zip_with min_of max_of
joined_box a b = record { low = zip_with min_of a.low b.low; high = zip_with max_of a.high b.high }

-- the box that the code holds, on the axes in use
abbrev pub boxed : ℕ → BoundingBox → Box
boxed n b = record { low = coords n b.low; high = coords n b.high }

-- the largest length of a box
unfoldable pub longest_side : Box → Float
unfolding largest from
longest_side b = largest (from b.low b.high)
