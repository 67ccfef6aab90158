-- When a cell contains a position.
-- Assumes nothing.
use Rattle.std.specs.Prelude.{ℕ, ◌+◌, Bool, cond, not, ◌&&◌, List, [], eqb, get_or, Float}
use Rattle.geometry.specs.declared.Position.{Position}
use Rattle.geometry.specs.Position.{position_of}
use Rattle.geometry.specs.declared.Zeta.{Zeta}
use Rattle.geometry.specs.Cells.{zetas, triangle_coords, tetrahedron_coords, inside}
use Rattle.grid.specs.Containers.{outside}
use Rattle.mesh.specs.Mesh.{Mesh, corner_points, box_of}

-- the coordinates of a position in a cell: three in a triangle, four in a tetrahedron
unfoldable pub cell_zeta : ℕ → List (List Float) → List Float → Zeta
unfolding triangle_coords tetrahedron_coords
cell_zeta n ps x =
    let corner : ℕ → Position = λ k. position_of (get_or ps k []) in
    cond (eqb n 2) (triangle_coords (corner 0) (corner 1) (corner 2) (position_of x))
    (tetrahedron_coords (corner 0) (corner 1) (corner 2) (corner 3) (position_of x))

-- The cell contains the position: it is not outside the bounding box on any axis, and no coordinate is below the bound.
unfoldable pub contains : ℕ → Mesh → Float → List Float → ℕ → Bool
unfolding outside box_of inside cell_zeta corner_points
contains n m bound x c =
    let b = box_of n m c in
    not (outside b.low b.high x) && inside bound (zetas (n + 1) (cell_zeta n (corner_points n m c) x))
