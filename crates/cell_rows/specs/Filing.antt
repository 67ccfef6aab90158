-- The rows of a cell index: each small cell is filed under the containers of its bounding box's corners.
-- Assumes nothing.
use Rattle.std.specs.Prelude.{ℕ, suc, ◌^◌, Bool, cond, List, [], ◌∷◌, length, Float}
use Rattle.basics.specs.Lists.{any, tab}
use Rattle.geometry.specs.Position.{coords, box_corner}
use Rattle.grid.specs.Divisions.{counts}
use Rattle.grid.specs.Containers.{ratios, exceed, key_of}
use Rattle.mesh.specs.Mesh.{Box}
use Rattle.table.specs.Rows.{Slot, slotted, before, same}
use Rattle.cell_rows.specs.declared.Containers.{Containers}

-- the key of the container that a position falls into
unfoldable pub cell_key : Containers → List Float → ℕ
unfolding key_of
cell_key g x = key_of (counts g.ndim g.ndiv) g.side_length (coords g.ndim g.xmin) x

-- 17: a ratio exceeds its divisions
unfoldable pub cell_exceeds : Containers → List Float → Bool
unfolding exceed ratios
cell_exceeds g x = exceed (counts g.ndim g.ndiv) (ratios g.side_length (coords g.ndim g.xmin) x)

-- ---- each small cell is filed under the corners of its bounding box

unfoldable pub box_corners : Box → List (List Float)
unfolding box_corner
box_corners b = tab (2 ^ length b.low) (box_corner b.low b.high)

-- a slot in its place among slots in strict order, once
unfoldable pub enter_slot : Slot → List Slot → List Slot
unfolding before same
enter_slot p [] = p ∷ []
enter_slot p (q ∷ qs) = let rest = enter_slot p qs in cond (before q p) (q ∷ rest) (cond (same q p) (q ∷ qs) (p ∷ q ∷ qs))

-- one row for each container that a corner of the box falls into
unfoldable pub file_cell : Containers → ℕ → List (List Float) → List Slot → List Slot
unfolding enter_slot cell_key
file_cell g c [] rows = rows
file_cell g c (x ∷ xs) rows = file_cell g c xs (enter_slot (slotted (cell_key g x) c) rows)

-- the cells from number c on, of which p says whether they are filed
unfoldable pub file_cells : Containers → (Box → Bool) → ℕ → List Box → List Slot → List Slot
unfolding file_cell box_corners
file_cells g p c [] rows = rows
file_cells g p c (b ∷ bs) rows = file_cells g p (suc c) bs (cond (p b) (file_cell g c (box_corners b) rows) rows)

-- 17: a ratio of a box's corner exceeds its divisions
unfoldable pub box_exceeds : Containers → Box → Bool
unfolding any cell_exceeds box_corners
box_exceeds g b = any (cell_exceeds g) (box_corners b)
