-- The steps from cells to rows, as the code takes them: keys once each, rows as one number, written cell by cell.
-- Assumes nothing.
use Rattle.std.specs.Prelude.{ℕ, suc, ◌+◌, ◌*◌, ◌/◌, ◌%◌, ◌≤◌, ◌≡◌, Bool, true, false, cond, ◌&&◌, List, [], ◌∷◌, ◌++◌, map, length, Float, Option, Some, None}
use Rattle.basics.specs.Lists.{all, any, has, over}
use Rattle.geometry.specs.Position.{dimension}
use Rattle.grid.specs.declared.ContainerKey.{ContainerKey}
use Rattle.grid.specs.Divisions.{counts, division}
use Rattle.mesh.specs.Mesh.{Box}
use Rattle.table.specs.Rows.{Slot}
use Rattle.cell_rows.specs.declared.Containers.{Containers}
use Rattle.cell_rows.specs.Filing.{cell_key, cell_exceeds, box_corners, box_exceeds}

-- a number at the end of a list, if it is not there yet; and one after the other
unfoldable pub join_once : ℕ → List ℕ → List ℕ
join_once k seen = cond (has k seen) seen (seen ++ k ∷ [])

unfoldable pub once : List ℕ → List ℕ → List ℕ
once seen [] = seen
once seen (k ∷ ks) = once (join_once k seen) ks

-- the keys of the containers that the corners of a box fall into, once each, in the order of the corners; none where the box is not filed
unfoldable pub box_keys : Containers → Box → List ℕ
box_keys g b = once [] (map (cell_key g) (box_corners b))

unfoldable pub filed_keys : Containers → (Box → Bool) → Box → List ℕ
filed_keys g p b = cond (p b) (box_keys g b) []

-- a row in one number: keys are below 2 ^ 30 and cells below 2 ^ 16
abbrev pub pack : ℕ → ℕ → ℕ
pack c k = k * 65536 + c

abbrev pub packed_key : ℕ → ℕ
packed_key v = v / 65536

abbrev pub packed_cell : ℕ → ℕ
packed_cell v = v % 65536

-- the rows of the cells from number c on, cell by cell
unfoldable pub packed_rows : Containers → (Box → Bool) → ℕ → List Box → List ℕ
packed_rows g p c [] = []
packed_rows g p c (b ∷ bs) = map (pack c) (filed_keys g p b) ++ packed_rows g p (suc c) bs

-- ---- filing

-- an index whose containers have numbers
pub record Keyed (g : Containers) : Type 0 where
  pub axes : dimension g.ndim ≡ true
  pub divisions : all division (counts g.ndim g.ndiv) ≡ true

-- the container of a position: its key, or none where a ratio exceeds its divisions
unfoldable pub cell_container : Containers → List Float → Option ContainerKey
cell_container g x = cond (cell_exceeds g x) None (Some (record { 0 = cell_key g x }))

-- the keys of a box, unless a corner's ratio exceeds its divisions
unfoldable pub box_keys_or : Containers → Box → Option (List ℕ)
box_keys_or g b = cond (box_exceeds g b) None (Some (box_keys g b))

-- 17: a filed box has such a corner
unfoldable pub too_far : Containers → (Box → Bool) → Box → Bool
too_far g p b = p b && box_exceeds g b

unfoldable pub filed_keys_or : Containers → (Box → Bool) → Box → Option (List ℕ)
filed_keys_or g p b = cond (too_far g p b) None (Some (filed_keys g p b))

-- ---- all cells

-- how many rows there will be, unless a corner's ratio exceeds its divisions
unfoldable pub row_count_or : Containers → (Box → Bool) → List Box → Option ℕ
row_count_or g p bs = cond (any (too_far g p) bs) None (Some (length (packed_rows g p 0 bs)))

-- no corner is too far, and the list has room for the rows
pub record Fitting (g : Containers) (p : Box → Bool) (bs : List Box) (l : List ℕ) : Type 0 where
  pub near : any (too_far g p) bs ≡ false
  pub room : length (packed_rows g p 0 bs) ≤ length l

-- numbers written over the front of a list, and how many
pub record Written (new l : List ℕ) (n : ℕ) (l' : List ℕ) : Type 0 where
  pub count : n ≡ length new
  pub are : l' ≡ over new l

-- rows written over the front of two lists
pub record Filed (rows : List Slot) (keys cells keys' cells' : List ℕ) : Type 0 where
  pub keys-are : keys' ≡ over (map (λ (p : Slot). p.key) rows) keys
  pub cells_are : cells' ≡ over (map (λ (p : Slot). p.id) rows) cells
