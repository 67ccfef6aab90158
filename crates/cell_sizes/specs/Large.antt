-- Which cells of a mesh are large, and the largest length of those that are filed.
-- Assumes nothing.
use Rattle.std.specs.Prelude.{ℕ, suc, Bool, cond, not, ◌&&◌, List, [], ◌∷◌, map, eqb, length, Float}
use Rattle.std.specs.Float.Ieee.{le}
use Rattle.basics.specs.Lists.{keep, tab}
use Rattle.floats.specs.Rounded.{◌⊗◌, ◌⊘◌, of_nat}
use Rattle.grid_search.specs.Sheet.{largest}
use Rattle.mesh.specs.Mesh.{Mesh, Box, cell_count, box_of, longest_side}
use Rattle.cell_sizes.specs.declared.Settings.{Settings}

unfoldable pub boxes : ℕ → Mesh → List Box
unfolding cell_count box_of
boxes n m = tab (cell_count n m) (box_of n m)

-- the largest length among these boxes
unfoldable pub longest_of : List Box → Float
unfolding largest longest_side
longest_of bs = largest (map longest_side bs)

-- a cell is large if its largest length is at least the limit, which is cutoff × the largest of all
unfoldable pub is_large : Float → Box → Bool
unfolding le longest_side
is_large limit b = le limit (longest_side b)

-- the numbers of the boxes that pass, ascending, from i on
unfoldable pub numbered : (Box → Bool) → ℕ → List Box → List ℕ
numbered p i [] = []
numbered p i (b ∷ bs) = let rest = numbered p (suc i) bs in cond (p b) (i ∷ rest) rest

-- the large cells, where they are kept apart
unfoldable pub large_of : Bool → Float → List Box → List ℕ
unfolding numbered is_large
large_of apart limit bs = cond apart (numbered (is_large limit) 0 bs) []

-- what is known of a mesh's cells once they are measured
pub record Measured : Type 0 where
  -- the bounding boxes of all cells
  pub all-boxes : List Box
  -- the limit from which a cell is large, and whether the percentage keeps the large cells apart
  pub limit : Float
  pub apart : Bool
  -- the large cells that are kept apart, and the largest length of the cells that are not
  pub large : List ℕ
  pub longest : Float

unfoldable pub measure : ℕ → Mesh → Settings → Measured
unfolding boxes longest_of is_large numbered large_of keep le
measure n m t =
    let bs = boxes n m in
    let limit = t.large_cutoff ⊗ longest_of bs in
    let apart = le (of_nat (length (numbered (is_large limit) 0 bs)) ⊘ of_nat (length bs)) t.large_pct in
    record {
      all-boxes = bs;
      limit = limit;
      apart = apart;
      large = large_of apart limit bs;
      longest = cond apart (longest_of (keep (λ (b : Box). not (is_large limit b)) bs)) (longest_of bs);
    }

-- a cell goes into containers: it is not large, or the large cells are not kept apart
unfoldable pub is_filed : Bool → Float → Box → Bool
unfolding is_large
is_filed apart limit b = not (apart && is_large limit b)

-- 23: every cell is large and the percentage keeps them so
unfoldable pub nothing_filed : Measured → Bool
nothing_filed w = w.apart && eqb (length w.large) (length w.all-boxes)
