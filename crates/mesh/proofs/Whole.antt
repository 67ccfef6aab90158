-- What a whole mesh has: each corner of each cell names a point, and each point has a coordinate on each axis.
-- Assumes nothing.
use Prim.Native.Nat.{ℕ, ◌+◌, ◌*◌, ◌/◌, ◌%◌, ◌≤◌, ◌<◌}
use native.Mathlib.Nat.{le-div_iff_mul-le, suc-mul}
use native.Mathlib.Numerals.{add-one}
use native.Mathlib.Omega.{arith}
use mathlib.Core.Path.{◌≡◌}
use mathlib.Core.Bool.{true, not}
use mathlib.Core.List.{List, [], ◌∷◌}
use lib.Dec.{ltb, eqb}
use lib.ListN.{length, get_or, take, drop, length-take, length-drop, drop_of_length-le}
use lib.Seq.{drop-cons, get_or-take, get_or-drop, ext_get_or}
use lib.Ieee.{Float, nan}
use borrow.Author.Tests.{ltb-true, not-false}
use Rattle.basics.proofs.Bools.{or_right}
use Rattle.basics.specs.Lists.{all, tab}
use Rattle.basics.proofs.Lists.{all_at, length-tab, get_or-tab, map-tab}
use Rattle.geometry.proofs.Axes.{few-axes}
use Rattle.mesh.specs.Mesh.{Mesh, point_count, cell_count, broken_mesh, Whole, point_at, corners_of, corner_points}

-- the whole parts of a list
whole_parts : (d x n : ℕ) → 0 < d → x < n / d → x * d + d ≤ n
whole_parts d x n p h = rw (← suc-mul x d) ((le-div_iff_mul-le p).0 h)

-- an entry of a whole part is in the list
pub part_in : (n : ℕ) (l : List ℕ) (c k : ℕ) → c < length l / (n + 1) → k ≤ n → c * (n + 1) + k < length l
part_in n l c k h i = omega (arith, whole_parts (n + 1) c (length l) (omega arith) h)

-- a cell's corners are in the list
pub corner_in : (n : ℕ) (m : Mesh) (c k : ℕ) → c < cell_count n m → k ≤ n → c * (n + 1) + k < length m.corners
unfolding cell_count
corner_in n m c k h l = part_in n m.corners c k h l

-- the point that a corner names
pub corner_names : (n : ℕ) (m : Mesh) (c k : ℕ) → k ≤ n → get_or (corners_of n m c) k 0 ≡ get_or m.corners (c * (n + 1) + k) 0
unfolding corners_of
corner_names n m c k h = get_or-tab (n + 1) (λ (k : ℕ). get_or m.corners (c * (n + 1) + k) 0) k 0 (omega arith)

module _ (n : ℕ) (m : Mesh) (w : Whole n m) where
  all_named : all (λ (p : ℕ). ltb p (point_count n m)) m.corners ≡ true
  unfolding broken_mesh
  all_named =
      not-false _
      (or_right (not (eqb (length m.corners % (n + 1)) 0)) _
      (or_right (not (eqb (length m.points % n) 0)) _ w.whole))

  -- each names a point
  pub names_point : (i : ℕ) → i < length m.corners → get_or m.corners i 0 < point_count n m
  names_point i h = ltb-true _ _ (all_at (λ (p : ℕ). ltb p (point_count n m)) m.corners i 0 h all_named)

  -- a point's coordinates are in the list
  pub point_in : (p : ℕ) → p < point_count n m → p * n + n ≤ length m.points
  unfolding point_count
  point_in p h = whole_parts n p (length m.points) (omega (arith, few-axes n w.axes)) h

-- a point's coordinates as a part of the list
pub point_part : (n : ℕ) (l : List Float) (at : ℕ) → at + n ≤ length l → take n (drop at l) ≡ tab n (λ (i : ℕ). get_or l (at + i) nan)
point_part n l at h =
    ext_get_or nan (take n (drop at l)) (tab n (λ (i : ℕ). get_or l (at + i) nan)) (rw (length-tab, length-take, length-drop) (omega arith))
    (λ i k. let j : i < n = omega (arith, rw (length-take, length-drop) at k) in rw (get_or-take n (drop at l) i nan j, get_or-drop, get_or-tab n (λ (i : ℕ). get_or l (at + i) nan) i nan j))

pub length_point : (n : ℕ) (m : Mesh) (p : ℕ) → length (point_at n m p) ≡ n
unfolding point_at
length_point n m p = length-tab n (λ (i : ℕ). get_or m.points (p * n + i) nan)

pub corners-tab : (n : ℕ) (m : Mesh) (c : ℕ) → corner_points n m c ≡ tab (n + 1) (λ (k : ℕ). point_at n m (get_or m.corners (c * (n + 1) + k) 0))
unfolding corner_points corners_of
corners-tab n m c = map-tab (point_at n m) (n + 1) (λ (k : ℕ). get_or m.corners (c * (n + 1) + k) 0)

-- the position of corner k of a cell
pub corner_at : (n : ℕ) (m : Mesh) (c k : ℕ) → k ≤ n → get_or (corner_points n m c) k [] ≡ point_at n m (get_or m.corners (c * (n + 1) + k) 0)
corner_at n m c k h = rw corners-tab (get_or-tab (n + 1) (λ (k : ℕ). point_at n m (get_or m.corners (c * (n + 1) + k) 0)) k [] (omega arith))

-- a walk over a cell's corners: those from k on, and the end
pub corners-next : (n : ℕ) (m : Mesh) (c k : ℕ) → k ≤ n → drop k (corner_points n m c) ≡ get_or (corner_points n m c) k [] ∷ drop (k + 1) (corner_points n m c)
corners-next n m c k h = rw add-one (drop-cons (corner_points n m c) k [] (rw (corners-tab, length-tab) (omega arith)))

pub corners_end : (n : ℕ) (m : Mesh) (c : ℕ) → drop (n + 1) (corner_points n m c) ≡ []
corners_end n m c = let h : length (corner_points n m c) ≤ n + 1 = rw (corners-tab, length-tab) (omega arith) in drop_of_length-le (corner_points n m c) h
