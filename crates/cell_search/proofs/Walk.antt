-- The walk over cells to try: a cell that fails on an axis of its box or by a coordinate is passed, and the first that does not is found.
-- Assumes nothing.
use Prim.Native.Nat.{ℕ, ◌+◌, ◌≤◌, ◌<◌}
use native.Mathlib.Numerals.{add-one}
use native.Mathlib.Omega.{arith}
use mathlib.Core.Path.{◌≡◌, sym, ap, ◌∙◌}
use mathlib.Core.Bool.{Bool, true, false, not, ◌&&◌, ◌||◌, cond}
use mathlib.Core.Option.{some}
use mathlib.Core.List.{List}
use lib.ListN.{length, get_or, drop, drop_of_length-le}
use lib.Seq.{drop-cons}
use lib.Ieee.{lt}
use Rattle.floats.specs.Rounded.{zero_f}
use Rattle.geometry.specs.declared.Position.{Position}
use Rattle.geometry.specs.declared.Zeta.{Zeta}
use Rattle.geometry.specs.Position.{coords, axis_of, dimension}
use Rattle.geometry.proofs.Axes.{axis_at, coords-length}
use Rattle.geometry.specs.Cells.{zetas, inside}
use Rattle.grid.specs.Containers.{outside}
use Rattle.mesh.specs.declared.BoundingBox.{BoundingBox}
use Rattle.mesh.specs.Mesh.{Mesh, Box, corner_points, box_of, boxed}
use Rattle.mesh.specs.Cell.{cell_zeta, contains}
use Rattle.std.specs.Prelude.{Some, None}
use Rattle.cell_search.specs.Search.{first_cell}
use Rattle.cell_search.specs.Steps.{found_of, first_found}

-- ---- the box of a cell, axis by axis

-- a position is outside a box by an axis from i on
unfoldable pub outside_from : ℕ → BoundingBox → Position → ℕ → Bool
outside_from n b x i = outside (drop i (coords n b.low)) (drop i (coords n b.high)) (drop i (coords n x))

-- no axis before i fails
pub record AxesPassed (n : ℕ) (b : BoundingBox) (x : Position) (i : ℕ) : Type 0 where
  pub few : i ≤ n
  pub walk : outside_from n b x 0 ≡ outside_from n b x i

module _ {n : ℕ} {b : BoundingBox} {x : Position} {i : ℕ} (w : AxesPassed n b x i) (d : dimension n ≡ true) where
  module _ (k : i < n) {r : Bool} (t : r ≡ (lt (axis_of i x) (axis_of i b.low) || lt (axis_of i b.high) (axis_of i x))) where
    along : outside_from n b x i ≡ (r || outside_from n b x (i + 1))
    unfolding outside_from outside
    along = rw (t, add-one, axis_at n i b.low d k, axis_at n i b.high d k, axis_at n i x d k)

    pub axis_fails : r ≡ true → outside_from n b x 0 ≡ true
    axis_fails e = w.walk ∙ along ∙ rw e

    pub axis_passes : r ≡ false → AxesPassed n b x (i + 1)
    axis_passes e = record { few = omega arith; walk = w.walk ∙ along ∙ rw e }

  pub axes_end : n ≤ i → outside_from n b x 0 ≡ false
  unfolding outside_from outside
  axes_end k = let e : length (coords n b.low) ≤ i = omega (arith, coords-length n b.low d) in w.walk ∙ rw (drop_of_length-le (coords n b.low) e)

-- ---- one cell

module _ (n : ℕ) (m : Mesh) (x : Position) (c : ℕ) (b : BoundingBox) (e : boxed n b ≡ box_of n m c) where
  contains-is : contains n m zero_f (coords n x) c ≡ (not (outside_from n b x 0) && inside zero_f (zetas (n + 1) (cell_zeta n (corner_points n m c) (coords n x))))
  unfolding contains outside_from
  contains-is = ap (λ (d : Box). not (outside d.low d.high (coords n x)) && inside zero_f (zetas (n + 1) (cell_zeta n (corner_points n m c) (coords n x)))) (sym e)

  -- an axis fails
  not_in_box : outside_from n b x 0 ≡ true → contains n m zero_f (coords n x) c ≡ false
  not_in_box o = contains-is ∙ rw o

  -- none does: the coordinates tell
  by_coords : outside_from n b x 0 ≡ false → {z : Zeta} → z ≡ cell_zeta n (corner_points n m c) (coords n x) → {r : Bool} → r ≡ inside zero_f (zetas (n + 1) z) → contains n m zero_f (coords n x) c ≡ r
  by_coords o f g = contains-is ∙ rw (o, ← f, ← g)

-- ---- one after the other

-- no cell before `at` contains the position
pub record Seeking (n : ℕ) (m : Mesh) (x : Position) (cells : List ℕ) (at : ℕ) : Type 0 where
  pub walk : first_cell (contains n m zero_f (coords n x)) cells ≡ first_cell (contains n m zero_f (coords n x)) (drop at cells)

module _ {n : ℕ} {m : Mesh} {x : Position} {cells : List ℕ} {at : ℕ} (w : Seeking n m x cells at) where
  abbrev p : ℕ → Bool
  p = contains n m zero_f (coords n x)

  module _ (h : at < length cells) where
    step : first_cell p (drop at cells) ≡ cond (p (get_or cells at 0)) (some (get_or cells at 0)) (first_cell p (drop (at + 1) cells))
    unfolding first_cell
    step = rw (add-one, drop-cons cells at 0 h)

    passed : p (get_or cells at 0) ≡ false → Seeking n m x cells (at + 1)
    passed e = record { walk = w.walk ∙ step ∙ rw e }

    module _ (b : BoundingBox) (e : boxed n b ≡ box_of n m (get_or cells at 0)) where
      -- outside the box
      pub seek_box : outside_from n b x 0 ≡ true → Seeking n m x cells (at + 1)
      seek_box o = passed (not_in_box n m x (get_or cells at 0) b e o)

      module _ (o : outside_from n b x 0 ≡ false) {z : Zeta} (f : z ≡ cell_zeta n (corner_points n m (get_or cells at 0)) (coords n x)) {r : Bool} (g : r ≡ inside zero_f (zetas (n + 1) z)) where
        -- outside the cell
        pub seek_coords : r ≡ false → Seeking n m x cells (at + 1)
        seek_coords k = passed (by_coords n m x (get_or cells at 0) b e o f g ∙ k)

        -- in it
        pub seek_hit : r ≡ true → Some (record { cell = record { 0 = get_or cells at 0 }; zeta = z }) ≡ first_found n m (coords n x) cells
        unfolding first_found found_of
        seek_hit k =
            let found : first_cell p cells ≡ some (get_or cells at 0) = w.walk ∙ step ∙ rw (by_coords n m x (get_or cells at 0) b e o f g ∙ k) in
            rw (found, f)

  -- past the last
  pub seek_end : length cells ≤ at → None ≡ first_found n m (coords n x) cells
  unfolding first_found found_of first_cell
  seek_end h = rw (w.walk, drop_of_length-le cells h)
