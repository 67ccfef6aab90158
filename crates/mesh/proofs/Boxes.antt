-- The walk over a cell's corners that gives its bounding box, and a position's coordinates in a cell.
-- Assumes nothing.
use Prim.Native.Nat.{ℕ, ◌+◌, ◌≤◌}
use native.Mathlib.Omega.{arith}
use mathlib.Core.Path.{◌≡◌, ap, ◌∙◌}
use mathlib.Core.List.{List, [], ◌∷◌}
use lib.ListN.{get_or, drop}
use lib.Ieee.{Float}
use Rattle.basics.specs.Lists.{zip_with, fold_from, fold_all}
use Rattle.basics.proofs.Lists.{take_zip}
use Rattle.floats.specs.Tests.{min_of, max_of}
use Rattle.geometry.specs.declared.Position.{Position}
use Rattle.geometry.specs.Position.{coords as axes}
use Rattle.geometry.specs.Cells.{triangle_coords, tetrahedron_coords}
use Rattle.mesh.specs.declared.BoundingBox.{BoundingBox}
use Rattle.mesh.specs.Mesh.{Mesh, Box, joined_box, corner_points, least, greatest, box_of, boxed}
use Rattle.mesh.specs.Cell.{cell_zeta}
use Rattle.mesh.proofs.Whole.{corners-next, corners_end}

-- what stands on each axis, on the first n
pub zipped : (f : Float → Float → Float) (p q r : Position) → r.x ≡ f p.x q.x → r.y ≡ f p.y q.y → r.z ≡ f p.z q.z → (n : ℕ) → axes n r ≡ zip_with f (axes n p) (axes n q)
unfolding zip_with
zipped f p q r x y z n = rw (x, y, z) (take_zip f n (p.x ∷ p.y ∷ p.z ∷ []) (q.x ∷ q.y ∷ q.z ∷ []))

-- what is known once the corners before number k are joined
pub record Joined (n : ℕ) (m : Mesh) (c k : ℕ) (b : BoundingBox) : Type 0 where
  pub low : least (corner_points n m c) ≡ fold_from (zip_with min_of) (axes n b.low) (drop k (corner_points n m c))
  pub high : greatest (corner_points n m c) ≡ fold_from (zip_with max_of) (axes n b.high) (drop k (corner_points n m c))

module _ (n : ℕ) (m : Mesh) (c : ℕ) where
  pub joined_start : (b : BoundingBox) (p : Position) → b ≡ record { low = p; high = p } → axes n p ≡ get_or (corner_points n m c) 0 [] → Joined n m c 1 b
  unfolding least greatest fold_all
  joined_start b p w e = rw w (record {
    low = ap least (corners-next n m c 0 (omega arith)) ∙ rw e;
    high = ap greatest (corners-next n m c 0 (omega arith)) ∙ rw e;
  })

  -- one corner more
  fold_next : (f : Float → Float → Float) (k : ℕ) (p x q : Position) {whole : List Float} → k ≤ n → whole ≡ fold_from (zip_with f) (axes n p) (drop k (corner_points n m c))
      → axes n x ≡ get_or (corner_points n m c) k [] → axes n q ≡ zip_with f (axes n p) (axes n x)
      → whole ≡ fold_from (zip_with f) (axes n q) (drop (k + 1) (corner_points n m c))
  unfolding fold_from
  fold_next f k p x q h inv ex eq = inv ∙ rw (corners-next n m c k h, eq, ex)

  pub joined_next : (k : ℕ) (b x r : BoundingBox) (p : Position) → k ≤ n → Joined n m c k b → x ≡ record { low = p; high = p } → axes n p ≡ get_or (corner_points n m c) k []
      → boxed n r ≡ joined_box (boxed n b) (boxed n x) → Joined n m c (k + 1) r
  unfolding joined_box
  joined_next k b x r p h j w e s = record {
    low = fold_next min_of k b.low p r.low h j.low e (ap (λ (b : Box). b.low) s ∙ rw w);
    high = fold_next max_of k b.high p r.high h j.high e (ap (λ (b : Box). b.high) s ∙ rw w);
  }

  -- past the last
  pub joined_end : (k : ℕ) (b : BoundingBox) → k ≡ n + 1 → Joined n m c k b → boxed n b ≡ box_of n m c
  unfolding box_of fold_from
  joined_end k b e j = rw (j.low, j.high, e, corners_end n m c)

pub triangle_is : (n : ℕ) (ps : List (List Float)) (a b c x : Position) → n ≡ 2 → axes n a ≡ get_or ps 0 [] → axes n b ≡ get_or ps 1 [] → axes n c ≡ get_or ps 2 []
    → triangle_coords a b c x ≡ cell_zeta n ps (axes n x)
unfolding cell_zeta
triangle_is n ps a b c x e f g h = rw (e, ← (rw e at f), ← (rw e at g), ← (rw e at h))

pub tetrahedron_is : (n : ℕ) (ps : List (List Float)) (a b c d x : Position) → n ≡ 3 → axes n a ≡ get_or ps 0 [] → axes n b ≡ get_or ps 1 [] → axes n c ≡ get_or ps 2 [] → axes n d ≡ get_or ps 3 []
    → tetrahedron_coords a b c d x ≡ cell_zeta n ps (axes n x)
unfolding cell_zeta
tetrahedron_is n ps a b c d x e f g h k = rw (e, ← (rw e at f), ← (rw e at g), ← (rw e at h), ← (rw e at k))
