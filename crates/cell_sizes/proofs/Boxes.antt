-- The walk over the boxes of all cells: those from number c on, and the end.
-- Assumes nothing.
use Prim.Native.Nat.{ℕ, ◌+◌, ◌≤◌, ◌<◌}
use native.Mathlib.Numerals.{add-one}
use mathlib.Core.Path.{◌≡◌, sym, ap, ◌∙◌}
use mathlib.Core.List.{[], ◌∷◌}
use lib.ListN.{length, drop, drop_of_length-le}
use Rattle.basics.proofs.Lists.{length-tab, drop-tab}
use Rattle.mesh.specs.Mesh.{Mesh, cell_count, box_of}
use Rattle.cell_sizes.specs.Large.{boxes}

module _ (n : ℕ) (m : Mesh) where
  pub length-boxes : length (boxes n m) ≡ cell_count n m
  unfolding boxes
  length-boxes = length-tab (cell_count n m) (box_of n m)

  pub boxes-next : (c : ℕ) → c < cell_count n m → drop c (boxes n m) ≡ box_of n m c ∷ drop (c + 1) (boxes n m)
  unfolding boxes
  boxes-next c h = drop-tab (cell_count n m) (box_of n m) c h ∙ ap (λ (k : ℕ). box_of n m c ∷ drop k (boxes n m)) (sym (add-one c))

  pub boxes_end : (c : ℕ) → cell_count n m ≤ c → drop c (boxes n m) ≡ []
  boxes_end c h = let k : length (boxes n m) ≤ c = rw length-boxes h in drop_of_length-le (boxes n m) k
