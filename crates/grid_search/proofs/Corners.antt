-- Corners as positions and as lists of coordinates. Assumes nothing.
use Prim.Native.Nat.{ℕ, zero, suc}
use mathlib.Core.Path.{◌≡◌, refl}
use mathlib.Core.Bool.{Bool}
use mathlib.Core.List.{List, [], ◌∷◌}
use lib.ListN.{take}
use lib.Ieee.{Float, lt}
use Rattle.basics.specs.Lists.{all, zip_with}
use Rattle.grid_search.specs.Sheet.{in_order}

-- above on every axis, by the test along each
pub above_tests : (n : ℕ) (los his : List Float) → in_order (take n los) (take n his) ≡ all (λ (b : Bool). b) (take n (zip_with lt los his))
unfolding in_order all zip_with
above_tests zero los his = refl
above_tests (suc n) [] his = refl
above_tests (suc n) (a ∷ los) [] = refl
above_tests (suc n) (a ∷ los) (b ∷ his) = rw (above_tests n los his)
