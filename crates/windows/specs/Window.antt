-- What squares tell of distances, and what a window knows of it.
-- Assumes nothing.
use Rattle.std.specs.Prelude.{◌≡◌, Bool, true, false, ◌&&◌, Option, Some, None, Float}
use Rattle.std.specs.Float.Ieee.{lt, le}
use Rattle.floats.specs.Rounded.{◌⊖◌, ◌⊗◌, zero_f}
use Rattle.floats.specs.Sqrt.{sqrt_of}
use Rattle.floats.specs.Tests.{finite, Binary64}

-- the distance at a root: the root, less the radius where there is one
unfoldable pub distance_at : Option Float → Float → Float
distance_at None r = r
distance_at (Some q) r = r ⊖ q

-- the distance that is told by its square
unfoldable pub told_by : Option Float → Float → Float
unfolding distance_at sqrt_of
told_by d s = distance_at d (sqrt_of s)

-- a larger square has no smaller distance
unfoldable pub steady : Option Float → Bool
unfolding finite
steady None = true
steady (Some r) = finite r

-- from one bound to another
unfoldable pub lies : Float → Float → Float → Bool
unfolding le
lies from to d = le from d && le d to

-- x is the root of its own square, which is above zero
pub record Rooted (x : Float) : Type 0 where
  pub back : sqrt_of (x ⊗ x) ≡ x
  pub above : lt zero_f (x ⊗ x) ≡ true

-- what c tells, the square of a root at which a test passed: larger squares have no smaller distance, and smaller ones no larger one. A NaN tells nothing.
pub record Square (d : Option Float) (root : Float) (passed : Bool) (c : Float) : Type 0 where
  pub above : (s : Float) → Binary64 s → le c s ≡ true → (passed ≡ true) × (le (distance_at d root) (told_by d s) ≡ true)
  pub below : (s : Float) → Binary64 s → lt zero_f s ≡ true → le s c ≡ true → (passed ≡ true) × (le (told_by d s) (distance_at d root) ≡ true)

-- what each of a window's squares tells of the distances from one bound to another
pub record Tells (d : Option Float) (from to low high under over : Float) : Type 0 where
  pub by_low : (s : Float) → Binary64 s → le low s ≡ true → le from (told_by d s) ≡ true
  pub by_high : (s : Float) → Binary64 s → lt zero_f s ≡ true → le s high ≡ true → le (told_by d s) to ≡ true
  pub by_under : (s : Float) → Binary64 s → lt zero_f s ≡ true → le s under ≡ true → le from (told_by d s) ≡ false
  pub by_over : (s : Float) → Binary64 s → le over s ≡ true → le (told_by d s) to ≡ false
