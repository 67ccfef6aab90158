-- What the walk over a container's rows keeps and gives. Definitions only.
use Rattle.std.specs.Prelude.{◌≡◌, Bool, true, false, Float, Option, Some, None}
use Rattle.std.specs.Float.Ieee.{lt, le}
use Rattle.floats.specs.Rounded.{zero_f}
use Rattle.floats.specs.Sqrt.{sqrt_of}
use Rattle.floats.specs.Tests.{Binary64}
use Rattle.table.specs.declared.ItemId.{ItemId}

-- every distance whose square is above zero and at most this one is at most tol_dist
abbrev pub Within : Float → Float → Type 0
Within tol square = (s : Float) → Binary64 s → lt zero_f s ≡ true → le s square ≡ true → le (sqrt_of s) tol ≡ true

-- where no near row was met, every distance whose square is at least the one kept is above tol_dist
abbrev pub Beyond : Float → Option ItemId → Float → Type 0
Beyond tol best least = best ≡ None → (s : Float) → Binary64 s → le least s ≡ true → le (sqrt_of s) tol ≡ false

-- the next row takes the place of the nearest so far: its distance is less; or, where there is none so far, it is near
unfoldable pub takes_place : Float → Option ItemId → Float → Float → Bool
unfolding lt le sqrt_of
takes_place tol (Some i) least s = lt (sqrt_of s) (sqrt_of least)
takes_place tol None least s = le (sqrt_of s) tol
