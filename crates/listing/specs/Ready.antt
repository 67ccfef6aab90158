-- What a place made ready for many points holds.
-- Assumes nothing.
use Rattle.std.specs.Prelude.{ℕ, ◌≡◌, ◌⊎◌, true, Some, None, Float}
use Rattle.std.specs.Float.{inf}
use Rattle.std.specs.Float.Ieee.{neg}
use Rattle.floats.specs.Rounded.{◌⊕◌}
use Rattle.geometry.specs.declared.Line.{Line}
use Rattle.geometry.specs.Distances.{line_of}
use Rattle.windows.specs.declared.Window.{Window}
use Rattle.grid_search.specs.declared.GridSearch.{GridSearch}
use Rattle.listing.specs.declared.Place.{Place}
use Rattle.listing.specs.declared.Place.TheVariants as place
use Rattle.listing.specs.declared.near.Ready.{Ready}

-- the line through a place's ends, where it has two
abbrev pub Lined : ℕ → Place → Line → Type 0
Lined n (place.Line a b) l = l ≡ line_of n a b
Lined n (place.Cylinder a b r) l = l ≡ line_of n a b
Lined n (place.Circle a r) l = Unit {0}
Lined n (place.PlaneXY z) l = Unit {0}
Lined n (place.PlaneYZ x) l = Unit {0}
Lined n (place.PlaneXZ y) l = Unit {0}

-- a window that reaches as far below zero as above it, or without end
abbrev pub Even : Window → Type 0
Even w = (w.from ≡ inf true) ⊎ (w.from ≡ neg w.to)

-- a window of the distances from a place
abbrev pub Windowed : Place → Window → Type 0
Windowed (place.Line a b) w = w.radius ≡ None
Windowed (place.Circle a r) w = w.radius ≡ Some r
Windowed (place.Cylinder a b r) w = w.radius ≡ Some r
Windowed (place.PlaneXY z) w = Even w
Windowed (place.PlaneYZ x) w = Even w
Windowed (place.PlaneXZ y) w = Even w

-- for a container's centre up to one bound, and for a row's point up to another on both sides
pub record Made (n : ℕ) (center point : Float) (r : Ready) : Type 0 where
  pub line : Lined n r.place r.line
  pub for_center : Windowed r.place r.center
  pub for_point : Windowed r.place r.point
  pub center_from : r.center.from ≡ inf true
  pub center_to : r.center.to ≡ center
  pub point_from : r.point.from ≡ neg point
  pub point_to : r.point.to ≡ point

-- for the listings of a sheet
abbrev pub MadeFor : GridSearch → Ready → Type 0
MadeFor s r = Made s.ndim (s.radius ⊕ s.tol_dist) s.tol_dist r
