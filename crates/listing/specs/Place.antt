-- Module 8: places and filters, which rows count, and what turns a place away.
-- Assumes nothing.
use Rattle.std.specs.Prelude.{ℕ, Bool, true, false, cond, not, ◌&&◌, ◌||◌, List, [], ◌∷◌, leb, eqb, length, get_or, Float}
use Rattle.std.specs.Float.Ieee.{le}
use Rattle.basics.specs.Lists.{all}
use Rattle.basics.specs.Refusals.{Test, refuse}
use Rattle.floats.specs.Rounded.{◌⊕◌, ◌⊖◌, zero_f}
use Rattle.floats.specs.Tests.{abs_of}
use Rattle.geometry.specs.Position.{coords, coordinate}
use Rattle.geometry.specs.Distances.{point_line, point_circle, point_cylinder, too_close}
use Rattle.grid.specs.Divisions.{counts}
use Rattle.grid.specs.Containers.{pivots, centre}
use Rattle.grid_search.specs.declared.GridSearch.{GridSearch}
use Rattle.table.specs.declared.Row.{Row}
use Rattle.table.specs.Rows.{key_in}
use Rattle.listing.specs.declared.Place.{Place}
use Rattle.listing.specs.declared.Place.TheVariants as place
use Rattle.listing.specs.declared.Filter.{Filter}
use Rattle.listing.specs.declared.Filter.TheVariants.{Everything, Range}

-- A place as a caller gives it, its positions being lists of any length. A plane is the axis on which it has one coordinate.
-- `unknown` is the place of a number that names none.
pub data Asked : Type 0 where
  line : List Float → List Float → Asked
  circle : List Float → Float → Asked
  cylinder : List Float → List Float → Float → Asked
  plane : ℕ → Float → Asked
  unknown : Asked

-- The place of a number of the C interface: 0 line, 1 circle, 2 cylinder, 3, 4, 5 the planes xy, yz, xz.
unfoldable pub asked_of : ℕ → List Float → List Float → Float → Asked
asked_of p a b v =
    cond (eqb p 0) (line a b)
    (cond (eqb p 1) (circle a v)
    (cond (eqb p 2) (cylinder a b v)
    (cond (eqb p 3) (plane 2 v)
    (cond (eqb p 4) (plane 0 v)
    (cond (eqb p 5) (plane 1 v) unknown)))))

-- the place of one value, whose positions are read on so many axes
unfoldable pub asked : ℕ → Place → Asked
asked n (place.Line a b) = line (coords n a) (coords n b)
asked n (place.Circle a r) = circle (coords n a) r
asked n (place.Cylinder a b r) = cylinder (coords n a) (coords n b) r
asked n (place.PlaneXY z) = plane 2 z
asked n (place.PlaneYZ x) = plane 0 x
asked n (place.PlaneXZ y) = plane 1 y

-- the distance of a point from a place: signed for circles and cylinders
unfoldable pub place_distance : Asked → List Float → Float
unfolding point_line point_circle point_cylinder abs_of
place_distance (line a b) x = point_line a b x
place_distance (circle a r) x = point_circle a r x
place_distance (cylinder a b r) x = point_cylinder a b r x
place_distance (plane k v) x = abs_of (get_or x k zero_f ⊖ v)
place_distance unknown x = zero_f

-- the filter keeps a point: a range with low above high keeps nothing
unfoldable pub passes : Filter → List Float → Bool
unfolding le
passes Everything x = true
passes (Range k low high) x = le low (get_or x k zero_f) && le (get_or x k zero_f) high

-- the centre of a container
unfoldable pub centre_of : GridSearch → ℕ → List Float
unfolding centre pivots
centre_of s key = centre s.side_length (coords s.ndim s.xmin) (pivots (counts s.ndim s.ndiv) key)

-- the container's centre is within container radius + tol_dist of the place, by the signed distance
unfoldable pub container_near : GridSearch → Asked → ℕ → Bool
unfolding place_distance centre_of le
container_near s p key = le (place_distance p (centre_of s key)) (s.radius ⊕ s.tol_dist)

-- the point is within tol_dist of the place, by the magnitude of its distance
unfoldable pub point_near : GridSearch → Asked → List Float → Bool
unfolding place_distance abs_of le
point_near s p x = le (abs_of (place_distance p x)) s.tol_dist

-- a row counts
unfoldable pub is_on : GridSearch → Asked → Filter → Row → Bool
unfolding container_near point_near passes
is_on s p f r = container_near s p (key_in r) && (point_near s p (coords s.ndim r.at) && passes f (coords s.ndim r.at))

-- ---- what turns a place away: 16, 2, 3, and 15 where a row exists

-- 16: a circle in 3D, a cylinder or a plane in 2D, a filter axis not below the dimension
unfoldable pub unfit : ℕ → Asked → Bool
unfit n (line a b) = false
unfit n (circle a r) = not (eqb n 2)
unfit n (cylinder a b r) = not (eqb n 3)
unfit n (plane k v) = not (eqb n 3)
unfit n unknown = true

unfoldable pub unfit_filter : ℕ → Filter → Bool
unfit_filter n Everything = false
unfit_filter n (Range k low high) = leb n k

-- 2: a position's length differs from the dimension
unfoldable pub wrong_length : ℕ → Asked → Bool
wrong_length n (line a b) = not (eqb (length a) n && eqb (length b) n)
wrong_length n (circle a r) = not (eqb (length a) n)
wrong_length n (cylinder a b r) = not (eqb (length a) n && eqb (length b) n)
wrong_length n (plane k v) = false
wrong_length n unknown = false

-- 3: a coordinate, radius or end of a range is not finite or past its magnitude
unfoldable pub place_limits : Asked → Bool
unfolding all
place_limits (line a b) = all coordinate a && all coordinate b
place_limits (circle a r) = all coordinate a && coordinate r
place_limits (cylinder a b r) = all coordinate a && (all coordinate b && coordinate r)
place_limits (plane k v) = coordinate v
place_limits unknown = true

unfoldable pub filter_limits : Filter → Bool
filter_limits Everything = true
filter_limits (Range k low high) = coordinate low && coordinate high

-- 15: the ends of a line or cylinder are too close
unfoldable pub pinched : Asked → Bool
unfolding too_close
pinched (line a b) = too_close a b
pinched (circle a r) = false
pinched (cylinder a b r) = too_close a b
pinched (plane k v) = false
pinched unknown = false

-- 16, 2, 3, and 15 where there are rows
unfoldable pub place_tests : GridSearch → Asked → Filter → Bool → List Test
unfolding unfit unfit_filter wrong_length place_limits filter_limits pinched
place_tests s p f rows =
    refuse 16 (unfit s.ndim p || unfit_filter s.ndim f)
    ∷ refuse 2 (wrong_length s.ndim p)
    ∷ refuse 3 (not (place_limits p && filter_limits f))
    ∷ refuse 15 (rows && pinched p)
    ∷ []
