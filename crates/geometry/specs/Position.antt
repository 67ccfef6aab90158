-- Positions: a record of three floats, tied to the list of its coordinates on the axes in use. Every definition over the axes is one over such lists.
-- Assumes nothing.
use Rattle.std.specs.Prelude.{ℕ, zero, suc, ◌/◌, ◌%◌, Bool, cond, List, [], ◌∷◌, eqb, take, get_or, Float}
use Rattle.basics.specs.Lists.{all, any}
use Rattle.floats.specs.Rounded.{zero_f, pow2}
use Rattle.floats.specs.Tests.{within}
use Rattle.geometry.specs.declared.Position.{Position}
pub use Rattle.geometry.specs.Axes.{dimension}

-- the coordinates on the first n axes
abbrev pub coords : ℕ → Position → List Float
coords n p = take n (p.x ∷ p.y ∷ p.z ∷ [])

-- the position with these coordinates: on an axis that the list lacks, +0
abbrev pub position_of : List Float → Position
position_of l = record { x = get_or l 0 zero_f; y = get_or l 1 zero_f; z = get_or l 2 zero_f }

-- the coordinate on axis i: x for 0, y for 1, else z
abbrev pub axis_of : ℕ → Position → Float
axis_of zero p = p.x
axis_of (suc zero) p = p.y
axis_of (suc (suc i)) p = p.z

-- a coordinate or a radius: finite, of magnitude at most 1,048,576
abbrev pub coordinate : Float → Bool
coordinate x = within (pow2 20) x

-- of a test's answers along x, y and z: those on the first n axes are all yes, or one of them is
abbrev pub every_axis : ℕ → Bool → Bool → Bool → Bool
every_axis n x y z = all (λ (b : Bool). b) (take n (x ∷ y ∷ z ∷ []))

abbrev pub some_axis : ℕ → Bool → Bool → Bool → Bool
some_axis n x y z = any (λ (b : Bool). b) (take n (x ∷ y ∷ z ∷ []))

-- corner c of a box: on each axis the low or the high end, as the axis's binary digit of c is 0 or 1
unfoldable pub box_corner : List Float → List Float → ℕ → List Float
box_corner (a ∷ los) (b ∷ his) c = cond (eqb (c % 2) 0) a b ∷ box_corner los his (c / 2)
box_corner [] his c = []
box_corner (a ∷ los) [] c = []
