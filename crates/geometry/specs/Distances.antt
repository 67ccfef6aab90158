-- Module 2: the four distances, each product, quotient and sum rounded once, in the order of the Rust text. One definition serves any number of axes.
-- Assumes nothing.
use Rattle.std.specs.Prelude.{ℕ, Bool, not, ◌&&◌, List, [], ◌∷◌, eqb, length, Result, Float}
use Rattle.std.specs.Float.Ieee.{le}
use Rattle.basics.specs.Lists.{all, fold_all, zip_with}
use Rattle.basics.specs.Refusals.{Test, refuse, fault, Answer, answer}
use Rattle.basics.specs.Answers.{answered}
use Rattle.basics.specs.declared.Refusal.{Refusal}
use Rattle.floats.specs.Rounded.{◌⊕◌, ◌⊖◌, ◌⊗◌, ◌⊘◌, zero_f, pow2⁻}
use Rattle.floats.specs.Sqrt.{sqrt_of}
use Rattle.geometry.specs.Position.{coords, dimension, coordinate}
use Rattle.geometry.specs.declared.Position.{Position}
use Rattle.geometry.specs.declared.Line.{Line}

-- ---- sums of products, from the left, with no zero in front

unfoldable pub dot : List Float → List Float → Float
unfolding fold_all zip_with
dot u v = fold_all ◌⊕◌ zero_f (zip_with ◌⊗◌ u v)

-- b - a
unfoldable pub from : List Float → List Float → List Float
unfolding zip_with
from a b = zip_with ◌⊖◌ b a

-- ---- the distances

-- the square of the distance between two points: d ⋅ d, with d = b - a
unfoldable pub point_square : List Float → List Float → Float
unfolding dot from
point_square a b = let d = from a b in dot d d

unfoldable pub point_point : List Float → List Float → Float
unfolding sqrt_of point_square
point_point a b = sqrt_of (point_square a b)

-- the ends of a line are too close: n ⋅ n, with n = b - a, is at most 2 ^ -52
unfoldable pub too_close : List Float → List Float → Bool
unfolding le dot from
too_close a b = let n = from a b in le (dot n n) (pow2⁻ 52)

-- b - a of two positions, on all three axes
abbrev pub less : Position → Position → Position
less a b = record { x = b.x ⊖ a.x; y = b.y ⊖ a.y; z = b.z ⊖ a.z }

-- The line through a and b as the code holds it: an end, n = b - a, and n ⋅ n.
unfoldable pub line_of : ℕ → Position → Position → Line
unfolding dot from
line_of ndim a b = let n = from (coords ndim a) (coords ndim b) in record { a = a; n = less a b; n_dot_n = dot n n }

-- the square of the distance of c from the line through a and b: q ⋅ q, with q = x - n * (x ⋅ n) / (n ⋅ n), x = c - a and n = b - a; the product comes first, then the quotient
unfoldable pub line_square : List Float → List Float → List Float → Float
unfolding dot from zip_with
line_square a b c =
    let n = from a b in
    let x = from a c in
    let nn = dot n n in
    let xn = dot x n in
    let q = zip_with (λ (xi ni : Float). xi ⊖ ni ⊗ xn ⊘ nn) x n in
    dot q q

unfoldable pub point_line : List Float → List Float → List Float → Float
unfolding sqrt_of line_square
point_line a b c = sqrt_of (line_square a b c)

-- signed: negative inside, 0 on the curve
unfoldable pub point_circle : List Float → Float → List Float → Float
unfolding point_point
point_circle center radius p = point_point center p ⊖ radius

unfoldable pub point_cylinder : List Float → List Float → Float → List Float → Float
unfolding point_line
point_cylinder a b radius p = point_line a b p ⊖ radius

-- ---- what turns a call away, in document 01's order, and what it answers

-- the refusal's number, or the distance
abbrev pub measured : Result Float Refusal → Answer Float
measured = answered (λ (d : Float). d)

-- between points: 1, 2, 3
unfoldable pub point_point_tests : List Float → List Float → List Test
unfolding all
point_point_tests a b =
    refuse 1 (not (dimension (length a)))
    ∷ refuse 2 (not (eqb (length b) (length a)))
    ∷ refuse 3 (not (all coordinate a && all coordinate b))
    ∷ []

unfoldable pub point_point_answer : List Float → List Float → Answer Float
unfolding fault point_point_tests point_point answer
point_point_answer a b = answer (fault (point_point_tests a b)) (point_point a b)

-- to a line: 1, 2, 3, 15
unfoldable pub point_line_tests : List Float → List Float → List Float → List Test
unfolding all too_close
point_line_tests a b c =
    refuse 1 (not (dimension (length a)))
    ∷ refuse 2 (not (eqb (length b) (length a) && eqb (length c) (length a)))
    ∷ refuse 3 (not (all coordinate a && (all coordinate b && all coordinate c)))
    ∷ refuse 15 (too_close a b)
    ∷ []

unfoldable pub point_line_answer : List Float → List Float → List Float → Answer Float
unfolding fault point_line_tests point_line answer
point_line_answer a b c = answer (fault (point_line_tests a b c)) (point_line a b c)

-- to a circle, whose centre gives the dimension: 1, 16 (the circle is in 3D), 2, 3
unfoldable pub point_circle_tests : List Float → Float → List Float → List Test
unfolding all
point_circle_tests center radius p =
    refuse 1 (not (dimension (length center)))
    ∷ refuse 16 (not (eqb (length center) 2))
    ∷ refuse 2 (not (eqb (length p) (length center)))
    ∷ refuse 3 (not (all coordinate center && (coordinate radius && all coordinate p)))
    ∷ []

unfoldable pub point_circle_answer : List Float → Float → List Float → Answer Float
unfolding fault point_circle_tests point_circle answer
point_circle_answer center radius p = answer (fault (point_circle_tests center radius p)) (point_circle center radius p)

-- to a cylinder, whose first end gives the dimension: 1, 16 (the cylinder is in 2D), 2, 3, 15
unfoldable pub point_cylinder_tests : List Float → List Float → Float → List Float → List Test
unfolding all too_close
point_cylinder_tests a b radius p =
    refuse 1 (not (dimension (length a)))
    ∷ refuse 16 (not (eqb (length a) 3))
    ∷ refuse 2 (not (eqb (length b) (length a) && eqb (length p) (length a)))
    ∷ refuse 3 (not (all coordinate a && (all coordinate b && (coordinate radius && all coordinate p))))
    ∷ refuse 15 (too_close a b)
    ∷ []

unfoldable pub point_cylinder_answer : List Float → List Float → Float → List Float → Answer Float
unfolding fault point_cylinder_tests point_cylinder answer
point_cylinder_answer a b radius p = answer (fault (point_cylinder_tests a b radius p)) (point_cylinder a b radius p)
