-- Places by number and by case: what each test says of them.
-- Assumes nothing.
use Prim.Native.Nat.{ℕ, ◌<◌}
use native.Mathlib.Omega.{arith}
use mathlib.Core.Path.{◌≡◌, refl, sym, ap, ap₂, ◌∙◌}
use mathlib.Core.Logic.{◌⊎◌, inl, inr}
use mathlib.Core.Bool.{Bool, true, false, not, ◌&&◌}
use mathlib.Core.List.{List}
use lib.Dec.{T, eqb}
use lib.ListN.{length}
use lib.Ieee.{Float, inf, binary64, fits, lt, eq, le}
use borrow.Author.Tests.{eqb-true, eq-eqb, not-false}
use Rattle.basics.proofs.Bools.{by_test, clash, and_left, and_right}
use Rattle.basics.specs.Lists.{zip_with}
use Rattle.floats.specs.Rounded.{◌⊕◌, ◌⊖◌}
use Rattle.floats.specs.Tests.{within}
use Rattle.floats.proofs.Order.{eq-le, eq_turn, le_join}
use Rattle.floats.proofs.Cases.{zero_of}
use Rattle.floats.proofs.Choices.{abs-zero, abs-other}
use Rattle.geometry.specs.declared.Position.{Position}
use Rattle.geometry.specs.Position.{coords, position_of, axis_of}
use Rattle.geometry.specs.Axes.{dimension}
use Rattle.geometry.specs.Distances.{point_square, line_square, point_point, point_line, point_circle, point_cylinder}
use Rattle.geometry.proofs.Axes.{for_axes, coords-length, axis_entry, coords_of}
use Rattle.grid.specs.Divisions.{counts}
use Rattle.grid.specs.Containers.{pivots, centre}
use Rattle.grid_search.specs.declared.GridSearch.{GridSearch}
use Rattle.std.specs.Prelude.{Option, Some, None}
use Rattle.windows.specs.declared.Window.{Window}
use Rattle.windows.specs.Window.{told_by, lies}
use Rattle.windows.proofs.Tellings.{magnitude_lies, unbounded}
use Rattle.listing.specs.declared.Place.{Place}
use Rattle.listing.specs.declared.Place.TheVariants as place
use Rattle.listing.specs.Place.{Asked, line, circle, cylinder, plane, asked_of, asked, place_distance, centre_of, container_near, unfit, wrong_length}
use Rattle.listing.specs.Posts.{Stands}
use Rattle.listing.specs.Ready.{Even}

-- ---- a place by its number

module _ (p : ℕ) (a b : List Float) (v : Float) where
  pub is-line : p ≡ 0 → asked_of p a b v ≡ line a b
  unfolding asked_of
  is-line e = rw e

  pub is-circle : p ≡ 1 → asked_of p a b v ≡ circle a v
  unfolding asked_of
  is-circle e = rw e

  pub is-cylinder : p ≡ 2 → asked_of p a b v ≡ cylinder a b v
  unfolding asked_of
  is-cylinder e = rw e

  pub is_xy : p ≡ 3 → asked_of p a b v ≡ plane 2 v
  unfolding asked_of
  is_xy e = rw e

  pub is_yz : p ≡ 4 → asked_of p a b v ≡ plane 0 v
  unfolding asked_of
  is_yz e = rw e

  pub is_xz : p ≡ 5 → asked_of p a b v ≡ plane 1 v
  unfolding asked_of
  is_xz e = rw e

-- ---- 16: where a cylinder or a plane fits, there are three axes

pub three_axes : (n : ℕ) → not (eqb n 3) ≡ false → n ≡ 3
three_axes n e = eqb-true n 3 (not-false (eqb n 3) e)

-- ---- a place made of a number and slices

lengths : (n p : ℕ) (a b : List Float) (v : Float) → (p ≡ 0) ⊎ (p ≡ 2) → wrong_length n (asked_of p a b v) ≡ false → (length a ≡ n) × (length b ≡ n)
unfolding wrong_length
lengths n p a b v (inl e) f =
    let g : (eqb (length a) n && eqb (length b) n) ≡ true = not-false (eqb (length a) n && eqb (length b) n) (rw (is-line p a b v e) at f) in
    (eqb-true (length a) n (and_left (eqb (length a) n) (eqb (length b) n) g), eqb-true (length b) n (and_right (eqb (length a) n) (eqb (length b) n) g))
lengths n p a b v (inr e) f =
    let g : (eqb (length a) n && eqb (length b) n) ≡ true = not-false (eqb (length a) n && eqb (length b) n) (rw (is-cylinder p a b v e) at f) in
    (eqb-true (length a) n (and_left (eqb (length a) n) (eqb (length b) n) g), eqb-true (length b) n (and_right (eqb (length a) n) (eqb (length b) n) g))

length-centre : (n p : ℕ) (a b : List Float) (v : Float) → p ≡ 1 → wrong_length n (asked_of p a b v) ≡ false → length a ≡ n
unfolding wrong_length
length-centre n p a b v e f = eqb-true (length a) n (not-false (eqb (length a) n) (rw (is-circle p a b v e) at f))

module _ (p : ℕ) (a b : List Float) (v : Float) where
  pub made-line : p ≡ 0 → (x y : Position) → x ≡ position_of a → y ≡ position_of b → Stands p a b v (place.Line x y)
  unfolding asked unfit
  made-line e x y s t = record {
    same = λ n d right. let l = lengths n p a b v (inl e) right in ap₂ line (coords_of n a x d l.0 s) (coords_of n b y d l.1 t) ∙ sym (is-line p a b v e);
    alike = λ n. ap (unfit n) (sym (is-line p a b v e));
  }

  pub made-circle : p ≡ 1 → (x : Position) → x ≡ position_of a → Stands p a b v (place.Circle x v)
  unfolding asked unfit
  made-circle e x s = record {
    same = λ n d right. ap (λ (l : List Float). circle l v) (coords_of n a x d (length-centre n p a b v e right) s) ∙ sym (is-circle p a b v e);
    alike = λ n. ap (unfit n) (sym (is-circle p a b v e));
  }

  pub made-cylinder : p ≡ 2 → (x y : Position) → x ≡ position_of a → y ≡ position_of b → Stands p a b v (place.Cylinder x y v)
  unfolding asked unfit
  made-cylinder e x y s t = record {
    same = λ n d right. let l = lengths n p a b v (inr e) right in ap₂ (λ (l m : List Float). cylinder l m v) (coords_of n a x d l.0 s) (coords_of n b y d l.1 t) ∙ sym (is-cylinder p a b v e);
    alike = λ n. ap (unfit n) (sym (is-cylinder p a b v e));
  }

  -- a plane has no positions, so that it is the one named whatever the slices
  plane-made : (on : Place) → ((n : ℕ) → asked n on ≡ asked_of p a b v) → Stands p a b v on
  plane-made on e = record { same = λ n d right. e n; alike = λ n. ap (unfit n) (e n) }

  pub made_xy : p ≡ 3 → Stands p a b v (place.PlaneXY v)
  unfolding asked
  made_xy e = plane-made (place.PlaneXY v) (λ n. sym (is_xy p a b v e))

  pub made_yz : p ≡ 4 → Stands p a b v (place.PlaneYZ v)
  unfolding asked
  made_yz e = plane-made (place.PlaneYZ v) (λ n. sym (is_yz p a b v e))

  pub made_xz : p ≡ 5 → Stands p a b v (place.PlaneXZ v)
  unfolding asked
  made_xz e = plane-made (place.PlaneXZ v) (λ n. sym (is_xz p a b v e))

-- a place that holds positions has their right length in every dimension
pub right_lengths : (n : ℕ) (on : Place) → dimension n ≡ true → wrong_length n (asked n on) ≡ false
unfolding asked wrong_length
right_lengths n (place.Line a b) d = rw (coords-length n a d, coords-length n b d, eq-eqb n n refl)
right_lengths n (place.Circle a r) d = rw (coords-length n a d, eq-eqb n n refl)
right_lengths n (place.Cylinder a b r) d = rw (coords-length n a d, coords-length n b d, eq-eqb n n refl)
right_lengths n (place.PlaneXY z) d = refl
right_lengths n (place.PlaneYZ x) d = refl
right_lengths n (place.PlaneXZ y) d = refl

-- ---- distances

-- equal values are compared alike: a zero of either sign
same-le : (x y t : Float) → eq x y ≡ true → le x t ≡ le y t
same-le x y t e =
    by_test (le x t) (λ a. a ∙ sym (le_join y x t (eq-le y x (eq_turn x y e)) a))
    (λ a. by_test (le y t) (λ b. clash (le_join x y t (eq-le x y e) b) a) (λ b. a ∙ sym b))

-- a value that is not below zero is compared as its magnitude is
pub not-below : (x t : Float) → T (fits binary64 x) → lt x zero_of ≡ false → le x t ≡ within t x
unfolding within
not-below x t f h =
    by_test (eq x zero_of) (λ e. same-le x zero_of t e ∙ ap (λ (v : Float). le v t) (abs-zero x f e)) (λ e. ap (λ (v : Float). le v t) (abs-other x h e))

-- by the square of the distance from a line or a centre
module _ (n : ℕ) (a b x : Position) {d : Option Float} {q : Float} where
  pub line-told : d ≡ None → q ≡ line_square (coords n a) (coords n b) (coords n x) → told_by d q ≡ place_distance (asked n (place.Line a b)) (coords n x)
  unfolding asked place_distance told_by point_line
  line-told g e = rw (g, e)

  pub cylinder-told : (r : Float) → d ≡ Some r → q ≡ line_square (coords n a) (coords n b) (coords n x) → told_by d q ≡ place_distance (asked n (place.Cylinder a b r)) (coords n x)
  unfolding asked place_distance told_by point_cylinder point_line
  cylinder-told r g e = rw (g, e)

pub circle-told : (n : ℕ) (a x : Position) (r : Float) {d : Option Float} {q : Float} → d ≡ Some r
    → q ≡ point_square (coords n a) (coords n x) → told_by d q ≡ place_distance (asked n (place.Circle a r)) (coords n x)
unfolding asked place_distance told_by point_circle point_point
circle-told n a x r g e = rw (g, e)

-- from a plane, which is in space: by its magnitude
pub plane-lies : (n k : ℕ) (v : Float) (x : Position) (w : Window) → dimension n ≡ true → unfit n (plane k v) ≡ false → k < 3 → Even w
    → within w.to (axis_of k x ⊖ v) ≡ lies w.from w.to (place_distance (plane k v) (coords n x))
unfolding unfit place_distance
plane-lies n k v x w d fit h even =
    let e : n ≡ 3 = three_axes n fit in
    magnitude_lies w.from w.to (axis_of k x ⊖ v) even ∙ rw (axis_entry n k x d (omega arith))

-- the code's centre of a container, as a list
pub centre-coords : (s : GridSearch) (key : ℕ) (p : Position) → dimension s.ndim ≡ true
    → p ≡ position_of (centre s.side_length (coords s.ndim s.xmin) (pivots (counts s.ndim s.ndiv) key)) → coords s.ndim p ≡ centre_of s key
unfolding centre_of centre pivots zip_with
centre-coords s key p d e = coords_of s.ndim (centre_of s key) p d (for_axes long refl refl s.ndim d) e
  where
    long : ℕ → Type 0
    long n = length (centre s.side_length (coords n s.xmin) (pivots (counts n s.ndiv) key)) ≡ n

-- a centre that lies in the window of the containers near a place
pub center_near : (s : GridSearch) (a : Asked) (key : ℕ) (c : Position) (w : Window) {b : Bool} → coords s.ndim c ≡ centre_of s key → w.from ≡ inf true → w.to ≡ s.radius ⊕ s.tol_dist
    → b ≡ lies w.from w.to (place_distance a (coords s.ndim c)) → b ≡ container_near s a key
unfolding container_near
center_near s a key c w at from to e =
    let d = place_distance a (coords s.ndim c) in
    e
    ∙ ap (λ (f : Float). lies f w.to d) from
    ∙ unbounded w.to d
    ∙ ap (λ (t : Float). le d t) to
    ∙ ap (λ (x : List Float). le (place_distance a x) (s.radius ⊕ s.tol_dist)) at
