-- The bounding boxes of a mesh whose coordinates are within the limits: their corners are coordinates of the mesh, the low one is not above the high one, and
-- no length is below 0 or above 2 ^ 21.
-- Assumes nothing.
use Prim.Native.Nat.{ℕ, zero, suc, ◌+◌, ◌*◌, ◌<◌}
use native.Mathlib.Nat.{lt_of_lt_of_le}
use native.Mathlib.Omega.{arith}
use mathlib.Core.Path.{◌≡◌, refl, sym, ap, subst}
use mathlib.Core.Logic.{inl, inr}
use mathlib.Core.Bool.{Bool, true, false, ◌&&◌}
use mathlib.Core.List.{List, [], ◌∷◌, map}
use lib.Dec.{lit≤}
use lib.ListN.{length, get_or}
use lib.Ieee.{Float, nan, binary64, le, is_nan, fits}
use Rattle.basics.proofs.Bools.{by_test, both, and_left, and_both}
use Rattle.basics.specs.Lists.{all, keep, zip_with, tab, fold_from}
use Rattle.basics.proofs.Lists.{length-tab, all_at, all-tab}
use Rattle.floats.specs.Rounded.{zero_f, pow2}
use Rattle.floats.specs.Tests.{finite, min_of, max_of}
use Rattle.floats.proofs.Choice.{min_either, max_either, min_left, max_left, within-finite}
use Rattle.floats.proofs.Order.{le_join, le_self}
use Rattle.floats.proofs.Upto.{Upto, within-upto, sub-upto}
use Rattle.geometry.specs.Position.{coordinate}
use Rattle.geometry.specs.Distances.{from}
use Rattle.grid_search.specs.Sheet.{largest}
use Rattle.grid_search.proofs.Sizes.{finite_number}
use Rattle.mesh.specs.Mesh.{Mesh, Box, Whole, cell_count, point_count, point_at, corner_points, least, greatest, box_of, longest_side}
use Rattle.mesh.proofs.Whole.{corner_in, names_point, point_in, length_point, corners-tab}
use Rattle.cell_sizes.specs.Large.{boxes, longest_of}
use Rattle.cell_index.specs.Index.{ordered}
use Rattle.cell_claims.proofs.Bounds.{less_from_zero}

-- something holds of each entry
abbrev pub Each : {A : Type 0} → (A → Type 0) → List A → Type 0
Each P [] = Unit {0}
Each P (x ∷ xs) = P x × Each P xs

each_tab : {A : Type 0} (P : A → Type 0) (n : ℕ) (f : ℕ → A) → ((i : ℕ) → i < n → P (f i)) → Each P (tab n f)
each_tab P zero f h = tt
each_tab P (suc n) f h = (h 0 (omega arith), each_tab P n (λ i. f (suc i)) (λ i k. h (suc i) (omega arith)))

pub each_map : {A B : Type 0} (P : A → Type 0) (Q : B → Type 0) (f : A → B) (xs : List A) → ((x : A) → P x → Q (f x)) → Each P xs → Each Q (map f xs)
each_map P Q f [] g h = tt
each_map P Q f (x ∷ xs) g h = (g x h.0, each_map P Q f xs g h.1)

pub each_keep : {A : Type 0} (P : A → Type 0) (p : A → Bool) (xs : List A) → Each P xs → Each P (keep p xs)
unfolding keep
each_keep P p [] h = tt
each_keep P p (x ∷ xs) h = let rest = each_keep P p xs h.1 in by_test (p x) (λ e. rw e (h.0, rest)) (λ e. rw e rest)

-- ---- coordinates: within the limits, and binary64 values
abbrev pub plain : Float → Bool
plain x = coordinate x && fits binary64 x

plain-coordinate : (x : Float) → plain x ≡ true → coordinate x ≡ true
plain-coordinate x h = and_left (coordinate x) (fits binary64 x) h

pub plain-finite : (x : Float) → plain x ≡ true → finite x ≡ true
unfolding finite
plain-finite x h = within-finite (pow2 20) x refl (plain-coordinate x h)

number : (x : Float) → plain x ≡ true → is_nan x ≡ false
number x h = finite_number x (plain-finite x h)

-- n of them
pub record Point (n : ℕ) (x : List Float) : Type 0 where
  pub long : length x ≡ n
  pub plain : all plain x ≡ true

-- a choice between two is one of them
module _ (f : Float → Float → Float) (choice : (a b : Float) → plain a ≡ true → plain b ≡ true → plain (f a b) ≡ true) where
  zip_point : (n : ℕ) (x y : List Float) → Point n x → Point n y → Point n (zip_with f x y)
  unfolding zip_with all
  zip_point n x y p q = record { long = long n x y p.long q.long; plain = each x y p.plain q.plain }
    where
      long : (n : ℕ) (x y : List Float) → length x ≡ n → length y ≡ n → length (zip_with f x y) ≡ n
      long n [] y e g = e
      long n (a ∷ x) [] e g = absurd (omega arith)
      long zero (a ∷ x) (b ∷ y) e g = absurd (omega arith)
      long (suc n) (a ∷ x) (b ∷ y) e g = ap suc (long n x y (omega arith) (omega arith))

      each : (x y : List Float) → all plain x ≡ true → all plain y ≡ true → all plain (zip_with f x y) ≡ true
      each [] y h k = refl
      each (a ∷ x) [] h k = refl
      each (a ∷ x) (b ∷ y) h k = let p = and_both (plain a) (all plain x) h in let q = and_both (plain b) (all plain y) k in both (choice a b p.0 q.0) (each x y p.1 q.1)

  pub fold_point : (n : ℕ) (p : List Float) (ps : List (List Float)) → Point n p → Each (Point n) ps → Point n (fold_from (zip_with f) p ps)
  unfolding fold_from
  fold_point n p [] h k = h
  fold_point n p (q ∷ ps) h k = fold_point n (zip_with f p q) ps (zip_point n p q h k.0) k.1

min-plain : (a b : Float) → plain a ≡ true → plain b ≡ true → plain (min_of a b) ≡ true
min-plain a b h k = elim (min_either a b) [ inl e ↦ rw e h | inr e ↦ rw e k ]

max-plain : (a b : Float) → plain a ≡ true → plain b ≡ true → plain (max_of a b) ≡ true
max-plain a b h k = elim (max_either a b) [ inl e ↦ rw e h | inr e ↦ rw e k ]

pub least_point : (n : ℕ) (p : List Float) (ps : List (List Float)) → Point n p → Each (Point n) ps → Point n (least (p ∷ ps))
unfolding least
least_point n p ps h k = fold_point min_of min-plain n p ps h k

pub greatest_point : (n : ℕ) (p : List Float) (ps : List (List Float)) → Point n p → Each (Point n) ps → Point n (greatest (p ∷ ps))
unfolding greatest
greatest_point n p ps h k = fold_point max_of max-plain n p ps h k

-- ---- the low corner is not above the high one
ordered_self : (x : List Float) → all plain x ≡ true → ordered x x ≡ true
unfolding ordered all
ordered_self [] h = refl
ordered_self (a ∷ x) h = let p = and_both (plain a) (all plain x) h in both (le_self a (number a p.0)) (ordered_self x p.1)

ordered_zip : (x y q : List Float) → all plain x ≡ true → all plain y ≡ true → all plain q ≡ true → ordered x y ≡ true → ordered (zip_with min_of x q) (zip_with max_of y q) ≡ true
unfolding ordered zip_with all
ordered_zip [] y q h k l o = refl
ordered_zip (a ∷ x) y [] h k l o = refl
ordered_zip (a ∷ x) [] (c ∷ q) h k l o = refl
ordered_zip (a ∷ x) (b ∷ y) (c ∷ q) h k l o =
    let p = and_both (plain a) (all plain x) h in
    let r = and_both (plain b) (all plain y) k in
    let s = and_both (plain c) (all plain q) l in
    let t = and_both (le a b) (ordered x y) o in
    let nc = number c s.0 in
    both (le_join (min_of a c) a (max_of b c) (min_left a c (number a p.0) nc) (le_join a b (max_of b c) t.0 (max_left b c (number b r.0) nc)))
    (ordered_zip x y q p.1 r.1 s.1 t.1)

ordered-fold : (n : ℕ) (x y : List Float) (ps : List (List Float)) → Point n x → Point n y → Each (Point n) ps → ordered x y ≡ true
    → ordered (fold_from (zip_with min_of) x ps) (fold_from (zip_with max_of) y ps) ≡ true
unfolding fold_from
ordered-fold n x y [] h k l o = o
ordered-fold n x y (q ∷ ps) h k l o =
    ordered-fold n (zip_with min_of x q) (zip_with max_of y q) ps (zip_point min_of min-plain n x q h l.0) (zip_point max_of max-plain n y q k l.0) l.1 (ordered_zip x y q h.plain k.plain l.0.plain o)

pub record Good (n : ℕ) (b : Box) : Type 0 where
  pub low : Point n b.low
  pub high : Point n b.high
  pub order : ordered b.low b.high ≡ true

pub good_around : (n : ℕ) (ps : List (List Float)) → Each (Point n) ps → 0 < length ps → Good n (record { low = least ps; high = greatest ps })
unfolding least greatest
good_around n [] h k = absurd (omega arith)
good_around n (p ∷ ps) h k = record { low = least_point n p ps h.0 h.1; high = greatest_point n p ps h.0 h.1; order = ordered-fold n p p ps h.0 h.0 h.1 (ordered_self p h.0.plain) }

-- ---- those of a mesh
module _ (n : ℕ) (m : Mesh) (w : Whole n m) (h : all plain m.points ≡ true) where
  point_good : (p : ℕ) → p < point_count n m → Point n (point_at n m p)
  unfolding point_at
  point_good p k = record {
    long = length_point n m p;
    plain = all-tab plain n (λ (i : ℕ). get_or m.points (p * n + i) nan) (λ i l. all_at plain m.points (p * n + i) nan (lt_of_lt_of_le (omega arith) (point_in n m w p k)) h);
  }

  box_good : (c : ℕ) → c < cell_count n m → Good n (box_of n m c)
  unfolding box_of
  box_good c k =
      good_around n (corner_points n m c)
      (subst (Each (Point n)) (sym (corners-tab n m c))
      (each_tab (Point n) (n + 1) (λ (i : ℕ). point_at n m (get_or m.corners (c * (n + 1) + i) 0))
      (λ i l. point_good (get_or m.corners (c * (n + 1) + i) 0) (names_point n m w (c * (n + 1) + i) (corner_in n m c i k (omega arith))))))
      (rw (corners-tab n m c, length-tab) (omega arith))

  pub boxes-good : Each (Good n) (boxes n m)
  unfolding boxes
  boxes-good = each_tab (Good n) (cell_count n m) (box_of n m) box_good

-- ---- lengths: from 0 up to 2 ^ 21
pub record Size (x : Float) : Type 0 where
  pub most : Upto 2097152 x
  pub least : le zero_f x ≡ true

no_size : Size zero_f
unfolding le
no_size = record { most = lit≤ tt; least = refl }

larger : (a b : Float) → Size a → Size b → Size (max_of a b)
larger a b h k = elim (max_either a b) [ inl e ↦ subst Size (sym e) h | inr e ↦ subst Size (sym e) k ]

largest-from : (a : Float) (xs : List Float) → Size a → Each Size xs → Size (fold_from max_of a xs)
unfolding fold_from
largest-from a [] h k = h
largest-from a (x ∷ xs) h k = largest-from (max_of a x) xs (larger a x h k.0) k.1

largest_size : (xs : List Float) → Each Size xs → Size (largest xs)
unfolding largest
largest_size [] h = no_size
largest_size (x ∷ xs) h = largest-from x xs h.0 h.1

from-size : (lo hi : List Float) → all plain lo ≡ true → all plain hi ≡ true → ordered lo hi ≡ true → Each Size (from lo hi)
unfolding from zip_with ordered all
from-size lo [] h k o = tt
from-size [] (b ∷ hi) h k o = tt
from-size (a ∷ lo) (b ∷ hi) h k o =
    let p = and_both (plain a) (all plain lo) h in
    let q = and_both (plain b) (all plain hi) k in
    let r = and_both (le a b) (ordered lo hi) o in (
      record {
        most = sub-upto 1048576 1048576 (lit≤ tt) b a (within-upto 20 b (plain-coordinate b q.0)) (within-upto 20 a (plain-coordinate a p.0));
        least = less_from_zero a b (plain-finite a p.0) (plain-finite b q.0) r.0;
      },
      from-size lo hi p.1 q.1 r.1,
    )

side_size : (n : ℕ) (b : Box) → Good n b → Size (longest_side b)
unfolding longest_side
side_size n b g = largest_size (from b.low b.high) (from-size b.low b.high g.low.plain g.high.plain g.order)

pub longest-size : (n : ℕ) (bs : List Box) → Each (Good n) bs → Size (longest_of bs)
unfolding longest_of
longest-size n bs h = largest_size (map longest_side bs) (each_map (Good n) Size longest_side bs (side_size n) h)
