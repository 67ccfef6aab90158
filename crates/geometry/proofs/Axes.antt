-- Laws of positions and the lists of their coordinates, over any number of axes.
-- Assumes nothing.
use Prim.Native.Nat.{ℕ, zero, suc, ◌/◌, ◌^◌, ◌≤◌, ◌<◌}
use native.Mathlib.Nat.{lt_of_lt_of_le}
use native.Mathlib.Omega.{arith}
use mathlib.Core.Path.{◌≡◌, refl, sym, ap, ◌∙◌, subst}
use mathlib.Core.Logic.{◌⊎◌, inl, inr}
use mathlib.Core.Bool.{Bool, true, cond, not, ◌&&◌, ◌||◌, and-true, and_assoc, or-false}
use mathlib.Core.List.{List, [], ◌∷◌, map}
use lib.Dec.{eqb}
use Rattle.std.specs.List.{fold}
use lib.ListN.{length, take, drop, get_or}
use lib.Seq.{drop-cons, get_or-take}
use lib.Ieee.{Float}
use borrow.Author.Tests.{eqb-true}
use Rattle.basics.proofs.Bools.{or_either}
use Rattle.basics.specs.Lists.{all, any, zip_with}
use Rattle.basics.proofs.Lists.{take_zip}
use Rattle.floats.specs.Rounded.{◌⊖◌, ◌⊗◌, ◌⊘◌, zero_f}
use Rattle.geometry.specs.declared.Position.{Position}
use Rattle.geometry.specs.declared.Line.{Line}
use Rattle.geometry.specs.Position.{coords, position_of, axis_of, dimension, coordinate, every_axis, some_axis, box_corner}
use Rattle.geometry.specs.Distances.{less, line_of, from, dot, line_square}

-- 2 or 3 as numbers
pub two_or_three : (n : ℕ) → dimension n ≡ true → (n ≡ 2) ⊎ (n ≡ 3)
two_or_three n h = go (or_either (eqb n 2) (eqb n 3) h)
  where
    go : (eqb n 2 ≡ true) ⊎ (eqb n 3 ≡ true) → (n ≡ 2) ⊎ (n ≡ 3)
    go (inl e) = inl (eqb-true n 2 e)
    go (inr e) = inr (eqb-true n 3 e)

pub three : (n : ℕ) → dimension n ≡ true → (n ≡ 2 → ⊥) → n ≡ 3
three n h k = go (two_or_three n h)
  where
    go : (n ≡ 2) ⊎ (n ≡ 3) → n ≡ 3
    go (inl e) = absurd (k e)
    go (inr e) = e

-- what holds for 2 and for 3 axes
pub for_axes : (P : ℕ → Type 0) → P 2 → P 3 → (n : ℕ) → dimension n ≡ true → P n
for_axes P two three n h = go (two_or_three n h)
  where
    go : (n ≡ 2) ⊎ (n ≡ 3) → P n
    go (inl e) = subst P (sym e) two
    go (inr e) = subst P (sym e) three

pub few-axes : (n : ℕ) → dimension n ≡ true → (2 ≤ n) × (n ≤ 3)
few-axes n h = for_axes (λ n. (2 ≤ n) × (n ≤ 3)) (omega arith) (omega arith) n h

-- a square has 4 corners, a cube 8
pub corners-most : (n : ℕ) → dimension n ≡ true → 2 ^ n ≤ 8
corners-most n h = for_axes (λ n. 2 ^ n ≤ 8) (omega arith) (omega arith) n h

-- as many coordinates as axes
pub coords-length : (n : ℕ) (p : Position) → dimension n ≡ true → length (coords n p) ≡ n
coords-length n p h = for_axes (λ n. length (coords n p) ≡ n) refl refl n h

-- a position made from the first coordinates has +0 on an axis that is not in use
pub padded : (n : ℕ) (x y z : Float) → dimension n ≡ true → record { x = x; y = y; z = cond (eqb n 3) z zero_f } ≡ position_of (take n (x ∷ y ∷ z ∷ []))
padded n x y z h = for_axes (λ n. record { x = x; y = y; z = cond (eqb n 3) z zero_f } ≡ position_of (take n (x ∷ y ∷ z ∷ []))) refl refl n h

-- the coordinate on an axis in use is the list's entry
pub axis_entry : (n i : ℕ) (p : Position) → dimension n ≡ true → i < n → get_or (coords n p) i zero_f ≡ axis_of i p
axis_entry n i p h k = get_or-take n (p.x ∷ p.y ∷ p.z ∷ []) i zero_f k ∙ go i (lt_of_lt_of_le k (few-axes n h).1)
  where
    go : (i : ℕ) → i < 3 → get_or (p.x ∷ p.y ∷ p.z ∷ []) i zero_f ≡ axis_of i p
    go zero k = refl
    go (suc zero) k = refl
    go (suc (suc zero)) k = refl
    go (suc (suc (suc i))) k = absurd (omega arith)

-- the coordinates from axis i on
pub axis_at : (n i : ℕ) (p : Position) → dimension n ≡ true → i < n → drop i (coords n p) ≡ axis_of i p ∷ drop (suc i) (coords n p)
axis_at n i p h k = drop-cons (coords n p) i zero_f (omega (arith, coords-length n p h)) ∙ ap (λ (x : Float). x ∷ drop (suc i) (coords n p)) (axis_entry n i p h k)

-- a test of each of the first n entries, by its answers
pub all_tests : {A : Type 0} (f : A → Bool) (n : ℕ) (xs : List A) → all f (take n xs) ≡ all (λ (b : Bool). b) (take n (map f xs))
unfolding all
all_tests f zero xs = refl
all_tests f (suc n) [] = refl
all_tests f (suc n) (x ∷ xs) = rw (all_tests f n xs)

pub any_tests : {A : Type 0} (f : A → Bool) (n : ℕ) (xs : List A) → any f (take n xs) ≡ any (λ (b : Bool). b) (take n (map f xs))
unfolding any
any_tests f zero xs = refl
any_tests f (suc n) [] = refl
any_tests f (suc n) (x ∷ xs) = rw (any_tests f n xs)

-- the same from the left
pub every_from_left : {A : Type 0} (f : A → Bool) (b : Bool) (xs : List A) → fold (λ (ok : Bool) (x : A). ok && f x) b xs ≡ (b && all f xs)
unfolding all
every_from_left f b [] = sym (and-true b)
every_from_left f b (x ∷ xs) = every_from_left f (b && f x) xs ∙ and_assoc b (f x) (all f xs)

-- the third answer counts where there are not two axes
pub every_is : (n : ℕ) (x y z : Bool) → dimension n ≡ true → every_axis n x y z ≡ (x && (y && (eqb n 2 || z)))
unfolding all
every_is n x y z h = for_axes (λ n. every_axis n x y z ≡ (x && (y && (eqb n 2 || z)))) refl (rw and-true) n h

pub some_is : (n : ℕ) (x y z : Bool) → dimension n ≡ true → some_axis n x y z ≡ (x || (y || (not (eqb n 2) && z)))
unfolding any
some_is n x y z h = for_axes (λ n. some_axis n x y z ≡ (x || (y || (not (eqb n 2) && z)))) refl (rw or-false) n h

-- each coordinate judged
pub judged : (n : ℕ) (p : Position) → all coordinate (coords n p) ≡ every_axis n (coordinate p.x) (coordinate p.y) (coordinate p.z)
judged n p = all_tests coordinate n (p.x ∷ p.y ∷ p.z ∷ [])

pub all-coords : (f : Float → Bool) (n : ℕ) (p : Position) → dimension n ≡ true → all f (coords n p) ≡ (f p.x && (f p.y && (eqb n 2 || f p.z)))
all-coords f n p h = all_tests f n (p.x ∷ p.y ∷ p.z ∷ []) ∙ every_is n (f p.x) (f p.y) (f p.z) h

-- the first three entries of a list that is as long as there are axes are the list, whatever stands for an entry that it lacks
pub entries_of : {A : Type 0} (d : A) (n : ℕ) (l : List A) → dimension n ≡ true → length l ≡ n → take n (get_or l 0 d ∷ get_or l 1 d ∷ get_or l 2 d ∷ []) ≡ l
entries_of {A = A} d n l h e = rw (← e) (go l (two_or_three (length l) (rw e h)))
  where
    go : (l : List A) → (length l ≡ 2) ⊎ (length l ≡ 3) → take (length l) (get_or l 0 d ∷ get_or l 1 d ∷ get_or l 2 d ∷ []) ≡ l
    go [] e = refl
    go (x ∷ []) e = refl
    go (x ∷ y ∷ []) e = refl
    go (x ∷ y ∷ z ∷ []) e = refl
    go (x ∷ y ∷ z ∷ w ∷ l) (inl e) = absurd (omega arith)
    go (x ∷ y ∷ z ∷ w ∷ l) (inr e) = absurd (omega arith)

-- so a position made from a list of coordinates has these coordinates
pub coords_of : (n : ℕ) (l : List Float) (p : Position) → dimension n ≡ true → length l ≡ n → p ≡ position_of l → coords n p ≡ l
coords_of n l p h e f = ap (coords n) f ∙ entries_of zero_f n l h e

-- and these are judged
pub limits_are : (n : ℕ) (l : List Float) (p : Position) → dimension n ≡ true → length l ≡ n → p ≡ position_of l → all coordinate (coords n p) ≡ all coordinate l
limits_are n l p h e f = ap (all coordinate) (coords_of n l p h e f)

-- the corner of a box along the first n axes
take-corner : (n : ℕ) (los his : List Float) (c : ℕ) → take n (box_corner los his c) ≡ box_corner (take n los) (take n his) c
unfolding box_corner
take-corner zero los his c = refl
take-corner (suc n) [] his c = refl
take-corner (suc n) (a ∷ los) [] c = refl
take-corner (suc n) (a ∷ los) (b ∷ his) c = rw (take-corner n los his (c / 2))

pub corner-axes : (n : ℕ) (lo hi : Position) (c : ℕ) (x y z : Float) → x ∷ y ∷ z ∷ [] ≡ box_corner (coords 3 lo) (coords 3 hi) c
    → coords n (record { x = x; y = y; z = z }) ≡ box_corner (coords n lo) (coords n hi) c
corner-axes n lo hi c x y z e = ap (take n) e ∙ take-corner n (coords 3 lo) (coords 3 hi) c

-- differences of coordinates
pub coords-less : (n : ℕ) (a b : Position) → coords n (less a b) ≡ from (coords n a) (coords n b)
unfolding from
coords-less n a b = take_zip (λ (y x : Float). y ⊖ x) n (b.x ∷ b.y ∷ b.z ∷ []) (a.x ∷ a.y ∷ a.z ∷ [])

-- the same, squared
pub dot_less : (n : ℕ) (a b d : Position) → d ≡ less a b → dot (coords n d) (coords n d) ≡ dot (from (coords n a) (coords n b)) (from (coords n a) (coords n b))
dot_less n a b d e = ap (λ (m : Position). dot (coords n m) (coords n m)) e ∙ ap (λ (l : List Float). dot l l) (coords-less n a b)

-- the line that the code makes
pub line_is : (n : ℕ) (a b d : Position) (nn : Float) → d ≡ less a b → nn ≡ dot (coords n d) (coords n d) → ◌≡◌ {A = Line} (record { a = a; n = d; n_dot_n = nn }) (line_of n a b)
unfolding line_of
line_is n a b d nn e f = rw (f ∙ dot_less n a b d e, e)

-- The vector from a line to a point, as the code has it: q = x - n * (x ⋅ n) / (n ⋅ n) on all three axes, where x goes from the line's end to the point.
abbrev pub off : Line → Position → Float → Position
off l x xn =
    let nn = l.n_dot_n in
    record { x = x.x ⊖ l.n.x ⊗ xn ⊘ nn; y = x.y ⊖ l.n.y ⊗ xn ⊘ nn; z = x.z ⊖ l.n.z ⊗ xn ⊘ nn }

coords_off : (n : ℕ) (l : Line) (x : Position) (xn : Float) → coords n (off l x xn) ≡ zip_with (λ (xi ni : Float). xi ⊖ ni ⊗ xn ⊘ l.n_dot_n) (coords n x) (coords n l.n)
unfolding zip_with
coords_off n l x xn = take_zip (λ (xi ni : Float). xi ⊖ ni ⊗ xn ⊘ l.n_dot_n) n (x.x ∷ x.y ∷ x.z ∷ []) (l.n.x ∷ l.n.y ∷ l.n.z ∷ [])

-- its square is that of the distance
off_square : (n : ℕ) (a b c : Position) → let l = line_of n a b in let q =
    coords n (off l (less a c) (dot (coords n (less a c)) (coords n l.n))) in dot q q ≡ line_square (coords n a) (coords n b) (coords n c)
unfolding line_square line_of
off_square n a b c = rw (coords_off n (line_of n a b) (less a c) (dot (coords n (less a c)) (coords n (less a b))), coords-less n a b, coords-less n a c)

pub square_is : (n : ℕ) (a b c : Position) (l : Line) (x : Position) (xn : Float) → l ≡ line_of n a b → x ≡ less l.a c
    → xn ≡ dot (coords n x) (coords n l.n) → let q = coords n (off l x xn) in dot q q ≡ line_square (coords n a) (coords n b) (coords n c)
unfolding line_of
square_is n a b c l x xn e f g = rw (g, f, e) (off_square n a b c)
