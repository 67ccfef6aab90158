-- The laws of the magnitude, of the smaller and the larger of two, and of the tests of one float.
-- Assumes nothing.
use Rattle.std.proofs.Common.{◌≡◌, Bool, true, false, cond, ◌&&◌, ◌||◌, ◌⊎◌, sym, refl, inl, inr}
use mathlib.Core.Bool.{false≢true}
use lib.Ieee.{Float, nan, inf, fin, lt, le, is_nan, neg}
use Rattle.basics.proofs.Bools.{which, or-true}
use Rattle.floats.specs.Tests.{abs_of, min_of, max_of, finite, within}
use Rattle.floats.proofs.Order.{lt-le, le_self, not_lt_le, le-ends}

-- ---- the magnitude
pub abs-abs : (x : Float) → abs_of (abs_of x) ≡ abs_of x
unfolding abs_of
abs-abs nan = refl
abs-abs (inf s) = refl
abs-abs (fin s m e) = refl

-- ---- the smaller of two is one of them, and above neither
module _ (a b : Float) where
  pub min_either : (min_of a b ≡ a) ⊎ (min_of a b ≡ b)
  unfolding min_of
  min_either = go (lt b a || is_nan a)
    where
      go : (t : Bool) → (cond t b a ≡ a) ⊎ (cond t b a ≡ b)
      go true = inr refl
      go false = inl refl

  pub max_either : (max_of a b ≡ a) ⊎ (max_of a b ≡ b)
  unfolding max_of
  max_either = go (lt a b || is_nan a)
    where
      go : (t : Bool) → (cond t b a ≡ a) ⊎ (cond t b a ≡ b)
      go true = inr refl
      go false = inl refl

  module _ (p : is_nan a ≡ false) (q : is_nan b ≡ false) where
    pub min_left : le (min_of a b) a ≡ true
    unfolding min_of
    min_left = go (which (lt b a))
      where
        go : (lt b a ≡ true) ⊎ (lt b a ≡ false) → le (cond (lt b a || is_nan a) b a) a ≡ true
        go (inl h) = rw h (lt-le b a h)
        go (inr h) = rw (h, p) (le_self a p)

    pub min-right : le (min_of a b) b ≡ true
    unfolding min_of
    min-right = go (which (lt b a))
      where
        go : (lt b a ≡ true) ⊎ (lt b a ≡ false) → le (cond (lt b a || is_nan a) b a) b ≡ true
        go (inl h) = rw h (le_self b q)
        go (inr h) = rw (h, p) (not_lt_le a b p q h)

    pub max_left : le a (max_of a b) ≡ true
    unfolding max_of
    max_left = go (which (lt a b))
      where
        go : (lt a b ≡ true) ⊎ (lt a b ≡ false) → le a (cond (lt a b || is_nan a) b a) ≡ true
        go (inl h) = rw h (lt-le a b h)
        go (inr h) = rw (h, p) (le_self a p)

    pub max-right : le b (max_of a b) ≡ true
    unfolding max_of
    max-right = go (which (lt a b))
      where
        go : (lt a b ≡ true) ⊎ (lt a b ≡ false) → le b (cond (lt a b || is_nan a) b a) ≡ true
        go (inl h) = rw h (le_self b q)
        go (inr h) = rw (h, p) (not_lt_le b a q p h)

-- ---- a NaN gives way to the other value
pub nan_gives_way : (b : Float) → (min_of nan b ≡ b) × (max_of nan b ≡ b)
unfolding min_of max_of lt is_nan
nan_gives_way b = (rw (or-true (lt b nan) {b = true} refl), refl)

-- ---- what is within a finite limit is finite
pub within-finite : (limit x : Float) → finite limit ≡ true → within limit x ≡ true → finite x ≡ true
unfolding within finite abs_of le
within-finite limit nan h k = absurd (false≢true k)
within-finite nan (inf s) h k = k
within-finite (inf t) (inf s) h k = h
within-finite (fin t n d) (inf s) h k = k
within-finite limit (fin s m e) h k = refl

-- ---- a magnitude is at most the limit exactly if the value lies from -limit up to the limit
pub within-ends : (limit x : Float) → within limit x ≡ (le (neg limit) x && le x limit)
unfolding within abs_of neg
within-ends nan x = go x
  where
    go : (x : Float) → le (abs_of x) nan ≡ (le nan x && le x nan)
    go nan = unfold le in refl
    go (inf t) = unfold le in refl
    go (fin t n d) = unfold le in refl
within-ends (inf s) nan = unfold le in refl
within-ends (inf true) (inf true) = unfold le in refl
within-ends (inf true) (inf false) = unfold le in refl
within-ends (inf false) (inf true) = unfold le in refl
within-ends (inf false) (inf false) = unfold le in refl
within-ends (inf true) (fin t n d) = unfold le in refl
within-ends (inf false) (fin t n d) = unfold le in refl
within-ends (fin s m e) nan = unfold le in refl
within-ends (fin s m e) (inf true) = unfold le in refl
within-ends (fin s m e) (inf false) = unfold le in refl
within-ends (fin s m e) (fin t n d) = sym (le-ends s m e t n d)
