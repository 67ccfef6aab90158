-- Which of two values is nearer to an exact root, by whole numbers alone; and no value of binary64 is nearer than the one that `sqrt_of` gives (`none_nearer`).
-- Assumes nothing.
use Rattle.std.proofs.Common.{◌≡◌, ℕ, zero, suc, ◌+◌, ◌-◌, ◌*◌, ◌/◌, ◌^◌, ◌<◌, ◌≤◌, Bool, true, false, ◌&&◌, ◌||◌, T, ltb, ℤ, sym, refl, ap, ◌∙◌, zero-le, le_trans, le_of_eq, lt_of_lt_of_le, lt_of_le_of_lt, le_of_lt, mul-le-mul_right, zero-lt-suc, mul_assoc, add-mul, mul-le-mul, lt_of_mul-lt-mul_right, mul-le-mul_left, one-mul, zero-mul, mul-div_cancel, arith, lt→ltb, pow_pos, pow_mono, pow-add, shl_lt, ltb-true, le-ltb}
use native.Mathlib.Nat.{mul-mul-mul_comm}
use native.Mathlib.Decide.{dec_le}
use mathlib.Core.Bool.{and-false}
use lib.Ieee.{Float, nan, inf, fin, binary64, up, down, fits, le}
use lib.Ieee.Exact.{HasValue}
use lib.Ieee.Fits.{down_pos}
use Rattle.basics.proofs.Bools.{by_test, clash}
use Rattle.floats.specs.Rounded.{zero_f}
use Rattle.floats.specs.Tests.{finite}
use Rattle.floats.specs.Sqrt.{sqrt_of, sqrt_in}
use Rattle.floats.proofs.Held.{fits-held}
use Rattle.floats.proofs.Near.{square_double}
use Rattle.floats.proofs.Exact.{Nearest, sqrt-nearest, in_units}
use Rattle.floats.proofs.Roots.{below-zero}

-- The size of a finite value in units of 2 ^ -1074, the smallest value of binary64: every value of binary64 is a whole number of them.
unfoldable pub units : Float → ℕ
units nan = 0
units (inf s) = 0
units (fin s m e) = m * up e * 2 ^ 1074 / down e

-- Whether b, or -b where there is a minus sign, is nearer to √N than a is.
-- Of two numbers the one on the root's side of their midpoint is nearer. The root may be irrational, so that its place is told by squares: √N is above (a + b) / 2
-- exactly if 4 N is above (a + b) ^ 2. So b above a is nearer if (a + b) ^ 2 is below 4 N, and b below a if it is above. And -b is below a: it is nearer if (a - b) / 2
-- is above zero and above √N.
unfoldable pub nearer : ℕ → ℕ → Bool → ℕ → Bool
nearer N a false b = (ltb a b && ltb ((a + b) * (a + b)) (4 * N)) || (ltb b a && ltb (4 * N) ((a + b) * (a + b)))
nearer N a true b = ltb b a && ltb (4 * N) ((a - b) * (a - b))

-- Whether y is nearer to the exact root of x than r is, where x and r are finite and not below zero. x being n units of 2 ^ -1074, its root is √(n * 2 ^ 1074) units.
-- No infinity, and no NaN, is nearer to a finite number than a finite value is.
unfoldable pub nearer_root : Float → Float → Float → Bool
unfolding units nearer
nearer_root x r nan = false
nearer_root x r (inf s) = false
nearer_root x r (fin s m e) = nearer (units x * 2 ^ 1074) (units r) s (units (fin s m e))

-- ---- by whole numbers: q * v is nearest to √N among the multiples of v

square : (c v : ℕ) → c * c * (v * v) ≡ c * v * (c * v)
square c v = sym (mul-mul-mul_comm c v c v)

module _ (N q v : ℕ) where
  -- from the next multiple on
  past_next : 4 * N < (2 * q + 1) * (2 * q + 1) * (v * v) → (b : ℕ) → q * v + v ≤ b → 4 * N ≤ (q * v + b) * (q * v + b)
  past_next below b h =
      let e : (2 * q + 1) * v ≡ q * v + (q * v + v) = ap (λ (c : ℕ). c * v) (twice q) ∙ add-mul q (q + 1) v ∙ ap (λ (c : ℕ). q * v + c) (add-mul q 1 v ∙ ap (λ (c : ℕ). q * v + c) (one-mul v)) in
      let g : (2 * q + 1) * v ≤ q * v + b = omega arith in
      le_trans (le_of_lt (lt_of_lt_of_le below (le_of_eq (square (2 * q + 1) v)))) (mul-le-mul g g)
    where
      twice : (q : ℕ) → 2 * q + 1 ≡ q + (q + 1)
      twice q = omega arith

  -- up to the one before
  past_last : 0 < q → (2 * q - 1) * (2 * q - 1) * (v * v) < 4 * N → (b : ℕ) → b + v ≤ q * v → (q * v + b) * (q * v + b) ≤ 4 * N
  past_last Q above b h =
      let e : (2 * q - 1) * v + v ≡ q * v + q * v = ap (λ (c : ℕ). (2 * q - 1) * v + c) (sym (one-mul v)) ∙ sym (add-mul (2 * q - 1) 1 v) ∙ ap (λ (c : ℕ). c * v) (twice q Q) ∙ add-mul q q v in
      let g : q * v + b ≤ (2 * q - 1) * v = omega arith in
      le_trans (mul-le-mul g g) (le_of_lt (lt_of_le_of_lt (le_of_eq (sym (square (2 * q - 1) v))) above))
    where
      twice : (q : ℕ) → 0 < q → 2 * q - 1 + 1 ≡ q + q
      twice q Q = omega arith

-- so of the numbers of p digits, whatever their last place, none is nearer
module _ (p N q k : ℕ) (P : 0 < p) (least : 2 ^ (p - 1 + k) * 2 ^ (p - 1 + k) ≤ N) (leading : 2 ^ (p - 1) ≤ q)
    (above : (2 * q - 1) * (2 * q - 1) * (2 ^ k * 2 ^ k) < 4 * N) (below : 4 * N < (2 * q + 1) * (2 * q + 1) * (2 ^ k * 2 ^ k)) where
  a : ℕ
  a = q * 2 ^ k

  Q : 0 < q
  Q = lt_of_lt_of_le (pow_pos (p - 1)) leading

  top : 2 ^ (p - 1) * 2 ^ k ≤ a
  unfolding a
  top = mul-le-mul_right (2 ^ k) leading

  module _ (w j : ℕ) (W : w < 2 ^ p) where
    -- a number whose last place is below 2 ^ k is below q's first
    small : (j + 1 ≤ k) → w * 2 ^ j < 2 ^ (p - 1) * 2 ^ k
    small h = lt_of_lt_of_le (shl_lt p j W) (le_trans (pow_mono (more p j k P h)) (le_of_eq (pow-add 2 (p - 1) k)))
      where
        more : (p j k : ℕ) → 0 < p → j + 1 ≤ k → p + j ≤ p - 1 + k
        more p j k P h = omega arith

    -- any other is a multiple of 2 ^ k
    multiple : (j + 1 ≤ k → ⊥) → w * 2 ^ j ≡ w * 2 ^ (j - k) * 2 ^ k
    multiple h = ap (λ (i : ℕ). w * 2 ^ i) (split j k h) ∙ ap (λ (c : ℕ). w * c) (pow-add 2 (j - k) k) ∙ sym (mul_assoc w (2 ^ (j - k)) (2 ^ k))
      where
        split : (j k : ℕ) → (j + 1 ≤ k → ⊥) → j ≡ j - k + k
        split j k h = omega arith

    next : (t : ℕ) → (t + 1) * 2 ^ k ≡ t * 2 ^ k + 2 ^ k
    next t = add-mul t 1 (2 ^ k) ∙ ap (λ (c : ℕ). t * 2 ^ k + c) (one-mul (2 ^ k))

    not-above : a < w * 2 ^ j → 4 * N ≤ (a + w * 2 ^ j) * (a + w * 2 ^ j)
    unfolding a
    not-above h = go (dec_le (j + 1) k)
      where
        go : Dec (j + 1 ≤ k) → 4 * N ≤ (a + w * 2 ^ j) * (a + w * 2 ^ j)
        go (yes l) = absurd (omega (arith, small l, top))
        go (no l) =
            let t = w * 2 ^ (j - k) in
            let g : q < t = lt_of_mul-lt-mul_right (2 ^ k) (lt_of_lt_of_le h (le_of_eq (multiple l))) in
            past_next N q (2 ^ k) below (w * 2 ^ j) (le_trans (le_of_eq (sym (next q))) (le_trans (mul-le-mul_right (2 ^ k) (over q t g)) (le_of_eq (sym (multiple l)))))
          where
            over : (q t : ℕ) → q < t → q + 1 ≤ t
            over q t g = omega arith

    not-below : w * 2 ^ j < a → (a + w * 2 ^ j) * (a + w * 2 ^ j) ≤ 4 * N
    unfolding a
    not-below h = go (dec_le (j + 1) k) (dec_le (2 ^ (p - 1) + 1) q)
      where
        go : Dec (j + 1 ≤ k) → Dec (2 ^ (p - 1) + 1 ≤ q) → (a + w * 2 ^ j) * (a + w * 2 ^ j) ≤ 4 * N
        go (yes l) (yes f) =
            let s = small l in
            let g : 2 ^ (p - 1) * 2 ^ k + 2 ^ k ≤ q * 2 ^ k = le_trans (le_of_eq (sym (next (2 ^ (p - 1))))) (mul-le-mul_right (2 ^ k) f) in
            past_last N q (2 ^ k) Q above (w * 2 ^ j) (omega arith)
        go (yes l) (no f) =
            let e : q ≡ 2 ^ (p - 1) = omega arith in
            let r : a ≡ 2 ^ (p - 1 + k) = ap (λ (c : ℕ). c * 2 ^ k) e ∙ sym (pow-add 2 (p - 1) k) in
            let n : a * a ≤ N = le_trans (le_of_eq (ap (λ (c : ℕ). c * c) r)) least in
            let g : a + w * 2 ^ j ≤ 2 * a = omega arith in
            le_trans (mul-le-mul g g) (le_trans (le_of_eq (square_double a)) (mul-le-mul_left 4 n))
        go (no l) f =
            let t = w * 2 ^ (j - k) in
            let g : t < q = lt_of_mul-lt-mul_right (2 ^ k) (lt_of_le_of_lt (le_of_eq (sym (multiple l))) h) in
            past_last N q (2 ^ k) Q above (w * 2 ^ j) (le_trans (le_of_eq (ap (λ (c : ℕ). c + 2 ^ k) (multiple l) ∙ sym (next t))) (mul-le-mul_right (2 ^ k) (over t q g)))
          where
            over : (q t : ℕ) → q < t → q + 1 ≤ t
            over q t g = omega arith

  -- nor is one with a minus sign
  not_minus : (b : ℕ) → (a - b) * (a - b) ≤ 4 * N
  unfolding a
  not_minus b =
      let c : q ≤ 2 * q - 1 = omega (arith, Q) in
      let g : a - b ≤ a = omega arith in
      le_trans (mul-le-mul g g) (le_trans (mul-le-mul (mul-le-mul_right (2 ^ k) c) (mul-le-mul_right (2 ^ k) c)) (le_of_lt (lt_of_le_of_lt (le_of_eq (sym (square (2 * q - 1) (2 ^ k)))) above)))

  none : (s : Bool) (w j : ℕ) → w < 2 ^ p → nearer N a s (w * 2 ^ j) ≡ false
  unfolding nearer
  none true w j W = rw (le-ltb (4 * N) ((a - w * 2 ^ j) * (a - w * 2 ^ j)) (not_minus (w * 2 ^ j))) (and-false (ltb (w * 2 ^ j) a))
  none false w j W = let b = w * 2 ^ j in
      by_test (ltb a b)
      (λ e. let l = ltb-true a b e in rw (e, le-ltb ((a + b) * (a + b)) (4 * N) (not-above w j W l), le-ltb b a (omega arith)))
      (λ e. by_test (ltb b a) (λ f. let l = ltb-true b a f in rw (e, f, le-ltb (4 * N) ((a + b) * (a + b)) (not-below w j W l))) (λ f. rw (e, f)))

-- ---- by values

units-is : (x : Float) (s : Bool) (n : ℕ) → HasValue x s n (2 ^ 1074) → units x ≡ n
unfolding units
units-is nan s n v = absurd v
units-is (inf t) s n v = absurd v
units-is (fin t m e) s n v = ap (λ (c : ℕ). c / down e) v.1 ∙ mul-div_cancel n (down_pos e)

units-zero : (s : Bool) (e : ℤ) → units (fin s 0 e) ≡ 0
units-zero s e = units-is (fin s 0 e) s 0 (refl, ap (λ (c : ℕ). c * 2 ^ 1074) (zero-mul (up e)) ∙ sym (zero-mul (down e)))

-- a value of binary64 is so many units: a number of 53 digits, times a power of two
in_places : (s : Bool) (m : ℕ) (e : ℤ) → T (fits binary64 (fin s m e)) → (w : ℕ) × (j : ℕ) × (w < 2 ^ 53) × (units (fin s m e) ≡ w * 2 ^ j)
unfolding units
in_places s zero e h = (0, 0, pow_pos 53, units-zero s e)
in_places s (suc m) e h =
    let g = fits-held binary64 s m e h in
    let u = in_units 1074 (suc m) e g.deep in
    (suc m, u.0, g.digits, ap (λ (c : ℕ). c / down e) u.1 ∙ mul-div_cancel (suc m * 2 ^ u.0) (down_pos e))

-- the root of a value above zero
from-nearest : (x r : Float) → Nearest 53 1074 x r → (s : Bool) (m : ℕ) (e : ℤ) → T (fits binary64 (fin s m e)) → nearer_root x r (fin s m e) ≡ false
unfolding nearer_root a
from-nearest x r n s m e h =
    let u = in_places s m e h in
    rw (units-is x false n.n n.of, units-is r false (n.q * 2 ^ n.k) n.is, u.3)
    (none 53 (n.n * 2 ^ 1074) n.q n.k (zero-lt-suc 52) n.least n.leading n.above n.below s u.0 u.1 u.2)

-- and of a zero: it is the root itself
of_zero : (s : Bool) (b : ℕ) → nearer 0 0 s b ≡ false
unfolding nearer
of_zero true b = rw (le-ltb b 0 zero-le)
of_zero false b = rw (le-ltb ((0 + b) * (0 + b)) 0 zero-le, le-ltb b 0 zero-le, and-false (ltb 0 b))

has-finite : (y : Float) (s : Bool) (a c : ℕ) → HasValue y s a c → finite y ≡ true
unfolding finite
has-finite nan s a c v = absurd v
has-finite (inf t) s a c v = absurd v
has-finite (fin t m e) s a c v = refl

-- Of every finite x that is not below zero the root is finite,
pub root_is_finite : (x : Float) → T (fits binary64 x) → finite x ≡ true → le zero_f x ≡ true → finite (sqrt_of x) ≡ true
unfolding sqrt_of sqrt_in finite
root_is_finite nan h f z = f
root_is_finite (inf s) h f z = clash f refl
root_is_finite (fin s zero e) h f z = refl
root_is_finite (fin true (suc m) e) h f z = clash z (below-zero m e)
root_is_finite (fin false (suc m) e) h f z =
    let r = sqrt-nearest binary64 (fin false (suc m) e) h (lt→ltb 0 (suc m) (zero-lt-suc m)) in
    has-finite (sqrt_of (fin false (suc m) e)) false (r.q * 2 ^ r.k) (2 ^ 1074) r.is

-- and no y of binary64 is nearer to the exact root.
pub none_nearer : (x y : Float) → T (fits binary64 x) → T (fits binary64 y) → finite x ≡ true → le zero_f x ≡ true → nearer_root x (sqrt_of x) y ≡ false
unfolding nearer_root sqrt_of sqrt_in finite
none_nearer x nan h k f z = refl
none_nearer x (inf s) h k f z = refl
none_nearer x (fin s m e) h k f z = go x h f z
  where
    go : (x : Float) → T (fits binary64 x) → finite x ≡ true → le zero_f x ≡ true → nearer_root x (sqrt_of x) (fin s m e) ≡ false
    go nan h f z = clash f refl
    go (inf t) h f z = clash f refl
    go (fin t zero d) h f z = rw (units-zero t d) (of_zero s (units (fin s m e)))
    go (fin true (suc n) d) h f z = clash z (below-zero n d)
    go (fin false (suc n) d) h f z = from-nearest (fin false (suc n) d) (sqrt_of (fin false (suc n) d)) (sqrt-nearest binary64 (fin false (suc n) d) h (lt→ltb 0 (suc n) (zero-lt-suc n))) s m e k
