-- The order of the values from 0 on is that of their bit patterns. So where a root is at most t at one pattern and above t at the next, `sqrt(s) <= t` is
-- `s <= limit` for every s (`root-limit`): a bound on a distance is tested on its square, with no root. Assumes nothing.
use Rattle.std.proofs.Common.{◌≡◌, ℕ, zero, suc, ◌+◌, ◌-◌, ◌*◌, ◌/◌, ◌^◌, ◌<◌, ◌≤◌, Bool, true, false, not, T, ◌⊎◌, ℤ, sym, refl, ap, ◌∙◌, subst, inl, inr, zero-le, le_trans, le_of_eq, lt_of_lt_of_le, lt_of_le_of_lt, mul-le-mul_right, add-mul, le_antisymm, eq-or-lt_of_le, le-div_iff_mul-le, mul_right_comm, arith, pow_pos, pow-add}
use native.Mathlib.Decide.{dec_le}
use lib.Pow.{shr_mono}
use lib.Ieee.{Float, nan, inf, fin, Format, binary32, binary64, prec, low, up, down, size, hid, fits, le, is_nan, of_bits, to_bits}
use lib.Ieee.Bits.{of_bits-fits, to_bits-of_bits}
use lib.Ieee.Digits.{size-lt, size-le, size_reaches}
use lib.Ieee.Fits.{kept-lt, two, two-le_pos, down_pos}
use lib.Ieee.Nearest.{div_mono}
use Rattle.basics.proofs.Bools.{which, clash}
use Rattle.floats.specs.Rounded.{zero_f}
use Rattle.floats.specs.Sqrt.{sqrt_of}
use Rattle.floats.proofs.Order.{le_cross, le_self, le_join, lt-le, not_lt_le, lt_is_not_le, le_right}
use Rattle.floats.proofs.Unique.{pattern, pattern_is, same_pattern}
use Rattle.floats.proofs.Roots.{is-nan, not-below, zero_number, no_minus_infinity, below-zero, to_infinity, zero-least}
use Rattle.floats.proofs.Reading.{read_finite}
use Rattle.floats.specs.Tests.{Binary64}
use Rattle.floats.proofs.Laws.{root_monotone}

-- ---- a larger value has no smaller pattern
size_mono : (a b : ℕ) → a ≤ b → size a ≤ size b
size_mono a b h = size-le a (size b) (lt_of_le_of_lt h (size-lt b))

-- a number that drops digits keeps p of them
kept_ge : (p n : ℕ) → 0 < p → 0 < size n - p → 2 ^ (p - 1) ≤ n / 2 ^ (size n - p)
kept_ge p n P K =
    let k = size n - p in
    (le-div_iff_mul-le (pow_pos k)).1 (le_trans (le_of_eq (sym (pow-add 2 (p - 1) k))) (size_reaches n (p - 1 + k) (all (size n) p P K)))
  where
    all : (z p : ℕ) → 0 < p → 0 < z - p → p - 1 + (z - p) < z
    all z p P K = omega arith

-- k * h + a, where a is below 2 * h, is at most j * h + b for a larger j and a b from h on
step-up : (h k j a b : ℕ) → k < j → a < 2 * h → h ≤ b → 0 + k * h + a ≤ 0 + j * h + b
step-up h k j a b l A B = omega (arith, mul-le-mul_right h l, add-mul k 1 h)

both-digits : (f : Format) → 2 ^ prec f ≡ 2 * hid f
both-digits binary32 = refl
both-digits binary64 = refl

pattern_mono : (f : Format) (m n : ℕ) → m ≤ n → pattern f false m ≤ pattern f false n
pattern_mono f m n h =
    let p = prec f in
    elim (eq-or-lt_of_le (fewer (size m) (size n) p (size_mono m n h))) [
      | inl e ↦ subst (λ (k : ℕ). 0 + k * hid f + m / 2 ^ k ≤ pattern f false n) (sym e) (same (size n - p) h)
      | inr l ↦
          step-up (hid f) (size m - p) (size n - p) (m / 2 ^ (size m - p)) (n / 2 ^ (size n - p)) l (lt_of_lt_of_le (kept-lt p m) (le_of_eq (both-digits f)))
          (kept_ge p n (two-le_pos p (two f)) (lt_of_le_of_lt zero-le l))
    ]
  where
    fewer : (x y p : ℕ) → x ≤ y → x - p ≤ y - p
    fewer x y p h = omega arith

    same : (k : ℕ) → m ≤ n → 0 + k * hid f + m / 2 ^ k ≤ 0 + k * hid f + n / 2 ^ k
    same k h = omega (arith, shr_mono k h)

-- of two finite values with no minus sign
le_bits : (f : Format) (m : ℕ) (e : ℤ) (n : ℕ) (d : ℤ) → le (fin false m e) (fin false n d) ≡ true → to_bits f (fin false m e) ≤ to_bits f (fin false n d)
le_bits f m e n d h =
    le_trans (le_of_eq (pattern_is f false m e))
    (le_trans (pattern_mono f (m * up e * 2 ^ low f / down e) (n * up d * 2 ^ low f / down d)
    (div_mono (m * up e * 2 ^ low f) (down e) (n * up d * 2 ^ low f) (down d) (down_pos e) (down_pos d)
    (le_trans (le_of_eq (mul_right_comm (m * up e) (2 ^ low f) (down d))) (le_trans (mul-le-mul_right (2 ^ low f) (le_cross m e n d h)) (le_of_eq (mul_right_comm (n * up d) (down e) (2 ^ low f)))))))
    (le_of_eq (sym (pattern_is f false n d))))

number : (s : Bool) (m : ℕ) (e : ℤ) → is_nan (fin s m e) ≡ false
unfolding is_nan
number s m e = refl

-- and back
bits_le : (f : Format) (m : ℕ) (e : ℤ) (n : ℕ) (d : ℤ) → T (fits f (fin false m e)) → T (fits f (fin false n d))
    → to_bits f (fin false m e) ≤ to_bits f (fin false n d) → le (fin false m e) (fin false n d) ≡ true
bits_le f m e n d F G h = go (which (le x y))
  where
    x : Float
    x = fin false m e

    y : Float
    y = fin false n d

    go : (le x y ≡ true) ⊎ (le x y ≡ false) → le x y ≡ true
    go (inl p) = p
    go (inr p) =
        let l : le y x ≡ true = lt-le y x (lt_is_not_le y x (number false n d) (number false m e) ∙ ap not p) in
        let e' : x ≡ y = same_pattern f x y F G (le_antisymm h (le_bits f n d m e l)) in
        subst (λ (z : Float). le x z ≡ true) e' (le_self x (number false m e))

from_zero : (m : ℕ) (e : ℤ) → le zero_f (fin false m e) ≡ true
from_zero m e = not_lt_le zero_f (fin false m e) zero_number (number false m e) (not-below m e)

-- ---- what is not at or below one value is at or above the next
no_nan_number : (x : Float) → is_nan x ≡ false → T (not (is_nan x))
no_nan_number x h = rw h tt

module _ (b : ℕ) (B : b < 2047 * 2 ^ 52) where
  own_pattern : to_bits binary64 (of_bits binary64 b) ≡ b
  own_pattern =
      let r = read_finite b B in
      to_bits-of_bits binary64 b (omega arith) (no_nan_number (of_bits binary64 b) (ap is_nan r.2 ∙ number false r.0 r.1))

above-next : (b : ℕ) (s : Float) → b + 1 < 2047 * 2 ^ 52 → Binary64 s → le zero_f s ≡ true → le s (of_bits binary64 b) ≡ false → le (of_bits binary64 (b + 1)) s ≡ true
above-next b nan B F z h = clash is-nan (le_right zero_f nan z)
above-next b (inf true) B F z h = clash z no_minus_infinity
above-next b (inf false) B F z h = let r = read_finite (b + 1) B in to_infinity (of_bits binary64 (b + 1)) (ap is_nan r.2 ∙ number false r.0 r.1)
above-next b (fin true zero d) B F z h = let r = read_finite b (omega arith) in clash (le_join (fin true 0 d) zero_f (of_bits binary64 b) (zero-least true d) (rw r.2 (from_zero r.0 r.1))) h
above-next b (fin true (suc n) d) B F z h = clash z (below-zero n d)
above-next b (fin false n d) B F z h = go (dec_le (to_bits binary64 s) b)
  where
    s : Float
    s = fin false n d

    B' : b < 2047 * 2 ^ 52
    B' = omega arith

    go : Dec (to_bits binary64 s ≤ b) → le (of_bits binary64 (b + 1)) s ≡ true
    go (yes l) =
        let r = read_finite b B' in
        let k : le s (of_bits binary64 b) ≡ true =
        rw r.2 (bits_le binary64 n d r.0 r.1 F (rw r.2 at (of_bits-fits binary64 b))
        (le_trans l (le_of_eq (sym (own_pattern b B') ∙ ap (to_bits binary64) r.2)))) in
        clash k h
    go (no l) =
        let r = read_finite (b + 1) B in
        let k : b + 1 ≤ to_bits binary64 s = omega arith in
        rw r.2 (bits_le binary64 r.0 r.1 n d (rw r.2 at (of_bits-fits binary64 (b + 1))) F (le_trans (le_of_eq (sym (ap (to_bits binary64) r.2) ∙ own_pattern (b + 1) B)) k))

-- ---- where the root of one value is at most t, and that of the next is not, the first value is t's limit
pub root-limit : (b : ℕ) (s t : Float) → b + 1 < 2047 * 2 ^ 52 → Binary64 s → le zero_f s ≡ true
    → le (sqrt_of (of_bits binary64 b)) t ≡ true → le (sqrt_of (of_bits binary64 (b + 1))) t ≡ false → le (sqrt_of s) t ≡ le s (of_bits binary64 b)
root-limit b s t B F z p q = go (which (le s lo)) (which (le (sqrt_of s) t))
  where
    lo : Float
    lo = of_bits binary64 b

    hi : Float
    hi = of_bits binary64 (b + 1)

    from_hi : le zero_f hi ≡ true
    from_hi = let r = read_finite (b + 1) B in rw r.2 (from_zero r.0 r.1)

    go : (le s lo ≡ true) ⊎ (le s lo ≡ false) → (le (sqrt_of s) t ≡ true) ⊎ (le (sqrt_of s) t ≡ false) → le (sqrt_of s) t ≡ le s lo
    go (inl h) k = le_join (sqrt_of s) (sqrt_of lo) t (root_monotone s lo F (of_bits-fits binary64 b) z h) p ∙ sym h
    go (inr h) (inr k) = k ∙ sym h
    go (inr h) (inl k) = clash (le_join (sqrt_of hi) (sqrt_of s) t (root_monotone hi s (of_bits-fits binary64 (b + 1)) F from_hi (above-next b s B F z h)) k) q
