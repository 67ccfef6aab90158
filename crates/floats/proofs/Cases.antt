-- The values by the two tests of `sqrt`, x > 0.0 and x == 0.0. Assumes nothing.
use Rattle.std.proofs.Common.{◌≡◌, ℕ, zero, suc, ◌+◌, ◌*◌, ◌/◌, ◌%◌, ◌^◌, ◌<◌, ◌≤◌, Bool, true, false, cond, not, ◌&&◌, ◌||◌, T, eqb, ltb, pos, sym, refl, ap, ◌∙◌, subst, true≢false, lt_irrefl, mod-eq_of_lt, zero-lt-suc, mul-pos, zero-mul, mul-one, arith, eqb→eq, le-ltb, lt-ltb, le-leb}
use native.Mathlib.Decide.{dec_lt}
use mathlib.Core.Bool.{beq, false≢true}
use lib.Ieee.{Float, nan, inf, fin, binary64, fits, up, down, odd, lt, eq, div, nan_bits, of_fields, of_bits, to_bits}
use lib.Ieee.Bits.{of_bits-to_bits, nan_bits_above}
use lib.Ieee.Fits.{up_pos, and_l}
use Rattle.floats.specs.Sqrt.{sqrt_of}
use Rattle.floats.proofs.Reading.{fields}

abbrev pub zero_of : Float
zero_of = fin false 0 (pos 0)

-- ---- x > 0.0
not_above_itself : lt zero_of zero_of ≡ false
unfolding lt
not_above_itself = refl

pub read_zero : of_bits binary64 0 ≡ zero_of
unfolding of_bits
read_zero = refl

pub pattern_pos : (x : Float) → T (fits binary64 x) → lt zero_of x ≡ true → 0 < to_bits binary64 x
pattern_pos x F h = go (to_bits binary64 x) refl
  where
    go : (b : ℕ) → to_bits binary64 x ≡ b → 0 < b
    go zero e = absurd (false≢true (sym not_above_itself ∙ ap (λ (y : Float). lt zero_of y) (sym read_zero ∙ ap (of_bits binary64) (sym e) ∙ of_bits-to_bits binary64 x F) ∙ h))
    go (suc b) e = zero-lt-suc b

-- below an infinity's pattern there is no NaN's
pub finite_no_nan : (r : ℕ) → r < 2047 * 2 ^ 52 → T (not (nan_bits binary64 r))
finite_no_nan r h = subst (λ (b : Bool). T (not b)) (sym (nan_bits_above binary64 r ∙ ap (λ (y : ℕ). ltb (2047 * 2 ^ 52) y) (mod-eq_of_lt small) ∙ le-ltb (2047 * 2 ^ 52) r (omega arith))) tt
  where
    small : r < 2 ^ 63
    small = omega arith

-- from an infinity's pattern on: +infinity is the only value above zero
odd_negative : (q k l : ℕ) → lt zero_of (odd 53 true q k l) ≡ false
unfolding odd lt
odd_negative zero k l = refl
odd_negative (suc q) k l = refl

negative : (x t : ℕ) → lt zero_of (of_fields binary64 true x t) ≡ false
unfolding of_fields lt
negative zero t = odd_negative t 0 1074
negative (suc x) t = go (eqb (suc x) 2047) (eqb t 0)
  where
    go : (a b : Bool) → lt zero_of (cond a (cond b (inf true) nan) (odd 53 true (2 ^ 52 + t) x 1074)) ≡ false
    go true true = refl
    go true false = refl
    go false b = odd_negative (2 ^ 52 + t) x 1074

read_negative : (b : ℕ) → 2 ^ 63 ≤ b → of_bits binary64 b ≡ of_fields binary64 true (b % 2 ^ 63 / 2 ^ 52) (b % 2 ^ 52)
unfolding of_bits
read_negative b h = ap (λ (s : Bool). of_fields binary64 s (b % 2 ^ 63 / 2 ^ 52) (b % 2 ^ 52)) (le-leb (2 ^ 63) b h)

field_top : (t : ℕ) → of_fields binary64 false 2047 t ≡ cond (eqb t 0) (inf false) nan
unfolding of_fields
field_top t = refl

nan_not_above : lt zero_of nan ≡ false
unfolding lt
nan_not_above = refl

infinite : (t : ℕ) → lt zero_of (of_fields binary64 false 2047 t) ≡ true → of_fields binary64 false 2047 t ≡ inf false
infinite t h = go (eqb t 0) (ap (λ (y : Float). lt zero_of y) (sym (field_top t)) ∙ h) (field_top t)
  where
    go : (b : Bool) → lt zero_of (cond b (inf false) nan) ≡ true → of_fields binary64 false 2047 t ≡ cond b (inf false) nan → of_fields binary64 false 2047 t ≡ inf false
    go true k e = e
    go false k e = absurd (false≢true (sym nan_not_above ∙ k))

pub from_infinity : (b : ℕ) → 2047 * 2 ^ 52 ≤ b → lt zero_of (of_bits binary64 b) ≡ true → of_bits binary64 b ≡ inf false
from_infinity b B h = go (dec_lt b (2 ^ 63))
  where
    go : Dec (b < 2 ^ 63) → of_bits binary64 b ≡ inf false
    go (yes l) =
        let e = fields b 2047 (b % 2 ^ 52) (omega arith) (omega arith) (omega arith) in
        e ∙ infinite (b % 2 ^ 52) (ap (λ (y : Float). lt zero_of y) (sym e) ∙ h)
    go (no f) =
        let g : 2 ^ 63 ≤ b = omega arith in
        absurd (false≢true (sym (negative (b % 2 ^ 63 / 2 ^ 52) (b % 2 ^ 52)) ∙ ap (λ (y : Float). lt zero_of y) (sym (read_negative b g)) ∙ h))

pub root_of_infinity : (x : Float) → x ≡ inf false → x ≡ sqrt_of x
root_of_infinity x e = e ∙ at ∙ ap sqrt_of (sym e)
  where
    at : inf false ≡ sqrt_of (inf false)
    at = unfold sqrt_of in refl

pub root_from_infinity : (x : Float) → T (fits binary64 x) → lt zero_of x ≡ true → 2047 * 2 ^ 52 ≤ to_bits binary64 x → x ≡ sqrt_of x
root_from_infinity x F h b =
    let back = of_bits-to_bits binary64 x F in
    root_of_infinity x (sym back ∙ from_infinity (to_bits binary64 x) b (ap (lt zero_of) back ∙ h))

-- ---- x == 0.0
pub positive_product : (m : ℕ) (a : ℕ) → 0 < a → suc m * a * 1 ≡ 0 → ⊥
positive_product m a A h = lt_irrefl 0 (subst (λ (x : ℕ). 0 < x) (sym (mul-one (suc m * a)) ∙ h) (mul-pos (zero-lt-suc m) A))

pub root_of-zero : (x : Float) → eq x zero_of ≡ true → x ≡ sqrt_of x
unfolding eq sqrt_of
root_of-zero nan h = refl
root_of-zero (inf s) h = absurd (false≢true h)
root_of-zero (fin s zero e) h = refl
root_of-zero (fin s (suc m) e) h =
    absurd (positive_product m (up e) (up_pos e)
    (eqb→eq (suc m * up e * 1) (0 * 1 * down e) (and_l (eqb (suc m * up e * 1) (0 * 1 * down e)) (beq s false || eqb (suc m * up e * 1) 0) (subst T (sym h) tt)) ∙ zero-mul (down e)))

-- ---- neither
pub zero_equal : (s b : Bool) (x y : ℕ) → x ≡ 0 → y ≡ 0 → (eqb x y && (b || eqb x 0)) ≡ true
zero_equal s b x y p q = ap (λ (z : ℕ). eqb z y && (b || eqb z 0)) p ∙ ap (λ (z : ℕ). eqb 0 z && (b || true)) q ∙ or-true b
  where
    or-true : (b : Bool) → (b || true) ≡ true
    or-true true = refl
    or-true false = refl

pub no_root : (x : Float) → lt zero_of x ≡ false → eq x zero_of ≡ false → nan ≡ sqrt_of x
unfolding lt eq sqrt_of
no_root nan h k = refl
no_root (inf true) h k = refl
no_root (inf false) h k = absurd (true≢false h)
no_root (fin s zero e) h k =
    absurd (true≢false (sym (zero_equal s (beq s false) (0 * up e * 1) (0 * 1 * down e) (ap (λ (x : ℕ). x * 1) (zero-mul (up e))) (zero-mul (down e))) ∙ k))
no_root (fin true (suc m) e) h k = refl
no_root (fin false (suc m) e) h k =
    absurd (true≢false (sym
    (lt-ltb (0 * 1 * down e) (suc m * up e * 1)
    (subst (λ (x : ℕ). x < suc m * up e * 1) (sym (zero-mul (down e))) (mul-pos (mul-pos (zero-lt-suc m) (up_pos e)) (zero-lt-suc 0))))
    ∙ h))

-- ---- 0.0 / 0.0
pub made-nan : div binary64 (of_bits binary64 0) (of_bits binary64 0) ≡ nan
unfolding div of_bits
made-nan = refl
