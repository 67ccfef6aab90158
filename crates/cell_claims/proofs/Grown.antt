-- Of a binary64 value and one from 0 on, the rounded sum is not below the first.
-- Assumes nothing.
use Prim.Native.Nat.{ℕ, zero, suc, ◌+◌, ◌-◌, ◌*◌, ◌^◌, ◌≤◌, ◌<◌, zero-le}
use native.Mathlib.Nat.{le_trans, le_of_eq, lt_of_lt_of_le, lt_of_le_of_lt, mul-pos, mul-le-mul_right, lt_of_mul-lt-mul_right, mul-lt-mul_of_pos_right, mul_assoc, mul_comm, mul_right_comm, zero-mul}
use native.Mathlib.Omega.{arith}
use mathlib.Core.Path.{◌≡◌, refl, sym, ap, ◌∙◌, subst}
use mathlib.Core.Bool.{Bool, true, false, ◌&&◌, ◌||◌, false≢true}
use lib.Dec.{T, ltb, eqb, lit<}
use lib.Pow.{pow_pos}
use lib.IntN.{ℤ, pos}
use lib.Ieee.{Float, nan, inf, fin, binary64, up, down, round, sum, add, neg, le, fits}
use lib.Ieee.Bits.{is_true}
use lib.Ieee.Fits.{down_pos, round-fits}
use lib.Ieee.Exact.{round_exact}
use lib.Ieee.Order.{round_mono}
use borrow.Author.Tests.{ltb-false, eq-eqb}
use Rattle.basics.proofs.Bools.{by_test}
use Rattle.floats.specs.Rounded.{◌⊕◌, zero_f}
use Rattle.floats.specs.Tests.{finite}
use Rattle.floats.proofs.Held.{fits-held}
use Rattle.floats.proofs.Exact.{in_units}
use Rattle.floats.proofs.Unique.{value_unique}
use Rattle.floats.proofs.Order.{le_cross, le_join}
use Rattle.floats.proofs.Upto.{unsigned}
use Rattle.floats.proofs.Values.{neg-round}

-- ---- a value that binary64 holds is its own rounding
own : (s : Bool) (m : ℕ) (e : ℤ) → T (fits binary64 (fin s m e)) → round binary64 s (m * up e) (down e) ≡ fin s m e
own s zero e h =
    value_unique binary64 (round binary64 s (0 * up e) (down e)) (fin s 0 e) s (0 * up e) (down e) (down_pos e) (round-fits binary64 s (0 * up e) (down e)) h
    (round_exact binary64 s (0 * up e) (down e) 0 0 (down_pos e) (pow_pos 53) (pow_pos (1074 + 1024)) (ap (λ (z : ℕ). z * 2 ^ 1074) (zero-mul (up e)) ∙ zero-mul (2 ^ 1074) ∙ sym (zero-mul (down e))))
    (refl, refl)
own s (suc m) e h =
    let k = fits-held binary64 s m e h in
    let u = in_units 1074 (suc m) e k.deep in
    value_unique binary64 (round binary64 s (suc m * up e) (down e)) (fin s (suc m) e) s (suc m * up e) (down e) (down_pos e) (round-fits binary64 s (suc m * up e) (down e)) h
    (round_exact binary64 s (suc m * up e) (down e) (suc m) u.0 (down_pos e) k.digits (below_top (suc m * 2 ^ u.0) (suc m * up e) (down e) (down_pos e) u.1 k.bound) u.1)
    (refl, refl)
  where
    below_top : (q a d : ℕ) → 0 < d → a * 2 ^ 1074 ≡ q * d → a < 2 ^ 1024 * d → q < 2 ^ (1074 + 1024)
    below_top q a d D e h =
        lt_of_mul-lt-mul_right d
        (lt_of_le_of_lt (le_of_eq (sym e)) (lt_of_lt_of_le (mul-lt-mul_of_pos_right h (pow_pos 1074)) (le_of_eq (mul_right_comm (2 ^ 1024) d (2 ^ 1074)))))

-- ---- the other sign
-- y from 0 up to x, so -x up to -y
minus_first : (m : ℕ) (e : ℤ) (n : ℕ) (d : ℤ) → le (fin true m e) (fin false n d) ≡ true
unfolding le
minus_first m e n d = go (m * up e * down d) (n * up d * down e)
  where
    go : (a b : ℕ) → (ltb 0 (a + b) || (eqb a b && (false || eqb a 0))) ≡ true
    go a b = by_test (ltb 0 (a + b)) (λ t. rw t) (λ t. let h = ltb-false 0 (a + b) t in let p : a ≡ 0 = omega (arith, h) in let q : b ≡ 0 = omega (arith, h) in rw (t, p, q))

turned_le : (m : ℕ) (e : ℤ) (y : Float) → le zero_f y ≡ true → le y (fin false m e) ≡ true → le (fin true m e) (neg y) ≡ true
unfolding neg le
turned_le m e nan z h = absurd (false≢true h)
turned_le m e (inf true) z h = absurd (false≢true z)
turned_le m e (inf false) z h = absurd (false≢true h)
turned_le m e (fin true n d) z h = minus_first m e n d
turned_le m e (fin false n d) z h = go (m * up e * down d) (n * up d * down e) (le_cross n d m e h)
  where
    go : (a b : ℕ) → b ≤ a → (ltb b a || (eqb a b && (true || eqb a 0))) ≡ true
    go a b k = by_test (ltb b a) (λ t. rw t) (λ t. let q : a ≡ b = omega (arith, ltb-false b a t, k) in rw (t, eq-eqb a b q))

-- a rounded fraction without a minus sign is from 0 on
round_from_zero : (a c : ℕ) → 0 < c → le zero_f (round binary64 false a c) ≡ true
unfolding round
round_from_zero a c C = is_true (le zero_f (round binary64 false a c)) (round_mono binary64 0 1 a c (lit< tt) C (subst (λ (z : ℕ). z ≤ a * 1) (sym (zero-mul c)) zero-le))

-- ---- the sum
unsigned_fits : (m : ℕ) (e : ℤ) → T (fits binary64 (fin true m e)) → T (fits binary64 (fin false m e))
unfolding fits
unsigned_fits zero e h = h
unsigned_fits (suc m) e h = h

same_rate : (a b c : ℕ) → a * (b * c) ≡ a * c * b
same_rate a b c = ap (λ (z : ℕ). a * z) (mul_comm b c) ∙ sym (mul_assoc a c b)

pub grown : (a w : Float) → T (fits binary64 a) → finite a ≡ true → finite w ≡ true → unsigned w ≡ true → le a (a ⊕ w) ≡ true
unfolding add sum finite
grown nan w h f g u = absurd (false≢true f)
grown (inf s) w h f g u = absurd (false≢true f)
grown (fin s m e) nan h f g u = absurd (false≢true g)
grown (fin s m e) (inf t) h f g u = absurd (false≢true g)
grown (fin s m e) (fin true n d) h f g u = absurd (false≢true u)
grown (fin false m e) (fin false n d) h f g u =
    let A = m * up e * down d in
    let B = n * up d * down e in
    subst (λ (z : Float). le z (round binary64 false (A + B) (down e * down d)) ≡ true) (own false m e h)
    (is_true (le (round binary64 false (m * up e) (down e)) (round binary64 false (A + B) (down e * down d)))
    (round_mono binary64 (m * up e) (down e) (A + B) (down e * down d) (down_pos e) (mul-pos (down_pos e) (down_pos d))
    (le_trans (le_of_eq (same_rate (m * up e) (down e) (down d))) (mul-le-mul_right (down e) (omega arith)))))
grown (fin true m e) (fin false n d) h f g u =
    let A = m * up e * down d in
    let B = n * up d * down e in
    let C = down e * down d in
    let P = mul-pos (down_pos e) (down_pos d) in
    let up-from-zero : (a : ℕ) → le (fin true m e) (round binary64 false a C) ≡ true =
    λ a. le_join (fin true m e) zero_f (round binary64 false a C) (minus_first m e 0 (pos 0)) (round_from_zero a C P) in
    by_test (ltb A B)
    (λ l. rw l (up-from-zero (B - A)))
    (λ l.
    by_test (ltb B A)
    (λ k.
    rw (l, k, ← neg-round binary64 (A - B) C)
    (turned_le m e (round binary64 false (A - B) C) (round_from_zero (A - B) C P)
    (subst (λ (z : Float). le (round binary64 false (A - B) C) z ≡ true) (own false m e (unsigned_fits m e h))
    (is_true (le (round binary64 false (A - B) C) (round binary64 false (m * up e) (down e)))
    (round_mono binary64 (A - B) C (m * up e) (down e) P (down_pos e)
    (le_trans (mul-le-mul_right (down e) (omega arith)) (le_of_eq (sym (same_rate (m * up e) (down e) (down d))))))))))
    (λ k. rw (l, k) (up-from-zero (A - B))))
