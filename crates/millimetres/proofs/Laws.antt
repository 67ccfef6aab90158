-- The value of a number of millimetres within the limit: the exact thousandth of it, rounded once. It is finite and within 2^20, it tells the number,
-- and it passes the test of a decimal; what passes the test is such a value.
-- Assumes nothing.
use mathlib.Core.Path.{◌≡◌, refl, sym, ap, ◌∙◌, subst}
use Prim.Native.Nat.{ℕ, zero, suc, ◌+◌, ◌*◌, ◌^◌, ◌≤◌, ◌<◌}
use native.Mathlib.Nat.{lt_irrefl, zero-mul, mul-one, mul_comm, mul-pos, mul-mul-mul_comm, zero-lt-suc}
use native.Mathlib.Omega.{arith}
use mathlib.Core.Bool.{Bool, true, false, not, cond, beq, ◌&&◌, true≢false}
use mathlib.Core.Option.{none, some}
use lib.Dec.{T, leb, lit<, lit≤, eqb-suc-zero}
use lib.IntN.{ℤ, pos, negsuc, nat_abs}
use lib.Ieee.{Float, nan, inf, fin, binary64, up, down, round, neg, add, mul, div, lt, of_int, to_unsigned, is_nan}
use lib.Ieee.Back.{round_whole}
use lib.Ieee.Exact.{HasValue}
use lib.Ieee.Fits.{up_pos, down_pos, div-fits}
use lib.Ieee.Positive.{positive}
use lib.Ieee.Scale.{round_same}
use borrow.Author.Tests.{lt-ltb, le-ltb, leb-true, le-leb}
use Rattle.basics.proofs.Bools.{both, and_left, and_right}
use Rattle.floats.specs.Rounded.{◌⊕◌, ◌⊗◌, ◌⊘◌, of_nat, truncate, zero_f, pow2, pow2⁻}
use Rattle.floats.specs.Tests.{Binary64, abs_of, finite, within, same_bits}
use Rattle.floats.proofs.Unique.{same_bits-same, same_bits_self}
use Rattle.floats.proofs.Upto.{Upto, round-upto, upto-finite, upto-within}
use Rattle.floats.proofs.Values.{neg-round}
use Rattle.millimetres.specs.Millimetres.{limit, signed, value_of, nearest_to, is_decimal, decimal_of}
use Rattle.millimetres.specs.Claims.{Rounds}
use Rattle.millimetres.proofs.Between.{thousandth_positive, thousand_value, counted}

-- ---- a quotient by a value above zero, by any fractions that the two equal
cross : (m a n b c d e i : ℕ) → m * c ≡ a * e → n * d ≡ b * i → m * i * (b * c) ≡ a * d * (n * e)
cross m a n b c d e i p q =
    ap (λ (z : ℕ). m * i * z) (mul_comm b c)
    ∙ mul-mul-mul_comm m i c b
    ∙ ap (λ (z : ℕ). z * (i * b)) p
    ∙ ap (λ (z : ℕ). a * e * z) (mul_comm i b ∙ sym q ∙ mul_comm n d)
    ∙ mul-mul-mul_comm a e d n
    ∙ ap (λ (z : ℕ). a * d * z) (mul_comm e n)

unlike_plus : (s : Bool) → not (beq s false) ≡ s
unlike_plus true = refl
unlike_plus false = refl

quotient : (s : Bool) (x y : Float) (a c b d : ℕ) → 0 < c → 0 < b → HasValue x s a c → HasValue y false b d → x ⊘ y ≡ round binary64 s (a * d) (b * c)
unfolding div
quotient s nan y a c b d C B p q = absurd p
quotient s (inf t) y a c b d C B p q = absurd p
quotient s (fin t m e) nan a c b d C B p q = absurd q
quotient s (fin t m e) (inf u) a c b d C B p q = absurd q
quotient s (fin t m e) (fin true n i) a c b d C B p q = absurd (true≢false q.0)
quotient s (fin t m e) (fin false zero i) a c b d C B p q = absurd (lt_irrefl 0 (subst (λ (z : ℕ). 0 < z) (sym q.1 ∙ ap (λ (z : ℕ). z * d) (zero-mul (up i)) ∙ zero-mul d) (mul-pos B (down_pos i))))
quotient s (fin t m e) (fin false (suc n) i) a c b d C B p q =
    rw (eqb-suc-zero n, unlike_plus t, p.0)
    (round_same binary64 s (m * up e * down i) (suc n * up i * down e) (a * d) (b * c) (mul-pos (mul-pos (zero-lt-suc n) (up_pos i)) (down_pos e)) (mul-pos B C)
    (cross (m * up e) a (suc n * up i) b c d (down e) (down i) p.1 q.1))

by_thousand : (s : Bool) (n : ℕ) → n ≤ limit → round binary64 s n 1 ⊘ of_nat 1000 ≡ round binary64 s n 1000
by_thousand s n h =
    quotient s (round binary64 s n 1) (of_nat 1000) n 1 1000 1 (lit< tt) (lit< tt) (round_whole binary64 s n (omega arith)) thousand_value
    ∙ ap (λ (z : ℕ). round binary64 s z 1000) (mul-one n)

pub rounded-once : (m : ℤ) → nat_abs m ≤ limit → Rounds m (value_of m)
unfolding value_of of_int
rounded-once (pos n) h = by_thousand false n h
rounded-once (negsuc n) h = by_thousand true (suc n) h

-- ---- its size
value-upto : (m : ℤ) → nat_abs m ≤ limit → Upto (2 ^ 20) (value_of m)
value-upto (pos n) h = rw (rounded-once (pos n) h) (round-upto false n 1000 (2 ^ 20) (lit< tt) (lit≤ tt) h)
value-upto (negsuc n) h = rw (rounded-once (negsuc n) h) (round-upto true (suc n) 1000 (2 ^ 20) (lit< tt) (lit≤ tt) h)

pub value-within : (m : ℤ) → nat_abs m ≤ limit → within (pow2 20) (value_of m) ≡ true
value-within m h = upto-within 20 (value_of m) (value-upto m h)

pub value-finite : (m : ℤ) → nat_abs m ≤ limit → finite (value_of m) ≡ true
value-finite m h = upto-finite (2 ^ 20) (value_of m) (value-upto m h)

pub value-held : (m : ℤ) → Binary64 (value_of m)
unfolding value_of
value-held m = div-fits binary64 (of_int binary64 m) (of_nat 1000)

-- ---- it tells the number
abs_positive : (x : Float) → T (positive x) → abs_of x ≡ x
unfolding abs_of
abs_positive nan p = refl
abs_positive (inf s) p = absurd p
abs_positive (fin true m e) p = absurd p
abs_positive (fin false m e) p = refl

abs_neg : (x : Float) → abs_of (neg x) ≡ abs_of x
unfolding abs_of neg
abs_neg nan = refl
abs_neg (inf s) = refl
abs_neg (fin s m e) = refl

-- only a negative one is below zero
not-below : (x : Float) → T (positive x) → lt x zero_f ≡ false
unfolding lt
not-below nan p = absurd p
not-below (inf s) p = absurd p
not-below (fin true m e) p = absurd p
not-below (fin false m e) p = le-ltb (m * up e * 1) (0 * 1 * down e) (rw (zero-mul (down e)) (omega arith))

below : (x : Float) → T (positive x) → lt (neg x) zero_f ≡ true
unfolding lt neg
below nan p = absurd p
below (inf s) p = absurd p
below (fin true m e) p = absurd p
below (fin false zero e) p = absurd p
below (fin false (suc m) e) p = lt-ltb 0 (suc m * up e * 1 + 0 * 1 * down e) (omega (arith, mul-pos (zero-lt-suc m) (up_pos e)))

nearest-is : (x y : Float) (minus : Bool) (n : ℕ) → abs_of x ≡ y → lt x zero_f ≡ minus → truncate (y ⊗ of_nat 1000 ⊕ pow2⁻ 1) ≡ n → nearest_to x ≡ signed minus n
unfolding nearest_to
nearest-is x y minus n p q r =
    ap (λ (t : Bool). signed t (truncate (abs_of x ⊗ of_nat 1000 ⊕ pow2⁻ 1))) q
    ∙ ap (λ (z : Float). signed minus (truncate (z ⊗ of_nat 1000 ⊕ pow2⁻ 1))) p ∙ ap (signed minus) r

nearest_zero : nearest_to (value_of (pos 0)) ≡ pos 0
unfolding nearest_to value_of of_int div mul add to_unsigned
nearest_zero = refl

nearest-value : (m : ℤ) → nat_abs m ≤ limit → nearest_to (value_of m) ≡ m
nearest-value (pos zero) h = nearest_zero
nearest-value (pos (suc n)) h =
    let p = thousandth_positive (suc n) (zero-lt-suc n) h in
    let x = round binary64 false (suc n) 1000 in
    rw (rounded-once (pos (suc n)) h) (nearest-is x x false (suc n) (abs_positive x p) (not-below x p) (counted (suc n) (zero-lt-suc n) h))
nearest-value (negsuc n) h =
    let p = thousandth_positive (suc n) (zero-lt-suc n) h in
    let x = round binary64 false (suc n) 1000 in
    rw (rounded-once (negsuc n) h, ← neg-round binary64 (suc n) 1000)
    (nearest-is (neg x) x true (suc n) (abs_neg x ∙ abs_positive x p) (below x p) (counted (suc n) (zero-lt-suc n) h))

-- ---- the test
number : (x : Float) → finite x ≡ true → is_nan x ≡ false
unfolding finite is_nan
number nan h = sym h
number (inf s) h = refl
number (fin s m e) h = refl

test-is : (x : Float) → is_decimal x ≡ (leb (nat_abs (nearest_to x)) limit && same_bits (value_of (nearest_to x)) x)
unfolding is_decimal
test-is x = refl

pub value-decimal : (m : ℤ) → nat_abs m ≤ limit → (is_decimal (value_of m) ≡ true) × (nearest_to (value_of m) ≡ m)
value-decimal m h = (test-is (value_of m) ∙ rw (nearest-value m h) (both (le-leb (nat_abs m) limit h) (same_bits_self (value_of m) (number (value_of m) (value-finite m h)))), nearest-value m h)

pub decimal-value : (x : Float) → is_decimal x ≡ true → Binary64 x → (x ≡ value_of (nearest_to x)) × (nat_abs (nearest_to x) ≤ limit)
decimal-value x h b =
    let m = nearest_to x in
    let t = sym (test-is x) ∙ h in (
      sym (same_bits-same (value_of m) x (value-held m) b (and_right (leb (nat_abs m) limit) (same_bits (value_of m) x) t)),
      leb-true (nat_abs m) limit (and_left (leb (nat_abs m) limit) (same_bits (value_of m) x) t),
    )

-- ---- and its answer
pub decimal-some : (x : Float) → is_decimal x ≡ true → decimal_of x ≡ some (nearest_to x)
unfolding decimal_of
decimal-some x h = ap (λ (b : Bool). cond b (some (nearest_to x)) none) h

pub decimal-none : (x : Float) → is_decimal x ≡ false → decimal_of x ≡ none
unfolding decimal_of
decimal-none x h = ap (λ (b : Bool). cond b (some (nearest_to x)) none) h
