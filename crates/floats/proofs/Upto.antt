-- How large a result can be: `Upto n x` says that x is finite and at most n in size, for a whole number n. A rounded sum, difference, product or quotient of values
-- with such bounds has the bound that the exact one has, since rounding keeps the order and changes no whole number up to 2 ^ 53.
-- Assumes nothing.
use Rattle.std.proofs.Common.{◌≡◌, ℕ, zero, suc, ◌+◌, ◌-◌, ◌*◌, ◌/◌, ◌^◌, ◌<◌, ◌≤◌, Bool, true, false, cond, not, ◌&&◌, ◌||◌, T, eqb, ltb, ◌⊎◌, sym, refl, ap, ◌∙◌, subst, inl, inr, true≢false, zero-le, le_trans, le_of_eq, mul-le-mul_right, zero-lt-suc, mul_assoc, mul_comm, add-mul, mul-le-mul, mul-pos, one-mul, zero-mul, mul-one, mul_right_comm, not-le_of_lt, le_of_mul-le-mul_right, arith, lit<, lit≤, pow_pos, ltb-false, ltb-true, le-ltb, lt-ltb, eqb-true}
use native.Mathlib.Nat.{mul-mul-mul_comm, div-le_of_le-mul, min-le_left}
use mathlib.Core.Bool.{beq, not-not, false≢true}
use lib.Dec.{eqb-suc-zero}
use lib.Ieee.{Float, nan, inf, fin, binary64, up, down, odd, units, round, sum, add, sub, neg, mul, div, lt, le, below, of_int, to_unsigned}
use lib.Ieee.Bits.{is_true}
use lib.Ieee.Exact.{HasValue, units_val}
use lib.Ieee.Back.{round_whole}
use lib.Ieee.Fits.{up_pos, down_pos, round_is}
use lib.Ieee.Order.{transfer, le_of_values, round_mono, kept, drop}
use lib.Ieee.Scale.{grid, overflow, round_val}
use Rattle.basics.proofs.Bools.{by_test, and_left, or_either}
use Rattle.floats.specs.Rounded.{◌⊕◌, ◌⊖◌, ◌⊗◌, ◌⊘◌, of_nat, truncate, zero_f, pow2}
use Rattle.floats.specs.Tests.{finite, within, max_of}
use Rattle.floats.proofs.Choice.{max_either}

abbrev pub Upto : ℕ → Float → Type 0
Upto n nan = ⊥
Upto n (inf s) = ⊥
Upto n (fin s m e) = m * up e ≤ n * down e

pub upto-finite : (n : ℕ) (x : Float) → Upto n x → finite x ≡ true
unfolding finite
upto-finite n nan h = absurd h
upto-finite n (inf s) h = absurd h
upto-finite n (fin s m e) h = refl

pub upto_more : (a b : ℕ) (x : Float) → a ≤ b → Upto a x → Upto b x
upto_more a b nan k h = h
upto_more a b (inf s) k h = h
upto_more a b (fin s m e) k h = le_trans h (mul-le-mul_right (down e) k)

-- ---- the test of a magnitude against 2 ^ k
at_most : (a b : ℕ) (t : Bool) → (ltb a b || (eqb a b && t)) ≡ true → a ≤ b
at_most a b t h = go (or_either (ltb a b) (eqb a b && t) h)
  where
    go : (ltb a b ≡ true) ⊎ ((eqb a b && t) ≡ true) → a ≤ b
    go (inl l) = omega (arith, ltb-true a b l)
    go (inr l) = omega (arith, eqb-true a b (and_left (eqb a b) t l))

pub within-upto : (k : ℕ) (x : Float) → within (pow2 k) x ≡ true → Upto (2 ^ k) x
unfolding within
within-upto k nan h = false≢true h
within-upto k (inf s) h = false≢true h
within-upto k (fin s m e) h = bare (m * up e) (2 ^ k) (down e) (at_most (m * up e * 1) (1 * 2 ^ k * down e) (beq false false || eqb (m * up e * 1) 0) h)
  where
    bare : (a b d : ℕ) → a * 1 ≤ 1 * b * d → a ≤ b * d
    bare a b d h = rw (mul-one, one-mul) at h

pub upto-within : (k : ℕ) (x : Float) → Upto (2 ^ k) x → within (pow2 k) x ≡ true
unfolding within
upto-within k nan h = absurd h
upto-within k (inf s) h = absurd h
upto-within k (fin s m e) h =
    is_true (le (fin false m e) (pow2 k))
    (le_of_values (fin false m e) (pow2 k) (m * up e) (down e) (2 ^ k) 1 (down_pos e) (lit< tt) (refl, refl)
    (refl, ap (λ (z : ℕ). z * 1) (one-mul (2 ^ k))) (subst (λ (z : ℕ). z ≤ 2 ^ k * down e) (sym (mul-one (m * up e))) h))

-- ---- rounding
le→values : (x y : Float) (a c b d : ℕ) → HasValue x false a c → HasValue y false b d → T (le x y) → a * d ≤ b * c
unfolding le
le→values nan y a c b d p q h = absurd p
le→values (inf s) y a c b d p q h = absurd p
le→values (fin true m e) y a c b d p q h = absurd (true≢false p.0)
le→values (fin false m e) nan a c b d p q h = absurd q
le→values (fin false m e) (inf t) a c b d p q h = absurd q
le→values (fin false m e) (fin true n i) a c b d p q h = absurd (true≢false q.0)
le→values (fin false m e) (fin false n i) a c b d p q h =
    transfer a b c d (m * up e) (n * up i) (down e) (down i) (down_pos e) (down_pos i) (sym p.1) (sym q.1)
    (at_most (m * up e * down i) (n * up i * down e) true (is_true (ltb (m * up e * down i) (n * up i * down e) || (eqb (m * up e * down i) (n * up i * down e) && true)) h))

-- an infinity is above every value
no_infinity : (y : Float) (b d : ℕ) → HasValue y false b d → T (le (inf false) y) → ⊥
unfolding le
no_infinity nan b d q h = q
no_infinity (inf t) b d q h = q
no_infinity (fin t n i) b d q h = h

round_overflow : (s : Bool) (a c : ℕ) → overflow binary64 ≤ grid binary64 a c → round binary64 s a c ≡ inf s
unfolding units
round_overflow s a c h = round_is binary64 s a c ∙ rw (le-ltb (grid binary64 a c) (overflow binary64) h)

-- the grid's number of a fraction that is at most n
grid-upto : (num den n : ℕ) → 0 < den → n ≤ 2 ^ 53 → num ≤ n * den → (grid binary64 num den < overflow binary64) × (grid binary64 num den ≤ n * 2 ^ 1074)
grid-upto num den n D N h =
    let g = grid binary64 num den in
    let r = round_mono binary64 num den n 1 D (lit< tt) (subst (λ (z : ℕ). z ≤ n * den) (sym (mul-one num)) h) in
    by_test (ltb g (overflow binary64))
    (λ t.
    let l = ltb-true g (overflow binary64) t in (
      l,
      subst (λ (z : ℕ). z ≤ n * 2 ^ 1074) (mul-one g)
          (le→values (round binary64 false num den) (round binary64 false n 1) g (2 ^ 1074) n 1 (round_val binary64 num den l)
          (round_whole binary64 false n N) r),
    ))
    (λ t. absurd (no_infinity (round binary64 false n 1) n 1 (round_whole binary64 false n N)
    (subst (λ (z : Float). T (le z (round binary64 false n 1))) (round_overflow false num den (ltb-false g (overflow binary64) t)) r)))

value-upto : (x : Float) (s : Bool) (g n : ℕ) → g ≤ n * 2 ^ 1074 → HasValue x s g (2 ^ 1074) → Upto n x
value-upto nan s g n h v = v
value-upto (inf t) s g n h v = v
value-upto (fin t m e) s g n h v =
    le_of_mul-le-mul_right (le_trans (le_of_eq v.1) (le_trans (mul-le-mul_right (down e) h) (le_of_eq (mul_right_comm n (2 ^ 1074) (down e))))) (pow_pos 1074)

pub round-upto : (s : Bool) (num den n : ℕ) → 0 < den → n ≤ 2 ^ 53 → num ≤ n * den → Upto n (round binary64 s num den)
round-upto s num den n D N h =
    let g = grid-upto num den n D N h in
    subst (Upto n) (sym (round_is binary64 s num den))
    (value-upto (units binary64 s (kept 53 (num * 2 ^ 1074) den) (drop 53 (num * 2 ^ 1074) den)) s (grid binary64 num den) n g.1
    (units_val binary64 s (kept 53 (num * 2 ^ 1074) den) (drop 53 (num * 2 ^ 1074) den) g.0))

-- ---- the operations
module _ (a b : ℕ) (N : a + b ≤ 2 ^ 53) where
  sums : (A B x : ℕ) → A ≤ a * x → B ≤ b * x → A + B ≤ (a + b) * x
  sums A B x h k = omega (arith, add-mul a b x)

  sum_upto : (s : Bool) (A : ℕ) (t : Bool) (B C : ℕ) → 0 < C → A ≤ a * C → B ≤ b * C → Upto (a + b) (sum binary64 s A t B C)
  unfolding sum
  sum_upto s A t B C P h k =
      let all = sums A B C h k in
      by_test (beq s t)
      (λ e. rw e (round-upto s (A + B) C (a + b) P N all))
      (λ e. rw e (by_test (ltb A B)
      (λ l. rw l (round-upto t (B - A) C (a + b) P N (omega arith)))
      (λ l. rw l (round-upto (s && ltb B A) (A - B) C (a + b) P N (omega arith)))))

  pub add-upto : (x y : Float) → Upto a x → Upto b y → Upto (a + b) (x ⊕ y)
  unfolding add
  add-upto nan y h k = h
  add-upto (inf s) y h k = absurd h
  add-upto (fin s m e) nan h k = k
  add-upto (fin s m e) (inf t) h k = absurd k
  add-upto (fin s m e) (fin t n d) h k =
      sum_upto s (m * up e * down d) t (n * up d * down e) (down e * down d) (mul-pos (down_pos e) (down_pos d))
      (le_trans (mul-le-mul_right (down d) h) (le_of_eq (mul_assoc a (down e) (down d))))
      (le_trans (mul-le-mul_right (down e) k) (le_of_eq (mul_assoc b (down d) (down e) ∙ ap (λ (z : ℕ). b * z) (mul_comm (down d) (down e)))))

  pub sub-upto : (x y : Float) → Upto a x → Upto b y → Upto (a + b) (x ⊖ y)
  unfolding sub neg
  sub-upto x y h k = add-upto x (neg y) h (turned y k)
    where
      turned : (y : Float) → Upto b y → Upto b (neg y)
      turned nan k = k
      turned (inf t) k = k
      turned (fin t n d) k = k

pub mul-upto : (a b : ℕ) → a * b ≤ 2 ^ 53 → (x y : Float) → Upto a x → Upto b y → Upto (a * b) (x ⊗ y)
unfolding mul
mul-upto a b N nan y h k = h
mul-upto a b N (inf s) y h k = absurd h
mul-upto a b N (fin s m e) nan h k = k
mul-upto a b N (fin s m e) (inf t) h k = absurd k
mul-upto a b N (fin s m e) (fin t n d) h k =
    round-upto (not (beq s t)) (m * up e * (n * up d)) (down e * down d) (a * b) (mul-pos (down_pos e) (down_pos d)) N
    (le_trans (mul-le-mul h k) (le_of_eq (mul-mul-mul_comm a (down e) b (down d))))

-- by a value of 1 at least
abbrev pub From1 : Float → Type 0
From1 nan = ⊥
From1 (inf s) = ⊥
From1 (fin s m e) = down e ≤ m * up e

pub div-upto : (a : ℕ) → a ≤ 2 ^ 53 → (x y : Float) → Upto a x → From1 y → Upto a (x ⊘ y)
unfolding div
div-upto a N nan y h k = h
div-upto a N (inf s) y h k = absurd h
div-upto a N (fin s m e) nan h k = k
div-upto a N (fin s m e) (inf t) h k = absurd k
div-upto a N (fin s m e) (fin t zero d) h k = absurd (not-le_of_lt (down_pos d) (subst (λ (z : ℕ). down d ≤ z) (zero-mul (up d)) k))
div-upto a N (fin s m e) (fin t (suc n) d) h k =
    rw (eqb-suc-zero n) (round-upto (not (beq s t)) (m * up e * down d) (suc n * up d * down e) a (mul-pos (mul-pos (zero-lt-suc n) (up_pos d)) (down_pos e)) N
    (le_trans (mul-le-mul h k) (le_of_eq (mul_assoc a (down e) (suc n * up d) ∙ ap (λ (z : ℕ). a * z) (mul_comm (down e) (suc n * up d))))))

-- ---- whole numbers, and the larger of two
nat_value : (n : ℕ) → n ≤ 2 ^ 53 → HasValue (of_nat n) false n 1
unfolding of_int
nat_value n N = round_whole binary64 false n N

value-whole : (x : Float) (n : ℕ) → HasValue x false n 1 → Upto n x
value-whole nan n v = v
value-whole (inf t) n v = v
value-whole (fin t m e) n v = le_of_eq (sym (mul-one (m * up e)) ∙ v.1)

value_from1 : (x : Float) (n : ℕ) → 1 ≤ n → HasValue x false n 1 → From1 x
value_from1 nan n N v = v
value_from1 (inf t) n N v = v
value_from1 (fin t m e) n N v = le_trans (subst (λ (z : ℕ). z ≤ n * down e) (one-mul (down e)) (mul-le-mul_right (down e) N)) (le_of_eq (sym (sym (mul-one (m * up e)) ∙ v.1)))

pub nat_upto : (n : ℕ) → n ≤ 2 ^ 53 → Upto n (of_nat n)
nat_upto n N = value-whole (of_nat n) n (nat_value n N)

pub nat_from1 : (n : ℕ) → 1 ≤ n → n ≤ 2 ^ 53 → From1 (of_nat n)
nat_from1 n P N = value_from1 (of_nat n) n P (nat_value n N)

pub max-upto : (n : ℕ) (x y : Float) → Upto n x → Upto n y → Upto n (max_of x y)
max-upto n x y h k = elim (max_either x y) [ inl e ↦ subst (Upto n) (sym e) h | inr e ↦ subst (Upto n) (sym e) k ]

-- ---- a share of a whole number: the truncation of (d / l) × n, for a d from 0 to l, is at most n
-- no minus sign and no NaN
abbrev pub unsigned : Float → Bool
unsigned nan = false
unsigned (inf s) = not s
unsigned (fin s m e) = not s

pub truncate-upto : (n : ℕ) (x : Float) → Upto n x → truncate x ≤ n
unfolding to_unsigned
truncate-upto n nan h = absurd h
truncate-upto n (inf s) h = absurd h
truncate-upto n (fin true m e) h = zero-le
truncate-upto n (fin false m e) h = le_trans (min-le_left (m * up e / down e) (2 ^ 64 - 1)) (div-le_of_le-mul (down e) (le_trans h (le_of_eq (mul_comm n (down e)))))

quotient : (d l : Float) → unsigned d ≡ true → unsigned l ≡ true → lt l d ≡ false → (d ⊘ l ≡ nan) ⊎ Upto 1 (d ⊘ l)
unfolding div lt
quotient nan l p q h = absurd (false≢true p)
quotient (inf true) l p q h = absurd (false≢true p)
quotient (inf false) nan p q h = absurd (false≢true q)
quotient (inf false) (inf true) p q h = absurd (false≢true q)
quotient (inf false) (inf false) p q h = inl refl
quotient (inf false) (fin true n i) p q h = absurd (false≢true q)
quotient (inf false) (fin false n i) p q h = absurd (true≢false h)
quotient (fin true m e) l p q h = absurd (false≢true p)
quotient (fin false m e) nan p q h = absurd (false≢true q)
quotient (fin false m e) (inf true) p q h = absurd (false≢true q)
quotient (fin false m e) (inf false) p q h = inr (omega arith)
quotient (fin false m e) (fin true n i) p q h = absurd (false≢true q)
quotient (fin false zero e) (fin false zero i) p q h = inl refl
quotient (fin false (suc m) e) (fin false zero i) p q h =
    absurd (not-le_of_lt (mul-pos (mul-pos (zero-lt-suc m) (up_pos e)) (down_pos i))
    (subst (λ (z : ℕ). suc m * up e * down i ≤ z) (ap (λ (z : ℕ). z * down e) (zero-mul (up i)) ∙ zero-mul (down e)) (ltb-false (0 * up i * down e) (suc m * up e * down i) h)))
quotient (fin false m e) (fin false (suc n) i) p q h =
    rw (eqb-suc-zero n) (inr (round-upto false (m * up e * down i) (suc n * up i * down e) 1 (mul-pos (mul-pos (zero-lt-suc n) (up_pos i)) (down_pos e)) (lit≤ tt)
    (subst (λ (z : ℕ). m * up e * down i ≤ z) (sym (one-mul (suc n * up i * down e))) (ltb-false (suc n * up i * down e) (m * up e * down i) h))))

nan_times : (y : Float) → nan ⊗ y ≡ nan
unfolding mul
nan_times y = refl

nan_truncated : truncate nan ≡ 0
unfolding to_unsigned
nan_truncated = refl

pub share-upto : (d l : Float) (n : ℕ) → n ≤ 2 ^ 53 → unsigned d ≡ true → unsigned l ≡ true → lt l d ≡ false → truncate (d ⊘ l ⊗ of_nat n) ≤ n
share-upto d l n N p q h =
    elim (quotient d l p q h) [
      | inl e ↦ rw (e, nan_times (of_nat n), nan_truncated) zero-le
      | inr u ↦
          truncate-upto n (d ⊘ l ⊗ of_nat n)
          (subst (λ (z : ℕ). Upto z (d ⊘ l ⊗ of_nat n)) (one-mul n) (mul-upto 1 n (subst (λ (z : ℕ). z ≤ 2 ^ 53) (sym (one-mul n)) N) (d ⊘ l) (of_nat n) u (nat_upto n N)))
    ]

-- a difference of two values in order has no minus sign
odd_unsigned : (q k : ℕ) → unsigned (odd 54 false q k 1074) ≡ true
unfolding odd
odd_unsigned zero k = refl
odd_unsigned (suc q) k = refl

round_unsigned : (num den : ℕ) → unsigned (round binary64 false num den) ≡ true
unfolding units
round_unsigned num den = rw (round_is binary64 false num den) (go (ltb (grid binary64 num den) (overflow binary64)))
  where
    go : (b : Bool) → unsigned (cond b (odd 54 false (kept 53 (num * 2 ^ 1074) den) (drop 53 (num * 2 ^ 1074) den) 1074) (inf false)) ≡ true
    go true = odd_unsigned (kept 53 (num * 2 ^ 1074) den) (drop 53 (num * 2 ^ 1074) den)
    go false = refl

sum_unsigned : (s : Bool) (A : ℕ) (t : Bool) (B C : ℕ) → below (not t) B s A ≡ true → unsigned (sum binary64 s A t B C) ≡ true
unfolding sum
sum_unsigned false A false B C h = round_unsigned (A + B) C
sum_unsigned false A true B C h = rw (le-ltb A B (omega (arith, ltb-true B A h))) (round_unsigned (A - B) C)
sum_unsigned true A false B C h = rw (lt-ltb A B (ltb-true A B h)) (round_unsigned (B - A) C)
sum_unsigned true A true B C h = absurd (false≢true h)

-- b - a, for an a below b
pub sub_unsigned : (a b : Float) → lt a b ≡ true → unsigned (b ⊖ a) ≡ true
unfolding lt sub
sub_unsigned nan b h = absurd (false≢true h)
sub_unsigned (inf s) nan h = absurd (false≢true h)
sub_unsigned (inf true) (inf false) h = refl
sub_unsigned (inf true) (inf true) h = absurd (false≢true h)
sub_unsigned (inf false) (inf t) h = absurd (false≢true h)
sub_unsigned (inf true) (fin t n d) h = refl
sub_unsigned (inf false) (fin t n d) h = absurd (false≢true h)
sub_unsigned (fin s m e) nan h = absurd (false≢true h)
sub_unsigned (fin s m e) (inf true) h = absurd (false≢true h)
sub_unsigned (fin s m e) (inf false) h = refl
sub_unsigned (fin s m e) (fin t n d) h = sum_unsigned t (n * up d * down e) (not s) (m * up e * down d) (down d * down e) (rw not-not h)

-- ---- a value from 0 to 2 ^ k
pub between-upto : (k : ℕ) (x : Float) → finite x ≡ true → lt (pow2 k) x ≡ false → lt x zero_f ≡ false → Upto (2 ^ k) x
unfolding finite lt
between-upto k nan f h z = absurd (false≢true f)
between-upto k (inf s) f h z = absurd (false≢true f)
between-upto k (fin true zero e) f h z = rw (zero-mul (up e)) zero-le
between-upto k (fin true (suc m) e) f h z = absurd (true≢false (sym (lt-ltb 0 (suc m * up e * 1 + 0 * 1 * down e) (omega (arith, mul-pos (zero-lt-suc m) (up_pos e)))) ∙ z))
between-upto k (fin false m e) f h z = rw (mul-one, one-mul) at (ltb-false (1 * 2 ^ k * down e) (m * up e * 1) h)

-- ---- a product of unsigned values, and +0 is below no unsigned value
pub mul_unsigned : (x y : Float) → finite x ≡ true → finite y ≡ true → unsigned x ≡ true → unsigned y ≡ true → unsigned (x ⊗ y) ≡ true
unfolding mul finite
mul_unsigned nan y f g p q = absurd (false≢true f)
mul_unsigned (inf s) y f g p q = absurd (false≢true f)
mul_unsigned (fin s m e) nan f g p q = absurd (false≢true g)
mul_unsigned (fin s m e) (inf t) f g p q = absurd (false≢true g)
mul_unsigned (fin true m e) (fin t n d) f g p q = absurd (false≢true p)
mul_unsigned (fin false m e) (fin true n d) f g p q = absurd (false≢true q)
mul_unsigned (fin false m e) (fin false n d) f g p q = round_unsigned (m * up e * (n * up d)) (down e * down d)

pub above_unsigned : (x : Float) → lt zero_f x ≡ true → unsigned x ≡ true
unfolding lt
above_unsigned nan h = absurd (false≢true h)
above_unsigned (inf true) h = absurd (false≢true h)
above_unsigned (inf false) h = refl
above_unsigned (fin true m e) h = absurd (false≢true h)
above_unsigned (fin false m e) h = refl

pub unsigned_above : (x : Float) → unsigned x ≡ true → le zero_f x ≡ true
unfolding lt le
unsigned_above nan h = absurd (false≢true h)
unsigned_above (inf true) h = absurd (false≢true h)
unsigned_above (inf false) h = refl
unsigned_above (fin true m e) h = absurd (false≢true h)
unsigned_above (fin false m e) h = is_true _ (le_of_values zero_f (fin false m e) 0 1 (m * up e) (down e) (lit< tt) (down_pos e) (refl, refl) (refl, refl) (rw (zero-mul (down e)) zero-le))
