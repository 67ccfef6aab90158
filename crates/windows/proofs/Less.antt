-- A value from 0 on, less a number: it keeps the order. Assumes nothing.
use mathlib.Core.Path.{◌≡◌, refl, sym, ap, ◌∙◌}
use Prim.Native.Nat.{ℕ, zero, suc, ◌+◌, ◌-◌, ◌*◌, ◌/◌, ◌%◌, ◌^◌, ◌≤◌, ◌<◌}
use native.Mathlib.Nat.{le_trans, le_of_eq, mul_comm, mul_assoc, mul_left_comm, mul-mul-mul_comm, mul-sub, add-mul, mul-pos, mul-le-mul_right, mul-lt-mul_of_pos_right}
use native.Mathlib.Omega.{arith}
use mathlib.Core.Bool.{Bool, true, false, not, cond, ◌&&◌, beq}
use lib.Dec.{ltb}
use Prim.Native.Nat.{compare}
use lib.IntN.{ℤ}
use lib.Ieee.{Float, nan, inf, fin, binary64, prec, low, emax, up, down, size, nearest, odd, units, round, sum, add, sub, neg, lt, le, is_nan}
use lib.Ieee.Bits.{is_true}
use lib.Ieee.Fits.{down_pos}
use lib.Ieee.Order.{round_mono}
use borrow.Author.Tests.{ltb-true, ltb-false, le-ltb}
use Rattle.basics.proofs.Bools.{by_test, clash}
use Rattle.floats.specs.Rounded.{◌⊖◌}
use Rattle.floats.specs.Tests.{finite}
use Rattle.floats.proofs.Values.{neg-round}
use Rattle.floats.proofs.Order.{le_cross, not_lt_le}
use Rattle.floats.proofs.Roots.{to_infinity}

-- ---- values with no minus sign

abbrev pub Plus : Float → Type 0
Plus nan = ⊥
Plus (inf s) = s ≡ false
Plus (fin s m e) = s ≡ false

odd_plus : (d q k l : ℕ) → Plus (odd d false q k l)
unfolding odd
odd_plus d zero k l = refl
odd_plus d (suc q) k l = refl

units_plus : (q k : ℕ) → Plus (units binary64 false q k)
unfolding units
units_plus q k = go (ltb (q * 2 ^ k) (2 ^ (low binary64 + suc (emax binary64))))
  where
    go : (t : Bool) → Plus (cond t (odd 54 false q k 1074) (inf false))
    go true = odd_plus 54 q k 1074
    go false = refl

round_plus : (a b : ℕ) → Plus (round binary64 false a b)
unfolding round
round_plus a b =
    let n = a * 2 ^ low binary64 in
    let k = size (n / b) - prec binary64 in
    let u = b * 2 ^ k in
    units_plus (nearest (n / u) (compare (n % u * 2) u)) k

-- ---- turned round, and below zero

number : (s : Bool) (m : ℕ) (e : ℤ) → is_nan (fin s m e) ≡ false
unfolding is_nan
number s m e = refl

flip : (x y : Float) → Plus x → Plus y → le x y ≡ true → le (neg y) (neg x) ≡ true
unfolding neg lt le
flip nan y p q h = absurd p
flip (inf true) y p q h = clash refl p
flip (inf false) nan p q h = absurd q
flip (inf false) (inf true) p q h = clash refl q
flip (inf false) (inf false) p q h = refl
flip (inf false) (fin t n d) p q h = clash h refl
flip (fin true m e) y p q h = clash refl p
flip (fin false m e) nan p q h = absurd q
flip (fin false m e) (inf true) p q h = clash refl q
flip (fin false m e) (inf false) p q h = refl
flip (fin false m e) (fin true n d) p q h = clash refl q
flip (fin false m e) (fin false n d) p q h =
    not_lt_le (fin true n d) (fin true m e) (number true n d) (number true m e) (le-ltb (n * up d * down e) (m * up e * down d) (le_cross m e n d h))

across : (x y : Float) → Plus x → Plus y → le (neg x) y ≡ true
unfolding neg lt le
across nan y p q = absurd p
across (inf true) y p q = clash refl p
across (inf false) nan p q = absurd q
across (inf false) (inf true) p q = clash refl q
across (inf false) (inf false) p q = refl
across (inf false) (fin t n d) p q = refl
across (fin true m e) y p q = clash refl p
across (fin false m e) nan p q = absurd q
across (fin false m e) (inf true) p q = clash refl q
across (fin false m e) (inf false) p q = refl
across (fin false m e) (fin true n d) p q = clash refl q
across (fin false m e) (fin false n d) p q = not_lt_le (fin true m e) (fin false n d) (number true m e) (number false n d) refl

-- of fractions
round_flip : (a b c d : ℕ) → le (round binary64 false a b) (round binary64 false c d) ≡ true → le (round binary64 true c d) (round binary64 true a b) ≡ true
round_flip a b c d h = rw (← neg-round binary64 a b, ← neg-round binary64 c d) (flip (round binary64 false a b) (round binary64 false c d) (round_plus a b) (round_plus c d) h)

round_across : (a b c d : ℕ) → le (round binary64 true a b) (round binary64 false c d) ≡ true
round_across a b c d = rw (← neg-round binary64 a b) (across (round binary64 false a b) (round binary64 false c d) (round_plus a b) (round_plus c d))

-- ---- A / p ≤ A' / p', each less B / q

module _ (A p A' p' B q : ℕ) (P : 0 < p) (P' : 0 < p') (Q : 0 < q) (h : A * p' ≤ A' * p) where
  same : B * p' * (p * q) ≡ B * p * (p' * q)
  same = simp (mul_assoc, mul_comm, mul_left_comm)

  more : A * q * (p' * q) ≤ A' * q * (p * q)
  more =
      le_trans (le_of_eq (swap A p')) (le_trans (mul-le-mul_right (q * q) h) (le_of_eq (sym (swap A' p))))
    where
      swap : (a b : ℕ) → a * q * (b * q) ≡ a * b * (q * q)
      swap a b = mul-mul-mul_comm a q b q

  times : (a b c : ℕ) → (a - b) * c ≡ a * c - b * c
  times a b c = mul_comm (a - b) c ∙ mul-sub c a b ∙ ap (λ (z : ℕ). z - c * b) (mul_comm c a) ∙ ap (λ (z : ℕ). a * c - z) (mul_comm c b)

  pub plus_more : (A * q + B * p) * (p' * q) ≤ (A' * q + B * p') * (p * q)
  plus_more = omega (arith, add-mul (A * q) (B * p) (p' * q), add-mul (A' * q) (B * p') (p * q), more, same)

  pub minus_more : (A * q - B * p) * (p' * q) ≤ (A' * q - B * p') * (p * q)
  minus_more = omega (arith, times (A * q) (B * p) (p' * q), times (A' * q) (B * p') (p * q), more, same)

  pub minus_less : (B * p' - A' * q) * (p * q) ≤ (B * p - A * q) * (p' * q)
  minus_less = omega (arith, times (B * p') (A' * q) (p * q), times (B * p) (A * q) (p' * q), more, same)

  pub no_turn : B * p ≤ A * q → A' * q < B * p' → ⊥
  no_turn k l =
      let a = mul-le-mul_right (p' * q) k in
      let b = mul-lt-mul_of_pos_right l (mul-pos P Q) in
      absurd (omega (arith, a, b, more, same))

-- ---- the difference

plus_number : (x : Float) → Plus x → is_nan x ≡ false
unfolding is_nan
plus_number nan p = absurd p
plus_number (inf s) p = refl
plus_number (fin s m e) p = refl

neg-number : (x : Float) → is_nan x ≡ false → is_nan (neg x) ≡ false
unfolding is_nan neg
neg-number nan h = h
neg-number (inf s) h = refl
neg-number (fin s m e) h = refl

round_number : (s : Bool) (a b : ℕ) → is_nan (round binary64 s a b) ≡ false
round_number false a b = plus_number _ (round_plus a b)
round_number true a b = ap is_nan (sym (neg-round binary64 a b)) ∙ neg-number _ (plus_number _ (round_plus a b))

sum_number : (s : Bool) (a : ℕ) (t : Bool) (b c : ℕ) → is_nan (sum binary64 s a t b c) ≡ false
unfolding sum
sum_number s a t b c =
    by_test (beq s t) (λ e. rw e (round_number s (a + b) c))
    (λ e. rw e (by_test (ltb a b) (λ l. rw l (round_number t (b - a) c)) (λ l. rw l (round_number (s && ltb b a) (a - b) c))))

module _ (m : ℕ) (e : ℤ) (m' : ℕ) (e' : ℤ) (n : ℕ) (d : ℤ) (h : m * up e * down e' ≤ m' * up e' * down e) where
  abbrev A : ℕ
  A = m * up e

  abbrev A' : ℕ
  A' = m' * up e'

  abbrev B : ℕ
  B = n * up d

  abbrev X : Float
  X = fin false m e

  -- where the number is not above zero, it is added
  less_plus : le (sum binary64 false (A * down d) false (B * down e) (down e * down d)) (sum binary64 false (A' * down d) false (B * down e') (down e' * down d)) ≡ true
  unfolding sum
  less_plus =
      is_true _ (round_mono binary64 (A * down d + B * down e) (down e * down d) (A' * down d + B * down e') (down e' * down d) (mul-pos (down_pos e) (down_pos d)) (mul-pos (down_pos e') (down_pos d))
      (plus_more A (down e) A' (down e') B (down d) (down_pos e) (down_pos e') (down_pos d) h))

  less_minus : le (sum binary64 false (A * down d) true (B * down e) (down e * down d)) (sum binary64 false (A' * down d) true (B * down e') (down e' * down d)) ≡ true
  unfolding sum
  less_minus =
      by_test (ltb (A * down d) (B * down e))
      (λ t. by_test (ltb (A' * down d) (B * down e'))
      (λ u. rw (t, u) (round_flip (B * down e' - A' * down d) (down e' * down d) (B * down e - A * down d) (down e * down d)
      (is_true _ (round_mono binary64 (B * down e' - A' * down d) (down e' * down d) (B * down e - A * down d) (down e * down d)
      (mul-pos (down_pos e') (down_pos d)) (mul-pos (down_pos e) (down_pos d))
      (minus_less A (down e) A' (down e') B (down d) (down_pos e) (down_pos e') (down_pos d) h)))))
      (λ u. rw (t, u) (round_across (B * down e - A * down d) (down e * down d) (A' * down d - B * down e') (down e' * down d))))
      (λ t. by_test (ltb (A' * down d) (B * down e'))
      (λ u. absurd (no_turn A (down e) A' (down e') B (down d) (down_pos e) (down_pos e') (down_pos d) h (ltb-false _ _ t) (ltb-true _ _ u)))
      (λ u. rw (t, u) (is_true _
      (round_mono binary64 (A * down d - B * down e) (down e * down d) (A' * down d - B * down e') (down e' * down d)
      (mul-pos (down_pos e) (down_pos d)) (mul-pos (down_pos e') (down_pos d))
      (minus_more A (down e) A' (down e') B (down d) (down_pos e) (down_pos e') (down_pos d) h)))))

-- a larger value less a finite number is no smaller
pub less_mono : (x y r : Float) → Plus x → Plus y → finite r ≡ true → le x y ≡ true → le (x ⊖ r) (y ⊖ r) ≡ true
unfolding sub add neg finite
less_mono nan y r p q f h = absurd p
less_mono (inf true) y r p q f h = clash refl p
less_mono (inf false) nan r p q f h = absurd q
less_mono (inf false) (inf true) r p q f h = clash refl q
less_mono (inf false) (inf false) nan p q f h = clash f refl
less_mono (inf false) (inf false) (inf t) p q f h = clash f refl
less_mono (inf false) (inf false) (fin t n d) p q f h = unfold le in refl
less_mono (inf false) (fin t n d) r p q f h = unfold le in clash h refl
less_mono (fin true m e) y r p q f h = clash refl p
less_mono (fin false m e) nan r p q f h = absurd q
less_mono (fin false m e) (inf true) r p q f h = clash refl q
less_mono (fin false m e) (inf false) nan p q f h = clash f refl
less_mono (fin false m e) (inf false) (inf t) p q f h = clash f refl
less_mono (fin false m e) (inf false) (fin t n d) p q f h = to_infinity _ (sum_number false (m * up e * down d) (not t) (n * up d * down e) (down e * down d))
less_mono (fin false m e) (fin true n d) r p q f h = clash refl q
less_mono (fin false m e) (fin false n d) nan p q f h = clash f refl
less_mono (fin false m e) (fin false n d) (inf t) p q f h = clash f refl
less_mono (fin false m e) (fin false n d) (fin true l c) p q f h = less_plus m e n d l c (le_cross m e n d h)
less_mono (fin false m e) (fin false n d) (fin false l c) p q f h = less_minus m e n d l c (le_cross m e n d h)
