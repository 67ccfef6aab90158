-- The laws of Rust's `<` and `<=` on floats: an order of all values but NaN, in which the two zeros are equal.
-- Assumes nothing.
use Rattle.std.proofs.Common.{◌≡◌, ℕ, zero, suc, ◌+◌, ◌*◌, ◌<◌, ◌≤◌, Bool, true, false, not, ◌&&◌, ◌||◌, eqb, ltb, leb, ◌⊎◌, ℤ, sym, refl, ap, ◌∙◌, subst, ap₂, inl, inr, ⊎_elim, true≢false, zero-le, le_trans, le_of_eq, le_refl, lt_irrefl, mul-pos, zero-mul, arith, ltb-false, ltb-true, lt-ltb, eq-eqb, ne_eqb, eqb-true, le-leb, leb-true}
use mathlib.Core.Bool.{beq, false≢true, and-true, and-false}
use lib.Dec.{eqb-zero-suc, eqb-suc-zero}
use lib.Ieee.{Float, nan, inf, fin, up, down, lt, le, eq, is_nan}
use lib.Ieee.Fits.{down_pos}
use lib.Ieee.Positive.{through}
use borrow.Author.Tests.{eqb-false, lt-leb}
use Rattle.basics.proofs.Bools.{which, by_test, clash, and_both, both, or_either, or-true}
use Rattle.basics.proofs.Numbers.{at_most}

-- ---- `<=` of two finite values in one comparison: of ±a and ±b, the two over a common denominator
abbrev up_to : Bool → ℕ → Bool → ℕ → Bool
up_to false a false b = leb a b
up_to false a true b = eqb a 0 && eqb b 0
up_to true a false b = true
up_to true a true b = leb b a

at_least : (a b : ℕ) → (ltb b a || (eqb a b && true)) ≡ leb b a
at_least a b = ap (λ (t : Bool). ltb b a || (t && true)) (turned (which (eqb a b))) ∙ at_most b a
  where
    turned : (eqb a b ≡ true) ⊎ (eqb a b ≡ false) → eqb a b ≡ eqb b a
    turned (inl e) = rw e (sym (eq-eqb b a (sym (eqb-true a b e))))
    turned (inr e) = rw e (sym (ne_eqb b a (λ g. eqb-false a b e (sym g))))

zeros : (a b : ℕ) → (eqb a b && eqb a 0) ≡ (eqb a 0 && eqb b 0)
zeros zero zero = refl
zeros zero (suc b) = rw (eqb-zero-suc b, eqb-suc-zero b)
zeros (suc a) b = rw eqb-suc-zero (go (eqb (suc a) b))
  where
    go : (t : Bool) → (t && false) ≡ false
    go true = refl
    go false = refl

negative_first : (a b : ℕ) → (ltb 0 (a + b) || (eqb a b && eqb a 0)) ≡ true
negative_first zero zero = refl
negative_first zero (suc b) = rw (lt-ltb 0 (0 + suc b) (omega arith))
negative_first (suc a) b = rw (lt-ltb 0 (suc a + b) (omega arith))

le-finite : (s : Bool) (m : ℕ) (e : ℤ) (t : Bool) (n : ℕ) (d : ℤ) → le (fin s m e) (fin t n d) ≡ up_to s (m * up e * down d) t (n * up d * down e)
unfolding le
le-finite false m e false n d = at_most (m * up e * down d) (n * up d * down e)
le-finite false m e true n d = zeros (m * up e * down d) (n * up d * down e)
le-finite true m e false n d = negative_first (m * up e * down d) (n * up d * down e)
le-finite true m e true n d = at_least (m * up e * down d) (n * up d * down e)

-- ±b from -(±a) up to ±a, where that is its magnitude at most ±a
ends : (s : Bool) (a : ℕ) (t : Bool) (b : ℕ) → (up_to (not s) a t b && up_to t b s a) ≡ up_to false b s a
ends false a false b = refl
ends false a true b = and-true (leb b a)
ends true a false b = by_test (eqb b 0) (λ z. by_test (eqb a 0) (λ w. rw (z, w, le-leb a b (omega (arith, eqb-true a 0 w)))) (λ w. rw (z, w, and-false))) (λ z. rw (z, and-false))
ends true a true b = by_test (eqb b 0) (λ z. by_test (eqb a 0) (λ w. rw (z, w, le-leb a b (omega (arith, eqb-true a 0 w)))) (λ w. rw (z, w))) (λ z. rw (z, and-false))

pub le-ends : (s : Bool) (m : ℕ) (e : ℤ) (t : Bool) (n : ℕ) (d : ℤ) → (le (fin (not s) m e) (fin t n d) && le (fin t n d) (fin s m e)) ≡ le (fin false n d) (fin s m e)
le-ends s m e t n d =
    ap₂ (λ (p q : Bool). p && q) (le-finite (not s) m e t n d) (le-finite t n d s m e) ∙ ends s (m * up e * down d) t (n * up d * down e) ∙ sym (le-finite false n d s m e)

-- of two with no minus sign
pub le_cross : (m : ℕ) (e : ℤ) (n : ℕ) (d : ℤ) → le (fin false m e) (fin false n d) ≡ true → m * up e * down d ≤ n * up d * down e
le_cross m e n d h = leb-true (m * up e * down d) (n * up d * down e) (sym (le-finite false m e false n d) ∙ h)

-- ---- of two values that are no NaN, one is below the other exactly where that one is not at or below it
turned_ltb : (a b : ℕ) → ltb a b ≡ not (leb b a)
turned_ltb a b = go (which (ltb a b))
  where
    go : (ltb a b ≡ true) ⊎ (ltb a b ≡ false) → ltb a b ≡ not (leb b a)
    go (inl l) = rw (l, lt-leb b a (ltb-true a b l))
    go (inr l) = rw (l, le-leb b a (ltb-false a b l))

not_both_zero : (a b : ℕ) → ltb 0 (a + b) ≡ not (eqb b 0 && eqb a 0)
not_both_zero zero zero = refl
not_both_zero zero (suc b) = rw (lt-ltb 0 (0 + suc b) (omega arith), eqb-suc-zero b)
not_both_zero (suc a) b = rw (lt-ltb 0 (suc a + b) (omega arith), eqb-suc-zero a) (go (eqb b 0))
  where
    go : (t : Bool) → true ≡ not (t && false)
    go true = refl
    go false = refl

lt-finite : (s : Bool) (m : ℕ) (e : ℤ) (t : Bool) (n : ℕ) (d : ℤ) → lt (fin s m e) (fin t n d) ≡ not (up_to t (n * up d * down e) s (m * up e * down d))
unfolding lt
lt-finite false m e false n d = turned_ltb (m * up e * down d) (n * up d * down e)
lt-finite false m e true n d = refl
lt-finite true m e false n d = not_both_zero (m * up e * down d) (n * up d * down e)
lt-finite true m e true n d = turned_ltb (n * up d * down e) (m * up e * down d)

le_infinite : (s t : Bool) → le (inf s) (inf t) ≡ (s || not t)
unfolding le
le_infinite true true = refl
le_infinite true false = refl
le_infinite false true = refl
le_infinite false false = refl

le_from_infinite : (s t : Bool) (n : ℕ) (d : ℤ) → le (inf s) (fin t n d) ≡ s
unfolding le
le_from_infinite true t n d = refl
le_from_infinite false t n d = refl

le_to_infinite : (s t : Bool) (m : ℕ) (e : ℤ) → le (fin s m e) (inf t) ≡ not t
unfolding le
le_to_infinite s true m e = refl
le_to_infinite s false m e = refl

pub lt_is_not_le : (x y : Float) → is_nan x ≡ false → is_nan y ≡ false → lt x y ≡ not (le y x)
unfolding is_nan lt
lt_is_not_le nan y p q = absurd (true≢false p)
lt_is_not_le (inf s) nan p q = absurd (true≢false q)
lt_is_not_le (inf s) (inf t) p q = rw le_infinite (go s t)
  where
    go : (s t : Bool) → (s && not t) ≡ not (t || not s)
    go true true = refl
    go true false = refl
    go false true = refl
    go false false = refl
lt_is_not_le (inf s) (fin t n d) p q = rw le_to_infinite (go s)
  where
    go : (s : Bool) → s ≡ not (not s)
    go true = refl
    go false = refl
lt_is_not_le (fin s m e) nan p q = absurd (true≢false q)
lt_is_not_le (fin s m e) (inf t) p q = rw le_from_infinite
lt_is_not_le (fin s m e) (fin t n d) p q = lt-finite s m e t n d ∙ ap not (sym (le-finite t n d s m e))

-- ---- what `<=` says holds of no NaN
pub le_left : (x y : Float) → le x y ≡ true → is_nan x ≡ false
unfolding is_nan le
le_left nan y h = absurd (false≢true h)
le_left (inf s) y h = refl
le_left (fin s m e) y h = refl

pub le_right : (x y : Float) → le x y ≡ true → is_nan y ≡ false
unfolding is_nan le
le_right nan y h = absurd (false≢true h)
le_right (inf s) nan h = absurd (false≢true h)
le_right (inf s) (inf t) h = refl
le_right (inf s) (fin t n d) h = refl
le_right (fin s m e) nan h = absurd (false≢true h)
le_right (fin s m e) (inf t) h = refl
le_right (fin s m e) (fin t n d) h = refl

-- and what `==` says
pub eq_left : (x y : Float) → eq x y ≡ true → is_nan x ≡ false
unfolding is_nan eq
eq_left nan y h = sym h
eq_left (inf s) y h = refl
eq_left (fin s m e) y h = refl

pub eq-right : (x y : Float) → eq x y ≡ true → is_nan y ≡ false
unfolding is_nan eq
eq-right nan y h = absurd (false≢true h)
eq-right (inf s) nan h = sym h
eq-right (inf s) (inf t) h = refl
eq-right (inf s) (fin t n d) h = refl
eq-right (fin s m e) nan h = sym h
eq-right (fin s m e) (inf t) h = refl
eq-right (fin s m e) (fin t n d) h = refl

pub eq_self : (x : Float) → is_nan x ≡ false → eq x x ≡ true
unfolding is_nan eq
eq_self nan h = sym h
eq_self (inf true) h = refl
eq_self (inf false) h = refl
eq_self (fin true m e) h = both (eq-eqb (m * up e * down e) (m * up e * down e) refl) refl
eq_self (fin false m e) h = both (eq-eqb (m * up e * down e) (m * up e * down e) refl) refl

-- `==` either way round
pub eq_turn : (x y : Float) → eq x y ≡ true → eq y x ≡ true
unfolding eq
eq_turn nan y h = absurd (false≢true h)
eq_turn (inf s) nan h = h
eq_turn (inf true) (inf t) h = go t h
  where
    go : (t : Bool) → beq true t ≡ true → beq t true ≡ true
    go true h = refl
    go false h = h
eq_turn (inf false) (inf t) h = go t h
  where
    go : (t : Bool) → beq false t ≡ true → beq t false ≡ true
    go true h = h
    go false h = refl
eq_turn (inf s) (fin t n d) h = h
eq_turn (fin s m e) nan h = h
eq_turn (fin s m e) (inf t) h = h
eq_turn (fin s m e) (fin t n d) h = go s t (m * up e * down d) (n * up d * down e) h
  where
    go : (s t : Bool) (a b : ℕ) → (eqb a b && (beq s t || eqb a 0)) ≡ true → (eqb b a && (beq t s || eqb b 0)) ≡ true
    go s t a b h =
        let p = and_both (eqb a b) (beq s t || eqb a 0) h in
        let e = eqb-true a b p.0 in
        both (eq-eqb b a (sym e)) (rw (← e) (signs s t (eqb a 0) p.1))
      where
        signs : (s t z : Bool) → (beq s t || z) ≡ true → (beq t s || z) ≡ true
        signs true true z h = refl
        signs true false z h = h
        signs false true z h = h
        signs false false z h = refl

pub not_lt_le : (x y : Float) → is_nan x ≡ false → is_nan y ≡ false → lt y x ≡ false → le x y ≡ true
not_lt_le x y p q h = go (le x y) (sym h ∙ lt_is_not_le y x q p)
  where
    go : (b : Bool) → false ≡ not b → b ≡ true
    go true e = refl
    go false e = e

-- ---- `<` is `<=` that does not hold the other way
pub lt-le : (x y : Float) → lt x y ≡ true → le x y ≡ true
unfolding le
lt-le x y h = rw h

pub le_self : (x : Float) → is_nan x ≡ false → le x x ≡ true
unfolding is_nan
le_self nan p = absurd (true≢false p)
le_self (inf s) p = rw le_infinite (go s)
  where
    go : (s : Bool) → (s || not s) ≡ true
    go true = refl
    go false = refl
le_self (fin true m e) p = le-finite true m e true m e ∙ le-leb (m * up e * down e) (m * up e * down e) (le_refl (m * up e * down e))
le_self (fin false m e) p = le-finite false m e false m e ∙ le-leb (m * up e * down e) (m * up e * down e) (le_refl (m * up e * down e))

-- ---- x ≤ y ≤ z: by fractions x / p, y / q and z / r
product_zero : (x p : ℕ) → 0 < p → x * p ≡ 0 → x ≡ 0
product_zero zero p P h = refl
product_zero (suc x) p P h = absurd (lt_irrefl 0 (subst (λ (k : ℕ). 0 < k) h (mul-pos (native.Mathlib.Nat.zero-lt-suc x) P)))

zero_product : (x p : ℕ) → x ≡ 0 → x * p ≡ 0
zero_product x p h = ap (λ (k : ℕ). k * p) h ∙ zero-mul p

below-zero : (x p : ℕ) (y : ℕ) → 0 < p → x * p ≤ y → y ≡ 0 → x ≡ 0
below-zero x p y P h k = product_zero x p P (omega arith)

module _ (x y z p q r : ℕ) (P : 0 < p) (Q : 0 < q) (R : 0 < r) where
  join : (s t u : Bool) → up_to s (x * q) t (y * p) ≡ true → up_to t (y * r) u (z * q) ≡ true → up_to s (x * r) u (z * p) ≡ true
  join true t false h k = refl
  join false false false h k = le-leb (x * r) (z * p) (through x y z p q r Q (leb-true (x * q) (y * p) h) (leb-true (y * r) (z * q) k))
  join true true true h k = le-leb (z * p) (x * r) (through z y x r q p Q (leb-true (z * q) (y * r) k) (leb-true (y * p) (x * q) h))
  join false true false h k =
      let a = and_both (eqb (x * q) 0) (eqb (y * p) 0) h in
      le-leb (x * r) (z * p) (le_trans (le_of_eq (zero_product x r (product_zero x q Q (eqb-true (x * q) 0 a.0)))) zero-le)
  join false false true h k =
      let b = and_both (eqb (y * r) 0) (eqb (z * q) 0) k in
      let y0 = product_zero y r R (eqb-true (y * r) 0 b.0) in
      let z0 = product_zero z q Q (eqb-true (z * q) 0 b.1) in
      let x0 = below-zero x q (y * p) Q (leb-true (x * q) (y * p) h) (zero_product y p y0) in
      both (eq-eqb (x * r) 0 (zero_product x r x0)) (eq-eqb (z * p) 0 (zero_product z p z0))
  join false true true h k =
      let a = and_both (eqb (x * q) 0) (eqb (y * p) 0) h in
      let x0 = product_zero x q Q (eqb-true (x * q) 0 a.0) in
      let y0 = product_zero y p P (eqb-true (y * p) 0 a.1) in
      let z0 = below-zero z q (y * r) Q (leb-true (z * q) (y * r) k) (zero_product y r y0) in
      both (eq-eqb (x * r) 0 (zero_product x r x0)) (eq-eqb (z * p) 0 (zero_product z p z0))
  join true false true h k =
      let b = and_both (eqb (y * r) 0) (eqb (z * q) 0) k in
      le-leb (z * p) (x * r) (le_trans (le_of_eq (zero_product z p (product_zero z q Q (eqb-true (z * q) 0 b.1)))) zero-le)

no_nan : {X : Type 0} → is_nan nan ≡ false → X
unfolding is_nan
no_nan h = absurd (true≢false h)

pub le_join : (x y z : Float) → le x y ≡ true → le y z ≡ true → le x z ≡ true
le_join nan y z h k = no_nan (le_left nan y h)
le_join (inf s) nan z h k = no_nan (le_left nan z k)
le_join (fin s m e) nan z h k = no_nan (le_left nan z k)
le_join (inf s) (inf t) nan h k = no_nan (le_right (inf t) nan k)
le_join (inf s) (fin t n d) nan h k = no_nan (le_right (fin t n d) nan k)
le_join (fin s m e) (inf t) nan h k = no_nan (le_right (inf t) nan k)
le_join (fin s m e) (fin t n d) nan h k = no_nan (le_right (fin t n d) nan k)
le_join (inf s) (inf t) (inf u) h k = rw le_infinite (go s t u (rw le_infinite at h) (rw le_infinite at k))
  where
    go : (s t u : Bool) → (s || not t) ≡ true → (t || not u) ≡ true → (s || not u) ≡ true
    go true t u h k = refl
    go false true u h k = clash h refl
    go false false u h k = k
le_join (inf s) (inf t) (fin u l c) h k = rw le_from_infinite (go s t (rw le_infinite at h) (rw le_from_infinite at k))
  where
    go : (s t : Bool) → (s || not t) ≡ true → t ≡ true → s ≡ true
    go true t h k = refl
    go false true h k = h
    go false false h k = k
le_join (inf s) (fin t n d) (inf u) h k = rw (le_infinite, sym (le_from_infinite s t n d) ∙ h)
le_join (inf s) (fin t n d) (fin u l c) h k = le_from_infinite s u l c ∙ sym (le_from_infinite s t n d) ∙ h
le_join (fin s m e) (inf t) (inf u) h k = rw le_to_infinite (go t u (rw le_to_infinite at h) (rw le_infinite at k))
  where
    go : (t u : Bool) → not t ≡ true → (t || not u) ≡ true → not u ≡ true
    go true u h k = clash h refl
    go false u h k = k
le_join (fin s m e) (inf t) (fin u l c) h k = go t (rw le_to_infinite at h) (rw le_from_infinite at k)
  where
    go : {X : Type 0} (t : Bool) → not t ≡ true → t ≡ true → X
    go true h k = clash h refl
    go false h k = clash k refl
le_join (fin s m e) (fin t n d) (inf u) h k = le_to_infinite s u m e ∙ sym (le_to_infinite t u n d) ∙ k
le_join (fin s m e) (fin t n d) (fin u l c) h k =
    le-finite s m e u l c
    ∙ join (m * up e) (n * up d) (l * up c) (down e) (down d) (down c) (down_pos e) (down_pos d) (down_pos c) s t u (sym (le-finite s m e t n d) ∙ h) (sym (le-finite t n d u l c) ∙ k)

-- ---- equal is at most, both ways
pub eq-le : (x y : Float) → eq x y ≡ true → le x y ≡ true
unfolding le
eq-le x y h = or-true (lt x y) h

le_either : (x y : Float) → le x y ≡ true → (lt x y || eq x y) ≡ true
unfolding le
le_either x y h = h

pub lt_not_le : (x y : Float) → lt x y ≡ true → le y x ≡ false
lt_not_le x y h =
    let k = lt-le x y h in
    by_test (le y x) (λ g. clash h (lt_is_not_le x y (le_left x y k) (le_right x y k) ∙ ap not g)) (λ g. g)

pub le_not_lt : (x y : Float) → le x y ≡ true → lt y x ≡ false
le_not_lt x y h = lt_is_not_le y x (le_right x y h) (le_left x y h) ∙ ap not h

pub not_le_lt : (x y : Float) → is_nan x ≡ false → is_nan y ≡ false → le y x ≡ false → lt x y ≡ true
not_le_lt x y p q h = lt_is_not_le x y p q ∙ ap not h

pub le-eq : (x y : Float) → le x y ≡ true → le y x ≡ true → eq x y ≡ true
le-eq x y h k = ⊎_elim (λ l. clash k (lt_not_le x y l)) (λ e. e) (or_either (lt x y) (eq x y) (le_either x y h))
