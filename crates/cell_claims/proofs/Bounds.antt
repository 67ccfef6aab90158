-- How large the floats of an index are that the build wrote: its side, and its corners with those that the containers reach.
-- Assumes nothing.
use Prim.Native.Nat.{ℕ, zero, suc, ◌+◌, ◌-◌, ◌*◌, ◌^◌, ◌≤◌, ◌<◌, zero-le}
use native.Mathlib.Nat.{le_trans, le_of_eq, mul-pos, mul-le-mul_left, mul-le-mul_right, le_of_mul-le-mul_right, mul_assoc, mul_comm, mul_right_comm, mul-one, one-mul, zero-add, zero-mul, zero-lt-suc, not-le_of_lt, add-mul}
use native.Mathlib.Omega.{arith}
use mathlib.Core.Path.{◌≡◌, refl, sym, ap, ◌∙◌, subst}
use mathlib.Core.Logic.{inl, inr}
use mathlib.Core.Bool.{Bool, true, false, not, cond, ◌&&◌, ◌||◌, beq, false≢true}
use mathlib.Core.List.{List, [], ◌∷◌}
use lib.Dec.{T, ltb, eqb, lit<, lit≤, eqb-suc-zero}
use lib.IntN.{ℤ, negsuc}
use lib.Ieee.{Float, nan, inf, fin, binary64, up, down, round, sum, add, sub, neg, mul, div, lt, le, eq, below, level, fits, to_unsigned}
use lib.Ieee.Bits.{is_true}
use lib.Ieee.Fits.{up_pos, down_pos, round-fits}
use lib.Ieee.Exact.{HasValue}
use lib.Ieee.Order.{round_mono}
use borrow.Author.Tests.{ltb-true, ltb-false, eqb-true, lt-ltb, le-ltb}
use Rattle.basics.proofs.Bools.{by_test, and_left, and_right, or_either}
use Rattle.basics.specs.Lists.{all, zip_with}
use Rattle.floats.specs.Rounded.{◌⊕◌, ◌⊖◌, ◌⊗◌, ◌⊘◌, of_nat, truncate, zero_f, pow2, pow2⁻}
use Rattle.floats.specs.Tests.{finite}
use Rattle.floats.specs.Ceil.{ceil_of}
use Rattle.floats.proofs.Least.{ceil_least}
use Rattle.floats.proofs.Order.{le_cross}
use Rattle.floats.proofs.Upto.{Upto, upto_more, unsigned_above, sub_unsigned, round-upto, add-upto, sub-upto, mul-upto, nat_upto, truncate-upto}
use Rattle.grid.specs.Divisions.{division}
use Rattle.grid.proofs.Bounds.{first_of, rest_of}
use Rattle.grid_search.specs.Sheet.{covered_of}
use Rattle.grid_search.proofs.Sizes.{AllUpto}
use Rattle.grid_cells.specs.Build.{cell_divisions}

-- ---- values from 0 on, and from 2 ^ -19 on

-- a rounded fraction that is at least 2 ^ -19
round-least : (a c : ℕ) → 0 < c → c ≤ a * 2 ^ 19 → le (pow2⁻ 19) (round binary64 false a c) ≡ true
unfolding round
round-least a c C h =
    is_true (le (pow2⁻ 19) (round binary64 false a c))
    (round_mono binary64 1 (2 ^ 19) a c (lit< tt) C (subst (λ (z : ℕ). z ≤ a * 2 ^ 19) (sym (one-mul c)) h))

-- a value from 0 on has no minus sign, or is 0
from_zero : (m : ℕ) (e : ℤ) → le zero_f (fin true m e) ≡ true → m * up e ≡ 0
unfolding le
from_zero m e h = go (0 * down e) (m * up e) (zero-mul (down e)) h
  where
    go : (z a : ℕ) → z ≡ 0 → (eqb z (a * 1) && (false || eqb z 0)) ≡ true → a ≡ 0
    go z a q k = sym (mul-one a) ∙ sym (eqb-true z (a * 1) (and_left (eqb z (a * 1)) (false || eqb z 0) k)) ∙ q

-- twice a value of at least 2 ^ -20
pub twice_least : (x : Float) → finite x ≡ true → lt zero_f x ≡ true → lt x (pow2⁻ 20) ≡ false → le (pow2⁻ 19) (pow2 1 ⊗ x) ≡ true
unfolding mul lt finite
twice_least nan f z h = absurd (false≢true f)
twice_least (inf s) f z h = absurd (false≢true f)
twice_least (fin true m e) f z h = absurd (false≢true z)
twice_least (fin false m e) f z h =
    round-least (1 * 2 ^ 1 * (m * up e)) (1 * down e) (subst (λ (z : ℕ). 0 < z) (sym (one-mul (down e))) (down_pos e)) (halve (m * up e) (down e) (ltb-false (m * up e * 2 ^ 20) (1 * 1 * down e) h))
  where
    halve : (a d : ℕ) → 1 * 1 * d ≤ a * 2 ^ 20 → 1 * d ≤ 1 * 2 ^ 1 * a * 2 ^ 19
    halve a d k = omega arith

-- no value with a minus sign is from 2 ^ -19 on
pub no_minus : (n : ℕ) (d : ℤ) → le (pow2⁻ 19) (fin true n d) ≡ true → ⊥
unfolding le
no_minus n d k = go (down d) (down_pos d) (n * up d * 2 ^ 19) k
  where
    go : (a : ℕ) → 0 < a → (b : ℕ) → (eqb (1 * 1 * a) b && (false || eqb (1 * 1 * a) 0)) ≡ true → ⊥
    go a A b k = let q = eqb-true (1 * 1 * a) 0 (and_right (eqb (1 * 1 * a) b) (eqb (1 * 1 * a) 0) k) in absurd (omega arith)

-- a sum of a value from 0 on and one from 2 ^ -19 on
more : (a b c k : ℕ) → 1 * 1 * k ≤ b * 2 ^ 19 → c * k ≤ (a + b * c) * 2 ^ 19
more a b c k h =
    let e : c * (b * 2 ^ 19) ≡ b * c * 2 ^ 19 = sym (mul_assoc c b (2 ^ 19)) ∙ ap (λ (z : ℕ). z * 2 ^ 19) (mul_comm c b) in
    let f : 1 * 1 * k ≡ k = one-mul k in
    let g : c * k ≤ c * (b * 2 ^ 19) = mul-le-mul_left c (subst (λ (z : ℕ). z ≤ b * 2 ^ 19) f h) in
    omega (arith, g, e)

pub sum_least : (x y : Float) → finite x ≡ true → finite y ≡ true → le zero_f x ≡ true → le (pow2⁻ 19) y ≡ true → le (pow2⁻ 19) (x ⊕ y) ≡ true
unfolding add finite sum
sum_least nan y f g z h = absurd (false≢true f)
sum_least (inf s) y f g z h = absurd (false≢true f)
sum_least (fin s m e) nan f g z h = absurd (false≢true g)
sum_least (fin s m e) (inf t) f g z h = absurd (false≢true g)
sum_least (fin s m e) (fin true n d) f g z h = absurd (no_minus n d h)
sum_least (fin false m e) (fin false n d) f g z h =
    round-least (m * up e * down d + n * up d * down e) (down e * down d) (mul-pos (down_pos e) (down_pos d)) (more (m * up e * down d) (n * up d) (down e) (down d) (le_cross 1 (negsuc 18) n d h))
sum_least (fin true m e) (fin false n d) f g z h = go (m * up e * down d) (ap (λ (x : ℕ). x * down d) (from_zero m e z) ∙ zero-mul (down d))
  where
    B : ℕ
    B = n * up d * down e

    most : down e * down d ≤ B * 2 ^ 19
    most = subst (λ (z : ℕ). down e * down d ≤ z * 2 ^ 19) (zero-add B) (more 0 (n * up d) (down e) (down d) (le_cross 1 (negsuc 18) n d h))

    go : (A : ℕ) → A ≡ 0 → le (pow2⁻ 19) (cond (ltb A B) (round binary64 false (B - A) (down e * down d)) (round binary64 (true && ltb B A) (A - B) (down e * down d))) ≡ true
    go A q =
        let P : 0 < down e * down d = mul-pos (down_pos e) (down_pos d) in
        rw (lt-ltb A B (omega (arith, P, most))) (round-least (B - A) (down e * down d) P (omega (arith, most)))

-- ---- b - a, for an a at or below b

at_zero : (s : Bool) (z a : ℕ) → z ≡ 0 → a ≡ 0 → (below false z s a || level false z s a) ≡ true
at_zero true z a p q = rw (p, q)
at_zero false z a p q = rw (p, q)

pub upto_zero : (x : Float) → Upto 0 x → le zero_f x ≡ true
unfolding le
upto_zero nan h = absurd h
upto_zero (inf s) h = absurd h
upto_zero (fin s m e) h = at_zero s (0 * down e) (m * up e * 1) (zero-mul (down e)) (mul-one (m * up e) ∙ nothing (m * up e) (down e) h)
  where
    nothing : (a d : ℕ) → a ≤ 0 * d → a ≡ 0
    nothing a d k = omega (arith, zero-mul d)

-- of two that are level, the difference is 0
none : (a b c : ℕ) → a ≤ b → a - b ≤ 0 * c
none a b c h = omega (arith, zero-mul c)

level-less : (s : Bool) (A : ℕ) (t : Bool) (B C : ℕ) → 0 < C → level t B s A ≡ true → Upto 0 (sum binary64 s A (not t) B C)
unfolding sum
level-less true A true B C P h = let e =
    eqb-true B A (and_left (eqb B A) _ h)
    in rw (le-ltb A B (omega (arith, e))) (round-upto (true && ltb B A) (A - B) C 0 P zero-le (none A B C (omega (arith, e))))
level-less false A false B C P h = let e =
    eqb-true B A (and_left (eqb B A) _ h)
    in rw (le-ltb A B (omega (arith, e))) (round-upto (false && ltb B A) (A - B) C 0 P zero-le (none A B C (omega (arith, e))))
level-less true A false B C P h =
    let e = eqb-true B A (and_left (eqb B A) (eqb B 0) h) in
    let z = eqb-true B 0 (and_right (eqb B A) (eqb B 0) h) in
    round-upto true (A + B) C 0 P zero-le (omega (arith, e, z, zero-mul C))
level-less false A true B C P h =
    let e = eqb-true B A (and_left (eqb B A) (eqb B 0) h) in
    let z = eqb-true B 0 (and_right (eqb B A) (eqb B 0) h) in
    round-upto false (A + B) C 0 P zero-le (omega (arith, e, z, zero-mul C))

equal_less : (a b : Float) → finite a ≡ true → finite b ≡ true → eq a b ≡ true → Upto 0 (b ⊖ a)
unfolding sub neg finite eq
equal_less nan b f g l = absurd (false≢true f)
equal_less (inf s) b f g l = absurd (false≢true f)
equal_less (fin s m e) nan f g l = absurd (false≢true g)
equal_less (fin s m e) (inf t) f g l = absurd (false≢true g)
equal_less (fin s m e) (fin t n d) f g l = level-less t (n * up d * down e) s (m * up e * down d) (down d * down e) (mul-pos (down_pos d) (down_pos e)) l

pub less_from_zero : (a b : Float) → finite a ≡ true → finite b ≡ true → le a b ≡ true → le zero_f (b ⊖ a) ≡ true
unfolding le
less_from_zero a b f g h = elim (or_either (lt a b) (eq a b) h) [ inl l ↦ unsigned_above (b ⊖ a) (sub_unsigned a b l) | inr l ↦ upto_zero (b ⊖ a) (equal_less a b f g l) ]

-- ---- the containers that an axis takes reach no further than twice the extent, or one side

-- a whole number n from 2 on that is a rounded fraction rounded up: the fraction is above n - 1
value-whole : (x : Float) (c : ℕ) → HasValue x false c 1 → Upto c x
value-whole nan c v = v
value-whole (inf t) c v = v
value-whole (fin t m e) c v = le_of_eq (sym (mul-one (m * up e)) ∙ v.1)

value_minus : (x : Float) (c : ℕ) → HasValue x true c 1 → truncate x ≡ 0
unfolding to_unsigned
value_minus nan c v = absurd v
value_minus (inf t) c v = absurd v
value_minus (fin true m e) c v = refl
value_minus (fin false m e) c v = absurd (false≢true v.0)

rounded-up : (q : Float) (k : ℕ) → T (fits binary64 q) → Upto k q → truncate (ceil_of q) ≤ k
rounded-up nan k h u = absurd u
rounded-up (inf s) k h u = absurd u
rounded-up (fin true m e) k h u = let c = ceil_least true m e h in subst (λ (z : ℕ). z ≤ k) (sym (value_minus (ceil_of (fin true m e)) c.0 c.1)) zero-le
rounded-up (fin false m e) k h u =
    let c = ceil_least false m e h in
    le_trans (truncate-upto c.0 (ceil_of (fin false m e)) (value-whole (ceil_of (fin false m e)) c.0 c.1))
    (least c.0 (down e) (m * up e) (down_pos e) c.2.1 u)
  where
    least : (c d a : ℕ) → 0 < d → c * d < a + d → a ≤ k * d → c ≤ k
    least c d a D l u = by_test (ltb k c) (λ t. absurd (not-le_of_lt l (le_trans (omega (arith, u, add-mul k 1 d, one-mul d)) (mul-le-mul_right d (ltb-true k c t))))) (λ t. ltb-false k c t)

pub above_part : (s : Bool) (num den k : ℕ) → 0 < den → k ≤ 2 ^ 53 → truncate (ceil_of (round binary64 s num den)) ≡ suc k → k * den < num
above_part s num den k D K e =
    by_test (ltb (k * den) num) (λ t. ltb-true (k * den) num t)
    (λ t. absurd (not-le_of_lt (omega arith)
    (subst (λ (z : ℕ). z ≤ k) e
    (rounded-up (round binary64 s num den) k (round-fits binary64 s num den) (round-upto s num den k D K (ltb-false (k * den) num t))))))

-- a product whose exact value is at most w
times_most : (p : ℕ) (f : ℤ) (y : Float) (n w : ℕ) → w ≤ 2 ^ 53 → p * up f * n ≤ w * down f → Upto n y → Upto w (fin false p f ⊗ y)
unfolding mul
times_most p f nan n w W h u = absurd u
times_most p f (inf t) n w W h u = absurd u
times_most p f (fin t b d) n w W h u =
    round-upto (not (beq false t)) (p * up f * (b * up d)) (down f * down d) w (mul-pos (down_pos f) (down_pos d)) W
    (le_trans (mul-le-mul_left (p * up f) u)
    (le_trans (le_of_eq (sym (mul_assoc (p * up f) n (down d)))) (le_trans (mul-le-mul_right (down d) h) (le_of_eq (mul_assoc w (down f) (down d))))))

-- n - 1 parts of the fraction's divisor are below it, so n sides are at most twice the extent
doubled : (k P de M df : ℕ) → 0 < de → suc k * (P * de) < M * df → M ≤ 2099200 * de → P * suc (suc k) ≤ 4198400 * df
doubled k P de M df D h u =
    let a : suc k * (P * de) ≤ 2099200 * de * df = le_trans (omega (arith, h)) (mul-le-mul_right df u) in
    let b : suc k * P * de ≤ 2099200 * df * de = le_trans (le_of_eq (mul_assoc (suc k) P de)) (le_trans a (le_of_eq (mul_right_comm 2099200 de df))) in
    let c : suc k * P ≤ 2099200 * df = le_of_mul-le-mul_right b D in
    le_trans (mul-le-mul_left P (twice k)) (le_trans (le_of_eq (turn P (suc k))) (omega (arith, c)))
  where
    twice : (k : ℕ) → suc (suc k) ≤ suc k * 2
    twice k = omega arith

    turn : (P j : ℕ) → P * (j * 2) ≡ 2 * (j * P)
    turn P j = sym (mul_assoc P j 2) ∙ mul_comm (P * j) 2 ∙ ap (λ (z : ℕ). 2 * z) (mul_comm P j)

pub reach : (d side : Float) (n : ℕ) → Upto 2099200 d → Upto 2099200 side → le (pow2⁻ 19) side ≡ true → n ≡ truncate (ceil_of (d ⊘ side)) → 1 ≤ n → n ≤ 1024 → Upto 4198400 (side ⊗ of_nat n)
unfolding div
reach nan side n u v h q a b = absurd u
reach (inf s) side n u v h q a b = absurd u
reach (fin s m e) nan n u v h q a b = absurd v
reach (fin s m e) (inf t) n u v h q a b = absurd v
reach (fin s m e) (fin true p f) n u v h q a b = absurd (no_minus p f h)
reach (fin s m e) (fin false p f) zero u v h q a b = absurd (omega arith)
reach (fin s m e) (fin false p f) (suc zero) u v h q a b =
    upto_more 2099200 4198400 (fin false p f ⊗ of_nat 1) (lit≤ tt)
    (mul-upto 2099200 1 (lit≤ tt) (fin false p f) (of_nat 1) v (nat_upto 1 (lit≤ tt)))
reach (fin s m e) (fin false zero f) (suc (suc k)) u v h q a b = absurd (none_left (down f) (up f) (down_pos f) (le_cross 1 (negsuc 18) 0 f h))
  where
    none_left : (d c : ℕ) → 0 < d → 1 * 1 * d ≤ 0 * c * 2 ^ 19 → ⊥
    none_left d c D h = absurd (omega (arith, h, zero-mul c))
reach (fin s m e) (fin false (suc p) f) (suc (suc k)) u v h q a b =
    let r = rw (eqb-suc-zero p) at q in
    times_most (suc p) f (of_nat (suc (suc k))) (suc (suc k)) 4198400 (lit≤ tt)
    (doubled k (suc p * up f) (down e) (m * up e) (down f) (down_pos e)
    (above_part (not (beq s false)) (m * up e * down f) (suc p * up f * down e) (suc k) (mul-pos (mul-pos (zero-lt-suc p) (up_pos f)) (down_pos e)) (omega arith) (sym r))
    u)
    (nat_upto (suc (suc k)) (omega arith))

-- ---- the high corner of the containers
pub covered_bounded : (side : Float) (xmin xmax : List Float) → Upto 2099200 side → le (pow2⁻ 19) side ≡ true → AllUpto 1049600 xmin → AllUpto 1049600 xmax
    → all division (cell_divisions side xmin xmax) ≡ true → AllUpto 5248000 (covered_of side xmin (cell_divisions side xmin xmax))
unfolding cell_divisions covered_of zip_with
covered_bounded side [] [] u h a b d = tt
covered_bounded side [] (y ∷ ys) u h a b d = tt
covered_bounded side (x ∷ xs) [] u h a b d = tt
covered_bounded side (x ∷ xs) (y ∷ ys) u h a b d =
    let n = truncate (ceil_of ((y ⊖ x) ⊘ side)) in
    let ns = cell_divisions side xs ys in
    let r = first_of n ns d in (
      add-upto 1049600 4198400 (lit≤ tt) x (side ⊗ of_nat n) a.0 (reach (y ⊖ x) side n (sub-upto 1049600 1049600 (lit≤ tt) y x b.0 a.0) u h refl r.least r.most),
      covered_bounded side xs ys u h a.1 b.1 (rest_of n ns d),
    )
