-- The laws of the root, beside `sqrt-nearest`: the format holds it, it keeps the order (`sqrt_monotone`), it is exact on squares (`sqrt_square`), and it is never below
-- zero, a minus sign being only that of the root of -0 (`sqrt_sign`). Assumes nothing.
use Rattle.std.proofs.Common.{◌≡◌, ℕ, zero, suc, ◌+◌, ◌-◌, ◌*◌, ◌/◌, ◌^◌, ◌<◌, ◌≤◌, Bool, true, false, cond, T, ltb, ℤ, sym, refl, ap, ◌∙◌, subst, inl, inr, true≢false, le_trans, le_of_eq, lt_of_lt_of_le, le_of_suc-le-suc, lt_of_le_of_lt, le_of_lt, lt_irrefl, mul-le-mul_right, zero-lt-suc, mul_assoc, mul-le-mul, le_antisymm, lt_of_mul-lt-mul_right, eq-or-lt_of_le, mul-le-mul_left, mul-lt-mul_of_pos_right, mul-pos, lt_of_not-le, zero-mul, mul_right_comm, arith, ltb→lt, lt→ltb, pow_pos, pow_mono, pow-add, shl_lt, le-ltb, ne_eqb}
use native.Mathlib.Nat.{mul-mul-mul_comm, eq_of_mul-eq-mul_right}
use mathlib.Core.Bool.{false≢true}
use lib.Ieee.{Float, nan, inf, fin, Format, prec, emax, low, up, down, size, odd, fits, lt, le, is_nan}
use lib.Ieee.Bits.{is_true}
use lib.Ieee.Exact.{HasValue}
use lib.Ieee.Fits.{two, two-le_pos, reach, up_pos, odd-fits, nan-fits}
use lib.Ieee.Order.{le_of_values}
use lib.Ieee.Positive.{positive, value_pos, positive_of_value, values_of_le, above, above_of_le}
use Rattle.basics.proofs.Bools.{by_test, clash}
use Rattle.floats.specs.Rounded.{zero_f}
use Rattle.floats.specs.Sqrt.{root, root_of, sqrt_in}
use Rattle.floats.proofs.Near.{Near, square_suc, square_double, lower_k, lower_q, root_of-near, sqrt-value}
use Rattle.floats.proofs.Exact.{Nearest, sqrt-nearest, in_units, pow_lt_back}
use Rattle.floats.proofs.Order.{le_self, le_join, not_lt_le, le_left, le_right, lt-le, le_not_lt}
use Rattle.floats.proofs.Held.{fits-held, one_size, rescale}
use Rattle.floats.proofs.Unique.{value_unique}

-- ---- the root of a value above zero is one of the format's
near : (p l : ℕ) (x y : Float) (r : Nearest p l x y) → Near p (r.n * 2 ^ l) r.q r.k
near p l x y r = record { least = r.least; most = r.most; above = r.above; below = le_of_lt r.below }

sqrt_odd : (f : Format) (x : Float) (p : T (positive x)) (r : Nearest (prec f) (low f) x (sqrt_in f x)) → sqrt_in f x ≡ odd (prec f) false r.q r.k (low f)
sqrt_odd f x p r =
    sqrt-value f x r.n (value_pos x r.n (2 ^ low f) p (pow_pos (low f)) r.of) r.of
    ∙ root_of-near (prec f) (low f) (r.n * 2 ^ low f) r.q r.k (two-le_pos (prec f) (two f))
    (le_trans (pow_mono (more (prec f) r.k)) (le_trans (le_of_eq (pow-add 2 (prec f - 1 + r.k) (prec f - 1 + r.k))) r.least))
    (near (prec f) (low f) x (sqrt_in f x) r)
  where
    more : (p k : ℕ) → 2 * p - 2 ≤ p - 1 + k + (p - 1 + k)
    more p k = omega arith

-- a finite value of the format is below 2 ^ (emax + 1)
size_bound : (f : Format) (x : Float) (n : ℕ) → T (fits f x) → T (positive x) → HasValue x false n (2 ^ low f) → n < 2 ^ suc (emax f) * 2 ^ low f
size_bound f nan n h p v = absurd p
size_bound f (inf s) n h p v = absurd p
size_bound f (fin true m e) n h p v = absurd p
size_bound f (fin false zero e) n h p v = absurd (lt_irrefl 0 (ltb→lt 0 0 p))
size_bound f (fin false (suc m) e) n h p v =
    lt_of_mul-lt-mul_right (down e)
    (lt_of_le_of_lt (le_of_eq (sym v.1))
    (lt_of_lt_of_le (mul-lt-mul_of_pos_right (fits-held f false m e h).bound (pow_pos (low f))) (le_of_eq (mul_right_comm (2 ^ suc (emax f)) (down e) (2 ^ low f)))))

positive_fits : (f : Format) (x : Float) → T (fits f x) → T (positive x) → T (fits f (sqrt_in f x))
positive_fits f x h p =
    let r = sqrt-nearest f x h p in
    let l = low f in
    let k = r.k in
    let half : prec f - 1 + k + (prec f - 1 + k) < suc (emax f) + l + l = pow_lt_back (prec f - 1 + k + (prec f - 1 + k)) (suc (emax f) + l + l)
    (lt_of_le_of_lt (le_trans (le_of_eq (pow-add 2 (prec f - 1 + k) (prec f - 1 + k))) r.least)
    (lt_of_lt_of_le (mul-lt-mul_of_pos_right (size_bound f x r.n h p r.of) (pow_pos l))
    (le_of_eq (ap (λ (z : ℕ). z * 2 ^ l) (sym (pow-add 2 (suc (emax f)) l)) ∙ sym (pow-add 2 (suc (emax f) + l) l))))) in
    subst (λ (y : Float). T (fits f y)) (sym (sqrt_odd f x p r))
    (odd-fits f (prec f) false r.q k r.digits (le_of_lt r.digits) (lt_of_lt_of_le (shl_lt (prec f) k r.digits) (pow_mono (room (prec f) (emax f) k (two f) (reach f) half))))
  where
    room : (p m k : ℕ) → 2 ≤ p → p ≤ suc m → p - 1 + k + (p - 1 + k) < suc m + (m + p - 2) + (m + p - 2) → p + k ≤ m + p - 2 + suc m
    room p m k a b h = omega arith

pub sqrt-fits : (f : Format) (x : Float) → T (fits f x) → T (fits f (sqrt_in f x))
unfolding sqrt_in
sqrt-fits f nan h = nan-fits f
sqrt-fits f (inf true) h = nan-fits f
sqrt-fits f (inf false) h = h
sqrt-fits f (fin s zero e) h = h
sqrt-fits f (fin true (suc m) e) h = nan-fits f
sqrt-fits f (fin false (suc m) e) h = positive_fits f (fin false (suc m) e) h (lt→ltb 0 (suc m) (zero-lt-suc m))

-- ---- it is never below zero
pub odd_shape : (d q k l : ℕ) → (m : ℕ) × (e : ℤ) × (odd d false q k l ≡ fin false m e)
unfolding odd
odd_shape d zero k l = (_, _, refl)
odd_shape d (suc q) k l = (_, _, refl)

root_shape : (p l N : ℕ) → (m : ℕ) × (e : ℤ) × (root_of p l N ≡ fin false m e)
unfolding root_of
root_shape p l N =
    let k = (size N - (2 * p - 1)) / 2 in
    let u = 2 ^ k * 2 ^ k in
    let r = root p (N / u) in
    odd_shape p (cond (ltb ((2 * r + 1) * (2 * r + 1) * u) (4 * N)) (r + 1) r) k l

pub sqrt_sign : (f : Format) (x : Float) (m : ℕ) (e : ℤ) → sqrt_in f x ≡ fin true m e → (m ≡ 0) × (x ≡ fin true m e)
unfolding sqrt_in
sqrt_sign f nan m e h = absurd (let z : ◌≡◌ {A = ℕ} 0 1 = cc in omega arith)
sqrt_sign f (inf true) m e h = absurd (let z : ◌≡◌ {A = ℕ} 0 1 = cc in omega arith)
sqrt_sign f (inf false) m e h = absurd (let z : ◌≡◌ {A = ℕ} 0 1 = cc in omega arith)
sqrt_sign f (fin s zero d) m e h = ((cc), h)
sqrt_sign f (fin true (suc n) d) m e h = absurd (let z : ◌≡◌ {A = ℕ} 0 1 = cc in omega arith)
sqrt_sign f (fin false (suc n) d) m e h =
    let r = root_shape (prec f) (low f) (suc n * up d * 2 ^ low f / down d * 2 ^ low f) in
    absurd (false≢true (sign (sym r.2 ∙ h)))
  where
    sign : {s t : Bool} {m n : ℕ} {d e : ℤ} → fin s m d ≡ fin t n e → s ≡ t
    sign p = cc

pub not-below : (m : ℕ) (e : ℤ) → lt (fin false m e) zero_f ≡ false
unfolding lt
not-below m e = le-ltb (m * up e * 1) (0 * 1 * down e) (omega (arith, zero-mul (down e)))

zero_not_below : (s : Bool) (e : ℤ) → lt (fin s 0 e) zero_f ≡ false
unfolding lt
zero_not_below true e = le-ltb 0 (0 * up e * 1 + 0 * 1 * down e) (omega (arith, zero-mul (down e), zero-mul (up e)))
zero_not_below false e = le-ltb (0 * up e * 1) (0 * 1 * down e) (omega (arith, zero-mul (down e)))

nan_not_below : lt nan zero_f ≡ false
unfolding lt
nan_not_below = refl

infinity_not_below : lt (inf false) zero_f ≡ false
unfolding lt
infinity_not_below = refl

pub sqrt_not_below : (f : Format) (x : Float) → lt (sqrt_in f x) zero_f ≡ false
unfolding sqrt_in
sqrt_not_below f nan = nan_not_below
sqrt_not_below f (inf true) = nan_not_below
sqrt_not_below f (inf false) = infinity_not_below
sqrt_not_below f (fin s zero e) = zero_not_below s e
sqrt_not_below f (fin true (suc m) e) = nan_not_below
sqrt_not_below f (fin false (suc m) e) =
    let r = root_shape (prec f) (low f) (suc m * up e * 2 ^ low f / down e * 2 ^ low f) in
    ap (λ (y : Float). lt y zero_f) r.2 ∙ not-below r.0 r.1

-- ---- from zero on there is a root
pub below-zero : (m : ℕ) (e : ℤ) → le zero_f (fin true (suc m) e) ≡ false
unfolding le
below-zero m e = rw (ne_eqb (0 * 1 * down e) (suc m * up e * 1) (λ h. lt_irrefl 0 (omega (arith, h, zero-mul (down e), mul-pos (zero-lt-suc m) (up_pos e)))))

pub no_minus_infinity : le zero_f (inf true) ≡ false
unfolding le
no_minus_infinity = refl

root-is_number : (p l N : ℕ) → is_nan (root_of p l N) ≡ false
unfolding is_nan
root-is_number p l N = ap is_nan (root_shape p l N).2

pub sqrt-number : (f : Format) (x : Float) → le zero_f x ≡ true → is_nan (sqrt_in f x) ≡ false
unfolding sqrt_in is_nan
sqrt-number f nan h = le_right zero_f nan h
sqrt-number f (inf true) h = clash h no_minus_infinity
sqrt-number f (inf false) h = refl
sqrt-number f (fin s zero e) h = refl
sqrt-number f (fin true (suc m) e) h = clash h (below-zero m e)
sqrt-number f (fin false (suc m) e) h = root-is_number (prec f) (low f) (suc m * up e * 2 ^ low f / down e * 2 ^ low f)

pub zero_number : is_nan zero_f ≡ false
unfolding is_nan
zero_number = refl

pub sqrt_from_zero : (f : Format) (x : Float) → le zero_f x ≡ true → le zero_f (sqrt_in f x) ≡ true
sqrt_from_zero f x h = not_lt_le zero_f (sqrt_in f x) zero_number (sqrt-number f x h) (sqrt_not_below f x)

-- ---- it keeps the order
-- Either both roots drop as many digits, and then what is kept is in order. Or the smaller drops fewer, and then a power of two lies between the two.
units_mono : (p N q k N' q' k' : ℕ) → 0 < p → N ≤ N' → Near p N q k → Near p N' q' k' → q < 2 ^ p → 2 ^ (p - 1) ≤ q' → q * 2 ^ k ≤ q' * 2 ^ k'
units_mono p N q k N' q' k' P n a b Q Q' = elim (eq-or-lt_of_le (lower_k p N q k N' q' k' P n a b)) [
  | inl e ↦ subst (λ (j : ℕ). q * 2 ^ j ≤ q' * 2 ^ k') (sym e)
      (mul-le-mul_right (2 ^ k') (lower_q N' q q' (2 ^ k' * 2 ^ k')
      (lt_of_lt_of_le (subst (λ (j : ℕ). (2 * q - 1) * (2 * q - 1) * (2 ^ j * 2 ^ j) < 4 * N) e a.above) (mul-le-mul_left 4 n))
      b.below))
  | inr l ↦
      le_trans (le_of_lt (shl_lt p k Q))
      (le_trans (pow_mono (room p k k' P l))
      (le_trans (le_of_eq (pow-add 2 (p - 1) k')) (mul-le-mul_right (2 ^ k') Q')))
]
  where
    room : (p j k : ℕ) → 0 < p → j < k → p + j ≤ p - 1 + k
    room p j k P h = omega arith

positive_mono : (f : Format) (x y : Float) → T (fits f x) → T (fits f y) → T (positive x) → T (positive y) → le x y ≡ true → le (sqrt_in f x) (sqrt_in f y) ≡ true
positive_mono f x y h k p q o =
    let l = low f in
    let r = sqrt-nearest f x h p in
    let t = sqrt-nearest f y k q in
    is_true (le (sqrt_in f x) (sqrt_in f y))
    (le_of_values (sqrt_in f x) (sqrt_in f y) (r.q * 2 ^ r.k) (2 ^ l) (t.q * 2 ^ t.k) (2 ^ l) (pow_pos l) (pow_pos l) r.is t.is
    (mul-le-mul_right (2 ^ l)
    (units_mono (prec f) (r.n * 2 ^ l) r.q r.k (t.n * 2 ^ l) t.q t.k (two-le_pos (prec f) (two f))
    (values_of_le x y r.n (2 ^ l) t.n (2 ^ l) p q r.of t.of (subst T (sym o) tt))
    (near (prec f) l x (sqrt_in f x) r) (near (prec f) l y (sqrt_in f y) t) r.digits t.leading)))

-- an infinity is above every root
pub to_infinity : (x : Float) → is_nan x ≡ false → le x (inf false) ≡ true
unfolding le is_nan
to_infinity nan h = sym h
to_infinity (inf true) h = refl
to_infinity (inf false) h = refl
to_infinity (fin s m e) h = refl

from_infinity : (y : Float) → le (inf false) y ≡ true → y ≡ inf false
unfolding le
from_infinity nan h = absurd (false≢true h)
from_infinity (inf true) h = absurd (false≢true h)
from_infinity (inf false) h = refl
from_infinity (fin s m e) h = absurd (false≢true h)

sqrt_infinity : (f : Format) → sqrt_in f (inf false) ≡ inf false
unfolding sqrt_in
sqrt_infinity f = refl

sqrt-zero : (f : Format) (s : Bool) (e : ℤ) → sqrt_in f (fin s 0 e) ≡ fin s 0 e
unfolding sqrt_in
sqrt-zero f s e = refl

pub zero-least : (s : Bool) (e : ℤ) → le (fin s 0 e) zero_f ≡ true
unfolding lt is_nan
zero-least s e = not_lt_le (fin s 0 e) zero_f (number s e) zero_number (go s)
  where
    number : (s : Bool) (e : ℤ) → is_nan (fin s 0 e) ≡ false
    number s e = refl

    go : (s : Bool) → lt zero_f (fin s 0 e) ≡ false
    go true = refl
    go false = le-ltb (0 * 1 * down e) (0 * up e * 1) (omega (arith, zero-mul (up e)))

pub is-nan : is_nan nan ≡ true
unfolding is_nan
is-nan = refl

-- a value above zero, and what is at or above it
from_positive : (f : Format) (x y : Float) → T (fits f x) → T (fits f y) → T (positive x) → le zero_f x ≡ true → le x y ≡ true → le (sqrt_in f x) (sqrt_in f y) ≡ true
from_positive f x y h k p z o = go y k o (above_of_le x y p (subst T (sym o) tt))
  where
    go : (y : Float) → T (fits f y) → le x y ≡ true → T (above y) → le (sqrt_in f x) (sqrt_in f y) ≡ true
    go nan k o a = absurd a
    go (inf true) k o a = absurd a
    go (inf false) k o a = rw sqrt_infinity (to_infinity (sqrt_in f x) (sqrt-number f x z))
    go (fin true n d) k o a = absurd a
    go (fin false n d) k o a = positive_mono f x (fin false n d) h k p a o

pub sqrt_monotone : (f : Format) (x y : Float) → T (fits f x) → T (fits f y) → le zero_f x ≡ true → le x y ≡ true → le (sqrt_in f x) (sqrt_in f y) ≡ true
sqrt_monotone f nan y h k z o = clash is-nan (le_left nan y o)
sqrt_monotone f (inf true) y h k z o = clash z no_minus_infinity
sqrt_monotone f (inf false) y h k z o = subst (λ (y : Float). le (sqrt_in f (inf false)) (sqrt_in f y) ≡ true) (sym (from_infinity y o)) (le_self (sqrt_in f (inf false)) (sqrt-number f (inf false) z))
sqrt_monotone f (fin s zero e) y h k z o =
    rw sqrt-zero (le_join (fin s 0 e) zero_f (sqrt_in f y) (zero-least s e) (sqrt_from_zero f y (le_join zero_f (fin s 0 e) y z o)))
sqrt_monotone f (fin true (suc m) e) y h k z o = clash z (below-zero m e)
sqrt_monotone f (fin false (suc m) e) y h k z o = from_positive f (fin false (suc m) e) y h k (lt→ltb 0 (suc m) (zero-lt-suc m)) z o

-- ---- it is exact on squares
le_of_squares : (a b : ℕ) → a * a ≤ b * b → a ≤ b
le_of_squares a b h = le_of_suc-le-suc (lt_of_not-le (λ (g : suc b ≤ a). let e : b + 1 ≤ a = omega arith in omega (arith, square_suc b, mul-le-mul e e)))

-- a number of p digits, m * 2 ^ j, is the multiple of 2 ^ k nearest to the root of its square
square_near : (p N m j q k : ℕ) → 0 < p → m < 2 ^ p → N ≡ m * 2 ^ j * (m * 2 ^ j) → Near p N q k → 4 * N < (2 * q + 1) * (2 * q + 1) * (2 ^ k * 2 ^ k) → q * 2 ^ k ≡ m * 2 ^ j
square_near p N m j q k P M e n below = ap (λ (x : ℕ). x * 2 ^ k) (le_antisymm
    (half q w (le_of_squares (2 * q - 1) (2 * w) (le_of_lt (lt_of_mul-lt-mul_right u (lt_of_lt_of_le n.above (le_of_eq four))))))
    (half' w q (le_of_squares (2 * w) (2 * q + 1) (le_of_lt (lt_of_mul-lt-mul_right u (lt_of_le_of_lt (le_of_eq (sym four)) below)))))) ∙ sym b_is
  where
    u : ℕ
    u = 2 ^ k * 2 ^ k

    w : ℕ
    w = m * 2 ^ (j - k)

    least : p - 1 + k < p + j
    least = pow_lt_back (p - 1 + k) (p + j) (lt_of_le_of_lt (le_of_squares (2 ^ (p - 1 + k)) (m * 2 ^ j) (le_trans n.least (le_of_eq e))) (shl_lt p j M))

    split : (p j k : ℕ) → 0 < p → p - 1 + k < p + j → j ≡ j - k + k
    split p j k P h = omega arith

    b_is : m * 2 ^ j ≡ w * 2 ^ k
    b_is = ap (λ (x : ℕ). m * 2 ^ x) (split p j k P least) ∙ ap (λ (x : ℕ). m * x) (pow-add 2 (j - k) k) ∙ sym (mul_assoc m (2 ^ (j - k)) (2 ^ k))

    four : 4 * N ≡ 2 * w * (2 * w) * u
    four = ap (λ (x : ℕ). 4 * x) (e ∙ ap (λ (x : ℕ). x * x) b_is ∙ mul-mul-mul_comm w (2 ^ k) w (2 ^ k)) ∙ sym (mul_assoc 4 (w * w) u) ∙ ap (λ (x : ℕ). x * u) (sym (square_double w))

    half : (a b : ℕ) → 2 * a - 1 ≤ 2 * b → a ≤ b
    half a b h = omega arith

    half' : (a b : ℕ) → 2 * a ≤ 2 * b + 1 → a ≤ b
    half' a b h = omega arith

zero-value : (x : Float) (c : ℕ) → 0 < c → HasValue x false 0 c → (f : Format) → sqrt_in f x ≡ x
zero-value nan c C v f = absurd v
zero-value (inf s) c C v f = absurd v
zero-value (fin s zero e) c C v f = sqrt-zero f s e
zero-value (fin s (suc m) e) c C v f = absurd (lt_irrefl 0 (subst (λ (z : ℕ). 0 < z) (v.1 ∙ zero-mul (down e)) (mul-pos (mul-pos (zero-lt-suc m) (up_pos e)) C)))

-- where y is n * 2 ^ j units, and its square is N units over
square_units : (n l c a b : ℕ) → 0 < c → a * a * 2 ^ l ≡ n * (c * c) → a * 2 ^ l ≡ b * c → n * 2 ^ l ≡ b * b
square_units n l c a b C x y =
    eq_of_mul-eq-mul_right (c * c) (mul-pos C C) (n * 2 ^ l) (b * b)
    (mul_right_comm n (2 ^ l) (c * c) ∙ ap (λ (z : ℕ). z * 2 ^ l) (sym x) ∙ mul_assoc (a * a) (2 ^ l) (2 ^ l)
    ∙ mul-mul-mul_comm a a (2 ^ l) (2 ^ l) ∙ ap (λ (z : ℕ). z * z) y ∙ mul-mul-mul_comm b c b c)

positive_square : (f : Format) (x y : Float) (a c : ℕ) → 0 < a → 0 < c → T (fits f x) → T (fits f y) → HasValue y false a c → HasValue x false (a * a) (c * c) → sqrt_in f x ≡ y
positive_square f x nan a c A C h k v w = absurd v
positive_square f x (inf s) a c A C h k v w = absurd v
positive_square f x (fin true n d) a c A C h k v w = absurd (true≢false v.0)
positive_square f x (fin false zero d) a c A C h k v w = absurd (lt_irrefl 0 (ltb→lt 0 0 (positive_of_value (fin false 0 d) a c v A)))
positive_square f x (fin false (suc n) d) a c A C h k v w =
    let y = fin false (suc n) d in
    let l = low f in
    let g = fits-held f false n d k in
    let r = sqrt-nearest f x h (positive_of_value x (a * a) (c * c) w (mul-pos A A)) in
    let u = in_units l (suc n) d g.deep in
    let b = suc n * 2 ^ u.0 in
    let e : r.n * 2 ^ l ≡ b * b = square_units r.n l c a b C (one_size x false (a * a) (c * c) r.n (2 ^ l) w r.of) (one_size y false a c b (2 ^ l) v (refl, u.1)) in
    let q : r.q * 2 ^ r.k ≡ b = square_near (prec f) (r.n * 2 ^ l) (suc n) u.0 r.q r.k (two-le_pos (prec f) (two f)) g.digits e (near (prec f) l x (sqrt_in f x) r) r.below in
    value_unique f (sqrt_in f x) y false b (2 ^ l) (pow_pos l) (sqrt-fits f x h) k (subst (λ (z : ℕ). HasValue (sqrt_in f x) false z (2 ^ l)) q r.is) (refl, u.1)

-- Where y is a / c and x is its square, the root of x is y.
pub sqrt_square : (f : Format) (x y : Float) (a c : ℕ) → 0 < c → T (fits f x) → T (fits f y) → HasValue y false a c → HasValue x false (a * a) (c * c) → sqrt_in f x ≡ y
sqrt_square f x y zero c C h k v w =
    zero-value x (c * c) (mul-pos C C) w f ∙ value_unique f x y false 0 (c * c) (mul-pos C C) h k w (rescale y false 0 c 0 (c * c) C (zero-mul (c * c) ∙ sym (zero-mul c)) v)
sqrt_square f x y (suc a) c C h k v w = positive_square f x y (suc a) c (zero-lt-suc a) C h k v w

-- ---- of any two, NaN and those below zero too
-- where there is no root
sqrt-none : (f : Format) (x : Float) → le zero_f x ≡ false → is_nan (sqrt_in f x) ≡ true
unfolding sqrt_in is_nan
sqrt-none f nan h = refl
sqrt-none f (inf true) h = refl
sqrt-none f (inf false) h = clash (not_lt_le zero_f (inf false) zero_number refl infinity_not_below) h
sqrt-none f (fin s zero e) h = clash (not_lt_le zero_f (fin s zero e) zero_number refl (zero_not_below s e)) h
sqrt-none f (fin true (suc m) e) h = refl
sqrt-none f (fin false (suc m) e) h = clash (not_lt_le zero_f (fin false (suc m) e) zero_number refl (not-below (suc m) e)) h

pub sqrt_no_less : (f : Format) (x y : Float) → T (fits f x) → T (fits f y) → le x y ≡ true → lt (sqrt_in f y) (sqrt_in f x) ≡ false
sqrt_no_less f x y h k o =
    by_test (le zero_f x) (λ z. le_not_lt (sqrt_in f x) (sqrt_in f y) (sqrt_monotone f x y h k z o))
    (λ z. by_test (lt (sqrt_in f y) (sqrt_in f x)) (λ g. clash (sqrt-none f x z) (le_right (sqrt_in f y) (sqrt_in f x) (lt-le (sqrt_in f y) (sqrt_in f x) g))) (λ g. g))
