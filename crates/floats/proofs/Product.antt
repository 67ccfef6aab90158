-- The rounded root of a rounded square is the number that was squared, where its square is neither too small nor too large for the format (`product_root`).
-- The number is q * 2 ^ k units for a q of 53 digits. Rounding moves q * q to a multiple of 2 ^ 52 or 2 ^ 53, so by less than q, and its root by less than 1/2.
-- Assumes nothing.
use Rattle.std.proofs.Common.{◌≡◌, ℕ, zero, suc, ◌+◌, ◌-◌, ◌*◌, ◌/◌, ◌%◌, ◌^◌, ◌<◌, ◌≤◌, true, false, not, T, sym, refl, ap, ◌∙◌, subst, le_trans, le_of_eq, lt_of_lt_of_le, lt_of_le_of_lt, lt_irrefl, mul-le-mul_right, mod-lt, zero-lt-suc, mul_assoc, suc-mul, div-lt_iff_lt-mul, add-mul, mul-le-mul, lt_of_mul-lt-mul_right, mul-pos, one-mul, lt_of_not-le, div-add-mod', le-div_iff_mul-le, mul-one, not-le_of_lt, le-mul_of_pos_right, le_of_mul-le-mul_right, arith, lit<, lit≤, eqb→eq, ltb→lt, leb→le, pow_pos, pow_mono, pow-add, shl_lt}
use Prim.Native.Nat.{compare, Ordering}
use native.Mathlib.Nat.{mul-mul-mul_comm}
use native.Mathlib.Decide.{dec_le}
use lib.Dec.{is_le, compare_is_eq, nleb→lt}
use lib.Ieee.{Float, nan, inf, fin, binary64, size, nearest, odd, round, le}
use lib.Ieee.Digits.{size-lt, size-le, size_reaches}
use lib.Ieee.Exact.{HasValue, odd_sign}
use lib.Ieee.Fits.{mul-fits}
use lib.Ieee.Nearest.{closest, closest_same}
use lib.Ieee.Order.{drop, kept}
use lib.Ieee.Positive.{positive, first_pos, between, mul_at, values_of_le}
use lib.Ieee.Scale.{grid, round_val}
use Rattle.floats.specs.Rounded.{◌⊗◌, pow2, pow2⁻}
use Rattle.floats.specs.Posts.{Rounded}
use Rattle.floats.specs.Tests.{Binary64}
use Rattle.floats.specs.Sqrt.{root_of, sqrt_of}
use Rattle.floats.proofs.Held.{fits-held}
use Rattle.floats.proofs.Unique.{value_unique}
use Rattle.floats.proofs.Near.{Near, root_of-near, sqrt-value}
use Rattle.floats.proofs.Exact.{in_units, pow_lt_back}
use Rattle.floats.proofs.Roots.{sqrt-fits}
use Rattle.floats.proofs.Squares.{rounded_of}
use Rattle.floats.proofs.Patterns.{near, spread}

-- ---- a fraction rounded to a whole number moves by 1/2 at most
half_off : (a d : ℕ) → 0 < d → (a * 2 ≤ closest a d * d * 2 + d) × (closest a d * d * 2 ≤ a * 2 + d)
half_off a d D = go (compare (x * 2) d) (leb→le (x * 2) d) (nleb→lt (x * 2) d) (eqb→eq (x * 2) d)
  where
    w : ℕ
    w = a / d

    x : ℕ
    x = a % d

    go : (o : Ordering) → (T (is_le o) → x * 2 ≤ d) → (T (not (is_le o)) → d < x * 2) → (T (compare_is_eq o) → x * 2 ≡ d)
        → (a * 2 ≤ nearest w o * d * 2 + d) × (nearest w o * d * 2 ≤ a * 2 + d)
    go Ordering.lt h k e = omega (arith, div-add-mod' a d, h tt)
    go Ordering.eq h k e = omega (arith, div-add-mod' a d, e tt, add-mul w (w % 2) d, mul-le-mul_right d (bit w), one-mul d)
      where
        bit : (w : ℕ) → w % 2 ≤ 1
        bit w = omega arith
    go Ordering.gt h k e = omega (arith, div-add-mod' a d, k tt, mod-lt a D, suc-mul w d)

-- ---- the square of a q of 53 digits has j digits more, 52 or 53. Rounded to 53 digits it is s * 2 ^ 52
record Squared (q : ℕ) : Type 0 where
  j : ℕ
  s : ℕ
  more : 52 ≤ j
  least : 2 ^ (52 + j) ≤ q * q
  most : q * q < 2 ^ (53 + j)
  is : closest (q * q) (2 ^ j) * 2 ^ j ≡ s * 2 ^ 52
  from : 2 ^ 52 ≤ s
  to : s < 2 ^ 54
  -- and q is nearest to the root of that
  rounded : Rounded (s * 2 ^ 52) q

squared : (q : ℕ) → 2 ^ 52 ≤ q → q < 2 ^ 53 → Squared q
squared q A B = go (dec_le (2 ^ 105) (q * q))
  where
    lo : 2 ^ 104 ≤ q * q
    lo = mul-le-mul A A

    hi : q * q ≤ (2 ^ 53 - 1) * (2 ^ 53 - 1)
    hi = let h : q ≤ 2 ^ 53 - 1 = omega arith in mul-le-mul h h

    go : Dec (2 ^ 105 ≤ q * q) → Squared q
    go (no h) =
        let t = closest (q * q) (2 ^ 52) in
        let o = half_off (q * q) (2 ^ 52) (pow_pos 52) in
        record {
          j = 52;
          s = t;
          more = lit≤ tt;
          least = lo;
          most = omega arith;
          is = refl;
          from = omega (arith, o, lo);
          to = omega (arith, o);
          rounded = rounded_of t q (omega (arith, o, lo)) (omega (arith, o)) (omega arith) (omega (arith, o)) (omega (arith, o));
        }
    go (yes h) =
        let t = closest (q * q) (2 ^ 53) in
        let o = half_off (q * q) (2 ^ 53) (pow_pos 53) in
        let g : 2 ^ 52 < q = lt_of_not-le (λ (l : q ≤ 2 ^ 52). omega (arith, mul-le-mul l l)) in
        record {
          j = 53;
          s = 2 * t;
          more = lit≤ tt;
          least = h;
          most = omega (arith, hi);
          is = omega arith;
          from = omega (arith, o);
          to = omega (arith, o, hi);
          rounded = rounded_of (2 * t) q (omega (arith, o)) (omega (arith, o, hi)) (omega arith) (omega (arith, o)) (omega (arith, o));
        }

-- ---- rounding a * 2 ^ i / 2 ^ g, where a has 53 digits and j more: what is dropped and kept
module _ (a i j g d : ℕ) (lo : 2 ^ (52 + j) ≤ a) (hi : a < 2 ^ (53 + j)) (e : i + j ≡ g + d) where
  dropped : drop 53 (a * 2 ^ i) (2 ^ g) ≡ d
  dropped =
      only z d
      (size-le v (53 + d) ((div-lt_iff_lt-mul (pow_pos g)).1 (lt_of_lt_of_le (shl_lt (53 + j) i hi) (le_of_eq (same 53)))))
      (lt_of_not-le (λ (h : z ≤ 52 + d). lt_irrefl v (lt_of_lt_of_le (size-lt v) (le_trans (pow_mono h) ((le-div_iff_mul-le (pow_pos g)).1
      (le_trans (le_of_eq (sym (same 52) ∙ pow-add 2 (52 + j) i)) (mul-le-mul_right (2 ^ i) lo)))))))
    where
      v : ℕ
      v = a * 2 ^ i / 2 ^ g

      z : ℕ
      z = size v

      only : (z d : ℕ) → z ≤ 53 + d → 52 + d < z → z - 53 ≡ d
      only z d h k = omega arith

      turn : (c i j g d : ℕ) → i + j ≡ g + d → c + j + i ≡ c + d + g
      turn c i j g d e = omega arith

      same : (c : ℕ) → 2 ^ (c + j + i) ≡ 2 ^ (c + d) * 2 ^ g
      same c = ap (λ (x : ℕ). 2 ^ x) (turn c i j g d e) ∙ pow-add 2 (c + d) g

  kept_is : kept 53 (a * 2 ^ i) (2 ^ g) ≡ closest a (2 ^ j)
  kept_is =
      ap (λ (x : ℕ). closest (a * 2 ^ i) (2 ^ g * 2 ^ x)) dropped
      ∙ closest_same (a * 2 ^ i) (2 ^ g * 2 ^ d) a (2 ^ j) (mul-pos (pow_pos g) (pow_pos d)) (pow_pos j)
      (mul_assoc a (2 ^ i) (2 ^ j) ∙ ap (λ (x : ℕ). a * x) (sym (pow-add 2 i j) ∙ ap (λ (x : ℕ). 2 ^ x) e ∙ pow-add 2 g d))

-- ---- the number is q * 2 ^ k units
module _ (q k : ℕ) (K : 522 ≤ k) (K' : k ≤ 1522) (w : Squared q) where
  abbrev b : ℕ
  b = q * 2 ^ k

  abbrev d : ℕ
  d = k + k + w.j - 1074

  -- its square, rounded, in units
  abbrev n : ℕ
  n = closest (q * q) (2 ^ w.j) * 2 ^ d

  grid-is : grid binary64 (b * b) (2 ^ 1074 * 2 ^ 1074) ≡ n
  grid-is =
      let i = k + k + 1074 in
      let e : i + w.j ≡ 2148 + d = omega (arith, w.more) in
      ap (λ (x : ℕ). kept 53 x (2 ^ 2148) * 2 ^ drop 53 x (2 ^ 2148))
      (ap (λ (x : ℕ). x * 2 ^ 1074) (mul-mul-mul_comm q (2 ^ k) q (2 ^ k) ∙ ap (λ (x : ℕ). q * q * x) (sym (pow-add 2 k k)))
      ∙ mul_assoc (q * q) (2 ^ (k + k)) (2 ^ 1074) ∙ ap (λ (x : ℕ). q * q * x) (sym (pow-add 2 (k + k) 1074)))
      ∙ ap (λ (x : ℕ). x * 2 ^ drop 53 (q * q * 2 ^ i) (2 ^ 2148)) (kept_is (q * q) i w.j 2148 d w.least w.most e)
      ∙ ap (λ (x : ℕ). closest (q * q) (2 ^ w.j) * 2 ^ x) (dropped (q * q) i w.j 2148 d w.least w.most e)

  -- what the root is taken of
  radicand : n * 2 ^ 1074 ≡ w.s * 2 ^ 52 * (2 ^ k * 2 ^ k)
  radicand =
      let c = closest (q * q) (2 ^ w.j) in
      let e : d + 1074 ≡ w.j + (k + k) = omega (arith, w.more) in
      mul_assoc c (2 ^ d) (2 ^ 1074) ∙ ap (λ (x : ℕ). c * x) (sym (pow-add 2 d 1074) ∙ ap (λ (x : ℕ). 2 ^ x) e ∙ spread w.j k)
      ∙ sym (mul_assoc c (2 ^ w.j) (2 ^ k * 2 ^ k)) ∙ ap (λ (x : ℕ). x * (2 ^ k * 2 ^ k)) w.is

  is-near : Near 53 (w.s * 2 ^ 52 * (2 ^ k * 2 ^ k)) q k
  is-near = near w.s q k w.from w.to w.rounded

  root_is : root_of 53 1074 (n * 2 ^ 1074) ≡ odd 53 false q k 1074
  root_is =
      let N = w.s * 2 ^ 52 in
      let u = 2 ^ k * 2 ^ k in
      ap (root_of 53 1074) radicand ∙ root_of-near 53 1074 (N * u) q k (lit< tt) (le_trans (omega (arith, w.from)) (le-mul_of_pos_right N (mul-pos (pow_pos k) (pow_pos k)))) is-near

  not_too_large : n < 2 ^ 2098
  not_too_large =
      lt_of_mul-lt-mul_right (2 ^ 1074)
      (lt_of_le_of_lt (le_of_eq radicand) (lt_of_lt_of_le is-near.most (le_trans (le_of_eq (sym (pow-add 2 (53 + k) (53 + k)))) (pow_mono room))))
    where
      room : 53 + k + (53 + k) ≤ 3172
      room = omega arith

  above_zero : 0 < n
  above_zero = first_pos n (2 ^ 1074) (subst (λ (x : ℕ). 0 < x) (sym radicand) (mul-pos (omega (arith, w.from)) (mul-pos (pow_pos k) (pow_pos k))))

  at_units : (r : Float) → Binary64 r → T (positive r) → HasValue r false b (2 ^ 1074) → sqrt_of (r ⊗ r) ≡ r
  unfolding sqrt_of
  at_units r h p v =
      let x = r ⊗ r in
      let L : 0 < 2 ^ 1074 = pow_pos 1074 in
      let square : HasValue x false n (2 ^ 1074) =
      subst (λ (y : Float). HasValue y false n (2 ^ 1074)) (sym (mul_at binary64 r r b (2 ^ 1074) b (2 ^ 1074) p p L L v v))
      (subst (λ (y : ℕ). HasValue (round binary64 false (b * b) (2 ^ 1074 * 2 ^ 1074)) false y (2 ^ 1074)) grid-is
      (round_val binary64 (b * b) (2 ^ 1074 * 2 ^ 1074) (subst (λ (y : ℕ). y < 2 ^ 2098) (sym grid-is) not_too_large))) in
      value_unique binary64 (sqrt_of x) r false b (2 ^ 1074) L (sqrt-fits binary64 x (mul-fits binary64 r r)) h
      (subst (λ (y : Float). HasValue y false b (2 ^ 1074)) (sym (sqrt-value binary64 x n above_zero square ∙ root_is)) (odd_sign 53 false q k 1074)) v

-- ---- the 53 digits of a value that is not too small: m has z of them, and zeros follow
record Digits (b : ℕ) : Type 0 where
  q : ℕ
  k : ℕ
  from : 2 ^ 52 ≤ q
  to : q < 2 ^ 53
  is : b ≡ q * 2 ^ k

digits_of : (m j : ℕ) → 0 < m → m < 2 ^ 53 → 2 ^ 52 ≤ m * 2 ^ j → Digits (m * 2 ^ j)
digits_of m j P M h =
    let z = size m in
    let i = 53 - z in
    let Z : z ≤ 53 = size-le m 53 M in
    let z-pos : 0 < z = lt_of_not-le (λ (g : z ≤ 0). not-le_of_lt (lt_of_lt_of_le (size-lt m) (pow_mono g)) P) in
    let J : 52 < z + j = pow_lt_back 52 (z + j) (lt_of_le_of_lt h (shl_lt z j (size-lt m))) in
    record {
      q = m * 2 ^ i;
      k = j - i;
      from = le_trans (le_of_eq (ap (λ (x : ℕ). 2 ^ x) (first z z-pos Z) ∙ pow-add 2 (z - 1) i)) (mul-le-mul_right (2 ^ i) (size_reaches m (z - 1) (last z z-pos)));
      to = lt_of_lt_of_le (shl_lt z i (size-lt m)) (le_of_eq (ap (λ (x : ℕ). 2 ^ x) (all z Z)));
      is = ap (λ (x : ℕ). m * 2 ^ x) (rest z j Z J) ∙ ap (λ (x : ℕ). m * x) (pow-add 2 i (j - i)) ∙ sym (mul_assoc m (2 ^ i) (2 ^ (j - i)));
    }
  where
    first : (z : ℕ) → 0 < z → z ≤ 53 → 52 ≡ z - 1 + (53 - z)
    first z P Z = omega arith

    last : (z : ℕ) → 0 < z → z - 1 < z
    last z P = omega arith

    all : (z : ℕ) → z ≤ 53 → z + (53 - z) ≡ 53
    all z Z = omega arith

    rest : (z j : ℕ) → z ≤ 53 → 52 < z + j → j ≡ 53 - z + (j - (53 - z))
    rest z j Z J = omega arith

-- ---- a value in the range
in_range : (r : Float) (b : ℕ) → T (positive r) → HasValue r false b (2 ^ 1074) → le (pow2⁻ 500) r ≡ true → le r (pow2 500) ≡ true → (2 ^ 574 ≤ b) × (b ≤ 2 ^ 1574)
in_range r b p v lo hi =
    let l : 2 ^ 574 * 2 ^ 500 ≤ b * 2 ^ 500 = values_of_le (pow2⁻ 500) r 1 (2 ^ 500) b (2 ^ 1074) tt p (refl, refl) v (subst T (sym lo) tt) in
    let g : b * 1 ≤ 2 ^ 1574 = values_of_le r (pow2 500) b (2 ^ 1074) (2 ^ 500) 1 p tt v (refl, refl) (subst T (sym hi) tt) in
    (le_of_mul-le-mul_right l (pow_pos 500), le_trans (le_of_eq (sym (mul-one b))) g)

pub product_root : (r : Float) → Binary64 r → le (pow2⁻ 500) r ≡ true → le r (pow2 500) ≡ true → sqrt_of (r ⊗ r) ≡ r
product_root r h lo hi = go r h lo hi (between (pow2⁻ 500) r (pow2 500) tt tt (subst T (sym lo) tt) (subst T (sym hi) tt))
  where
    go : (r : Float) → Binary64 r → le (pow2⁻ 500) r ≡ true → le r (pow2 500) ≡ true → T (positive r) → sqrt_of (r ⊗ r) ≡ r
    go nan h lo hi p = absurd p
    go (inf s) h lo hi p = absurd p
    go (fin true m e) h lo hi p = absurd p
    go (fin false zero e) h lo hi p = absurd (lt_irrefl 0 (ltb→lt 0 0 p))
    go (fin false (suc m) e) h lo hi p =
        let r = fin false (suc m) e in
        let g = fits-held binary64 false m e h in
        let u = in_units 1074 (suc m) e g.deep in
        let b = suc m * 2 ^ u.0 in
        let w = in_range r b p (refl, u.1) lo hi in
        let c = digits_of (suc m) u.0 (zero-lt-suc m) g.digits (le_trans (lit≤ tt) w.0) in
        let K : 574 < 53 + c.k = pow_lt_back 574 (53 + c.k) (lt_of_le_of_lt w.0 (lt_of_le_of_lt (le_of_eq c.is) (shl_lt 53 c.k c.to))) in
        let K' : 52 + c.k < 1575 = pow_lt_back (52 + c.k) 1575
        (lt_of_le_of_lt (le_trans (le_of_eq (pow-add 2 52 c.k)) (le_trans (mul-le-mul_right (2 ^ c.k) c.from) (le_trans (le_of_eq (sym c.is)) w.1))) (lit< tt)) in
        at_units c.q c.k (omega arith) (omega arith) (squared c.q c.from c.to) r h p (subst (λ (x : ℕ). HasValue r false x (2 ^ 1074)) c.is (refl, u.1))
