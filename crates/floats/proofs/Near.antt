-- The arithmetic of `root_of`: its result is the multiple of a power of two that is nearest to an exact root (`root-near`), and there is only one (`unique`). `Exact.antt` says it of values.
-- Assumes nothing.
use Rattle.std.proofs.Common.{◌≡◌, ℕ, zero, suc, ◌+◌, ◌-◌, ◌*◌, ◌/◌, ◌^◌, ◌<◌, ◌≤◌, Bool, true, false, cond, not, T, ltb, leb, ℤ, sym, refl, ap, ◌∙◌, subst, true≢false, zero-le, le_trans, le_refl, lt_of_lt_of_le, le_of_suc-le-suc, lt_irrefl, mul-le-mul_right, zero-lt-suc, mul_assoc, div-lt_iff_lt-mul, add-mul, mul-le-mul, le_antisymm, mul-lt-mul_of_pos_right, mul-pos, pow-suc, lt_of_not-le, le-div_iff_mul-le, zero-mul, mul-add, not-le_of_lt, mul-div_cancel, arith, ltb→lt, leb→le, nltb→le, pow_pos, pow_mono, pow-add}
use native.Mathlib.Nat.{mul-mul-mul_comm}
use lib.Dec.{nleb→lt}
use lib.Ieee.{Float, nan, inf, fin, Format, prec, low, up, down, size, odd}
use lib.Ieee.Digits.{size-lt, size_reaches}
use lib.Ieee.Fits.{down_pos}
use lib.Ieee.Exact.{HasValue}
use Rattle.floats.specs.Sqrt.{root, root_of, sqrt_in}

-- ---- squares
pub square_suc : (a : ℕ) → (a + 1) * (a + 1) ≡ a * a + 2 * a + 1
square_suc a = omega (arith, add-mul a 1 (a + 1), mul-add a a 1)

pub square_double : (a : ℕ) → 2 * a * (2 * a) ≡ 4 * (a * a)
square_double a = mul-mul-mul_comm 2 a 2 a

pub square_odd : (a : ℕ) → (2 * a + 1) * (2 * a + 1) ≡ 4 * (a * a) + 4 * a + 1
square_odd a = omega (arith, square_suc (2 * a), square_double a)

-- ---- the root of a whole number
abbrev IsRoot : ℕ → ℕ → Type 0
IsRoot n r = (r * r ≤ n) × (n < (r + 1) * (r + 1))

root-step : (n r : ℕ) → r * r ≤ n / 4 → n / 4 < (r + 1) * (r + 1) → (b : Bool) → (T b → (2 * r + 1) * (2 * r + 1) ≤ n)
    → (T (not b) → n < (2 * r + 1) * (2 * r + 1)) → IsRoot n (cond b (2 * r + 1) (2 * r))
root-step n r h k true y z = (y tt, omega (arith, square_suc r, square_suc (2 * r + 1), square_odd r))
root-step n r h k false y z = (omega (arith, square_double r), z tt)

quarter : (d : ℕ) → 2 ^ suc d * 2 ^ suc d ≡ 2 ^ d * 2 ^ d * 4
quarter d = ap (λ (x : ℕ). x * x) (pow-suc 2 d) ∙ mul-mul-mul_comm (2 ^ d) 2 (2 ^ d) 2

root_is : (d n : ℕ) → n < 2 ^ d * 2 ^ d → IsRoot n (root d n)
unfolding root
root_is zero n h = (zero-le, h)
root_is (suc d) n h =
    let r = root d (n / 4) in
    let i = root_is d (n / 4) ((div-lt_iff_lt-mul (zero-lt-suc 3)).1 (subst (λ (x : ℕ). n < x) (quarter d) h)) in
    let s = (2 * r + 1) * (2 * r + 1) in
    root-step n r i.0 i.1 (leb s n) (leb→le s n) (nleb→lt s n)

-- ---- q * 2 ^ k is the multiple of 2 ^ k nearest to √N, and k is such that √N / 2 ^ k has p digits before its point
-- A tie would go down, and `Exact.antt` shows that a value meets none.
pub record Near (p N q k : ℕ) : Type 0 where
  pub least : 2 ^ (p - 1 + k) * 2 ^ (p - 1 + k) ≤ N
  pub most : N < 2 ^ (p + k) * 2 ^ (p + k)
  pub above : (2 * q - 1) * (2 * q - 1) * (2 ^ k * 2 ^ k) < 4 * N
  pub below : 4 * N ≤ (2 * q + 1) * (2 * q + 1) * (2 ^ k * 2 ^ k)

-- ---- there is one such q and k
pub lower_k : (p N q k N' q' k' : ℕ) → 0 < p → N ≤ N' → Near p N q k → Near p N' q' k' → k ≤ k'
lower_k p N q k N' q' k' P n a b = le_of_suc-le-suc (lt_of_not-le (λ (g : suc k' ≤ k).
    let h : p + k' ≤ p - 1 + k = omega arith in
    not-le_of_lt b.most (le_trans (mul-le-mul (pow_mono h) (pow_mono h)) (le_trans a.least n))))

pub lower_q : (N q q' u : ℕ) → (2 * q - 1) * (2 * q - 1) * u < 4 * N → 4 * N ≤ (2 * q' + 1) * (2 * q' + 1) * u → q ≤ q'
lower_q N q q' u a b = le_of_suc-le-suc (lt_of_not-le (λ (g : suc q' ≤ q).
    let h : 2 * q' + 1 ≤ 2 * q - 1 = omega arith in
    not-le_of_lt a (le_trans b (mul-le-mul_right u (mul-le-mul h h)))))

pub unique : (p N q k q' k' : ℕ) → 0 < p → Near p N q k → Near p N q' k' → (k ≡ k') × (q ≡ q')
unique p N q k q' k' P a b =
    let e : k ≡ k' = le_antisymm (lower_k p N q k N q' k' P (le_refl N) a b) (lower_k p N q' k' N q k P (le_refl N) b a) in
    let a' : (2 * q - 1) * (2 * q - 1) * (2 ^ k' * 2 ^ k') < 4 * N = subst (λ (j : ℕ). (2 * q - 1) * (2 * q - 1) * (2 ^ j * 2 ^ j) < 4 * N) e a.above in
    let b' : 4 * N ≤ (2 * q + 1) * (2 * q + 1) * (2 ^ k' * 2 ^ k') = subst (λ (j : ℕ). 4 * N ≤ (2 * q + 1) * (2 * q + 1) * (2 ^ j * 2 ^ j)) e a.below in
    (e, le_antisymm (lower_q N q q' (2 ^ k' * 2 ^ k') a' b.below) (lower_q N q' q (2 ^ k' * 2 ^ k') b.above b'))

-- ---- `root_of` finds it
size_gt : (n j : ℕ) → 2 ^ j ≤ n → j < size n
size_gt n j h = lt_of_not-le (λ (g : size n ≤ j). not-le_of_lt (lt_of_lt_of_le (size-lt n) (pow_mono g)) h)

lowest : (p k z : ℕ) → 0 < p → 2 * p - 2 < z → k ≡ (z - (2 * p - 1)) / 2 → p - 1 + k + (p - 1 + k) < z
lowest p k z P h e = omega arith

highest : (p k z : ℕ) → 0 < p → 2 * p - 2 < z → k ≡ (z - (2 * p - 1)) / 2 → z ≤ p + k + (p + k)
highest p k z P h e = omega arith

-- the whole part's square, times 4 ^ k
under_next : (N r u : ℕ) → N < (r + 1) * (r + 1) * u → 4 * N ≤ (2 * (r + 1) + 1) * (2 * (r + 1) + 1) * u
under_next N r u h =
    let y = (r + 1) * (r + 1) in
    let g : 4 * y ≤ (2 * (r + 1) + 1) * (2 * (r + 1) + 1) = omega (arith, square_odd (r + 1)) in
    le_trans (omega (arith, mul_assoc 4 y u)) (mul-le-mul_right u g)

over_last : (N r u : ℕ) → 0 < u → 0 < N → r * r * u ≤ N → (2 * r - 1) * (2 * r - 1) * u < 4 * N
over_last N zero u U P h = subst (λ (x : ℕ). x < 4 * N) (sym (zero-mul u)) (omega arith)
over_last N (suc r) u U P h =
    let y = suc r * suc r in
    let e : 2 * suc r - 1 ≡ 2 * r + 1 = omega arith in
    let s : suc r * suc r ≡ r * r + 2 * r + 1 = ap (λ (x : ℕ). x * x) (suc-is r) ∙ square_suc r in
    let g : (2 * r + 1) * (2 * r + 1) < 4 * y = omega (arith, square_odd r) in
    subst (λ (x : ℕ). x * x * u < 4 * N) (sym e) (lt_of_lt_of_le (mul-lt-mul_of_pos_right g U) (omega (arith, mul_assoc 4 y u)))
  where
    suc-is : (x : ℕ) → suc x ≡ x + 1
    suc-is x = omega arith

pick : (p N r k : ℕ) → 0 < N → 2 ^ (p - 1 + k) * 2 ^ (p - 1 + k) ≤ N → N < 2 ^ (p + k) * 2 ^ (p + k) → r * r * (2 ^ k * 2 ^ k) ≤ N → N < (r + 1) * (r + 1) * (2 ^ k * 2 ^ k)
    → (b : Bool) → (T b → (2 * r + 1) * (2 * r + 1) * (2 ^ k * 2 ^ k) < 4 * N) → (T (not b) → 4 * N ≤ (2 * r + 1) * (2 * r + 1) * (2 ^ k * 2 ^ k)) → Near p N (cond b (r + 1) r) k
pick p N r k P lo hi h g true y z = record {
  least = lo;
  most = hi;
  above = subst (λ (x : ℕ). x * x * (2 ^ k * 2 ^ k) < 4 * N) (sym (up_one r)) (y tt);
  below = under_next N r (2 ^ k * 2 ^ k) g;
}
  where
    up_one : (r : ℕ) → 2 * (r + 1) - 1 ≡ 2 * r + 1
    up_one r = omega arith
pick p N r k P lo hi h g false y z = record { least = lo; most = hi; above = over_last N r (2 ^ k * 2 ^ k) (mul-pos (pow_pos k) (pow_pos k)) P h; below = z tt }

pub root-near : (p l N : ℕ) → 0 < p → 2 ^ (2 * p - 2) ≤ N → (q : ℕ) × (k : ℕ) × (root_of p l N ≡ odd p false q k l) × Near p N q k
unfolding root_of
root-near p l N P h =
    let z = size N in
    let k = (z - (2 * p - 1)) / 2 in
    let u = 2 ^ k * 2 ^ k in
    let r = root p (N / u) in
    let U : 0 < u = mul-pos (pow_pos k) (pow_pos k) in
    let zh : 2 * p - 2 < z = size_gt N (2 * p - 2) h in
    let lo : 2 ^ (p - 1 + k) * 2 ^ (p - 1 + k) ≤ N = subst (λ (x : ℕ). x ≤ N) (pow-add 2 (p - 1 + k) (p - 1 + k)) (size_reaches N (p - 1 + k + (p - 1 + k)) (lowest p k z P zh refl)) in
    let hi : N < 2 ^ (p + k) * 2 ^ (p + k) = subst (λ (x : ℕ). N < x) (pow-add 2 (p + k) (p + k)) (lt_of_lt_of_le (size-lt N) (pow_mono (highest p k z P zh refl))) in
    let cut : N / u < 2 ^ p * 2 ^ p = (div-lt_iff_lt-mul U).1 (subst (λ (x : ℕ). N < x) (ap (λ (x : ℕ). x * x) (pow-add 2 p k) ∙ mul-mul-mul_comm (2 ^ p) (2 ^ k) (2 ^ p) (2 ^ k)) hi) in
    let i = root_is p (N / u) cut in
    let s = (2 * r + 1) * (2 * r + 1) * u in (
      cond (ltb s (4 * N)) (r + 1) r,
      k,
      refl,
      pick p N r k (lt_of_lt_of_le (pow_pos (2 * p - 2)) h) lo hi ((le-div_iff_mul-le U).0 i.0) ((div-lt_iff_lt-mul U).0 i.1) (ltb s (4 * N)) (ltb→lt s (4 * N)) (nltb→le s (4 * N)),
    )

-- so whatever q and k are so near, they are the result
pub root_of-near : (p l N q k : ℕ) → 0 < p → 2 ^ (2 * p - 2) ≤ N → Near p N q k → root_of p l N ≡ odd p false q k l
root_of-near p l N q k P h n =
    let w = root-near p l N P h in
    let e = unique p N w.0 w.1 q k P w.3 n in
    w.2 ∙ ap (λ (x : ℕ). odd p false x w.1 l) e.1 ∙ ap (λ (x : ℕ). odd p false q x l) e.0

-- ---- the root of a value that is n units in size
at_value : (f : Format) (m : ℕ) (e : ℤ) (n : ℕ) → 0 < m → m * up e * 2 ^ low f ≡ n * down e → sqrt_in f (fin false m e) ≡ root_of (prec f) (low f) (n * 2 ^ low f)
unfolding sqrt_in
at_value f zero e n M v = absurd (lt_irrefl 0 M)
at_value f (suc m) e n M v = ap (λ (x : ℕ). root_of (prec f) (low f) (x * 2 ^ low f)) (ap (λ (x : ℕ). x / down e) v ∙ mul-div_cancel n (down_pos e))

pub sqrt-value : (f : Format) (x : Float) (n : ℕ) → 0 < n → HasValue x false n (2 ^ low f) → sqrt_in f x ≡ root_of (prec f) (low f) (n * 2 ^ low f)
sqrt-value f nan n N v = absurd v
sqrt-value f (inf s) n N v = absurd v
sqrt-value f (fin true m e) n N v = absurd (true≢false v.0)
sqrt-value f (fin false m e) n N v = at_value f m e n (positive m v.1) v.1
  where
    positive : (m : ℕ) → m * up e * 2 ^ low f ≡ n * down e → 0 < m
    positive zero h = absurd (lt_irrefl 0 (subst (λ (x : ℕ). 0 < x) (sym h ∙ ap (λ (x : ℕ). x * 2 ^ low f) (zero-mul (up e)) ∙ zero-mul (2 ^ low f)) (mul-pos N (down_pos e))))
    positive (suc m) h = zero-lt-suc m
