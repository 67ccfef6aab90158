-- The law of `sqrt_in`: of a value above zero that the format f holds, the root is finite and is the one of the format's digits nearest to the exact root, and no tie is met (`sqrt-nearest`).
-- Assumes nothing.
use Rattle.std.proofs.Common.{◌≡◌, ℕ, zero, suc, ◌+◌, ◌-◌, ◌*◌, ◌%◌, ◌^◌, ◌<◌, ◌≤◌, true, false, T, ℤ, pos, negsuc, sym, refl, ap, ◌∙◌, subst, le_trans, le_of_eq, le_refl, lt_of_lt_of_le, le_of_suc-le-suc, lt_of_le_of_lt, lt_irrefl, mul-le-mul_right, zero-lt-suc, mul_assoc, suc-mul, mul_comm, mul-le-mul, lt_of_mul-lt-mul_right, mul-le-mul_left, mul-lt-mul_of_pos_right, mul-pos, lt_of_not-le, mul-one, le-mul_of_pos_right, le_of_mul-le-mul_right, arith, ltb→lt, pow_pos, pow_mono, pow-add}
use native.Mathlib.Nat.{mul-mul-mul_comm, eq_of_mul-eq-mul_right}
use native.Mathlib.Decide.{dec_le}
use lib.Pow.{pow-lt}
use lib.Bits.{shifted_even}
use lib.Ieee.{Float, nan, inf, fin, Format, binary32, binary64, prec, low, up, down, fits}
use lib.Ieee.Fits.{two, two-le_pos}
use lib.Ieee.Exact.{HasValue, odd_sign}
use lib.Ieee.Positive.{positive}
use Rattle.floats.specs.Sqrt.{sqrt_in}
use Rattle.floats.proofs.Held.{fits-held}
use Rattle.floats.proofs.Near.{Near, square_suc, square_odd, root-near, sqrt-value}

-- y, which is q * 2 ^ k units of 2 ^ -l, is nearest to the root of x, which is n units. The root itself is √(n * 2 ^ l) units.
pub record Nearest (p l : ℕ) (x y : Float) : Type 0 where
  pub n : ℕ
  pub q : ℕ
  pub k : ℕ
  pub of : HasValue x false n (2 ^ l)
  pub is : HasValue y false (q * 2 ^ k) (2 ^ l)
  -- √(n * 2 ^ l) / 2 ^ k has p digits before its point
  pub least : 2 ^ (p - 1 + k) * 2 ^ (p - 1 + k) ≤ n * 2 ^ l
  pub most : n * 2 ^ l < 2 ^ (p + k) * 2 ^ (p + k)
  -- so has q: the format holds q * 2 ^ k
  pub leading : 2 ^ (p - 1) ≤ q
  pub digits : q < 2 ^ p
  -- and √(n * 2 ^ l) / 2 ^ k lies between q - 1/2 and q + 1/2
  pub above : (2 * q - 1) * (2 * q - 1) * (2 ^ k * 2 ^ k) < 4 * (n * 2 ^ l)
  pub below : 4 * (n * 2 ^ l) < (2 * q + 1) * (2 * q + 1) * (2 ^ k * 2 ^ k)

-- ---- there is no tie: (2 * q + 1) ^ 2 is odd, and it is larger than the value's digits
odd_square : (q y : ℕ) → y % 2 ≡ 0 → (2 * q + 1) * (2 * q + 1) ≡ y → ⊥
odd_square q y h e = omega (arith, square_odd q)

no_tie : (p m i q k : ℕ) → 0 < p → m < 2 ^ p → 2 ^ (p - 1 + k) * 2 ^ (p - 1 + k) ≤ m * 2 ^ i → 4 * (m * 2 ^ i) ≡ (2 * q + 1) * (2 * q + 1) * (2 ^ k * 2 ^ k) → ⊥
no_tie p m i q k P M lo e = go (dec_le (i + 2) (k + k))
  where
    s : ℕ
    s = (2 * q + 1) * (2 * q + 1)

    e' : m * 2 ^ (i + 2) ≡ s * 2 ^ (k + k)
    e' = ap (λ (x : ℕ). m * x) (pow-add 2 i 2) ∙ sym (mul_assoc m (2 ^ i) 4) ∙ mul_comm (m * 2 ^ i) 4 ∙ e ∙ ap (λ (x : ℕ). s * x) (sym (pow-add 2 k k))

    big : 2 ^ (p + p) ≤ s
    big = le_of_mul-le-mul_right
        (le_trans (le_of_eq (sym (pow-add 2 (p + p) (k + k)) ∙ ap (λ (x : ℕ). 2 ^ x) (sum p k P) ∙ pow-add 2 2 (p - 1 + k + (p - 1 + k)) ∙ ap (λ (x : ℕ). 4 * x) (pow-add 2 (p - 1 + k) (p - 1 + k))))
        (le_trans (mul-le-mul_left 4 lo) (le_of_eq (e ∙ ap (λ (x : ℕ). s * x) (sym (pow-add 2 k k))))))
        (pow_pos (k + k))
      where
        sum : (p k : ℕ) → 0 < p → p + p + (k + k) ≡ 2 + (p - 1 + k + (p - 1 + k))
        sum p k P = omega arith

    go : Dec (i + 2 ≤ k + k) → ⊥
    go (yes h) =
        let d = k + k - (i + 2) in
        let f : m ≡ s * 2 ^ d = eq_of_mul-eq-mul_right (2 ^ (i + 2)) (pow_pos (i + 2)) m (s * 2 ^ d)
        (e' ∙ ap (λ (x : ℕ). s * 2 ^ x) (split (i + 2) (k + k) h) ∙ ap (λ (x : ℕ). s * x) (pow-add 2 d (i + 2)) ∙ sym (mul_assoc s (2 ^ d) (2 ^ (i + 2)))) in
        lt_irrefl m (lt_of_lt_of_le M (le_trans (pow_mono (more p)) (le_trans big (le_trans (le-mul_of_pos_right s (pow_pos d)) (le_of_eq (sym f))))))
      where
        split : (a b : ℕ) → a ≤ b → b ≡ b - a + a
        split a b h = omega arith

        more : (p : ℕ) → p ≤ p + p
        more p = omega arith
    go (no h) =
        let d = i + 1 - (k + k) in
        let f : m * 2 ^ suc d ≡ s = eq_of_mul-eq-mul_right (2 ^ (k + k)) (pow_pos (k + k)) (m * 2 ^ suc d) s
        (mul_assoc m (2 ^ suc d) (2 ^ (k + k)) ∙ ap (λ (x : ℕ). m * x) (sym (pow-add 2 (suc d) (k + k)) ∙ ap (λ (x : ℕ). 2 ^ x) (split i (k + k) h)) ∙ e') in
        odd_square q (m * 2 ^ suc d) (shifted_even m d) (sym f)
      where
        split : (i b : ℕ) → (i + 2 ≤ b → ⊥) → suc (i + 1 - b) + b ≡ i + 2
        split i b h = omega arith

pub pow_lt_back : (a b : ℕ) → 2 ^ a < 2 ^ b → a < b
pow_lt_back a b h = lt_of_not-le (λ (g : b ≤ a). lt_irrefl (2 ^ a) (lt_of_lt_of_le h (pow_mono g)))

-- ---- q has at least p digits: it is nearest to what is at least 2 ^ (p - 1)
wide : (p N q k : ℕ) → Near p N q k → 2 ^ (p - 1) ≤ q
wide p N q k n = le_of_suc-le-suc (lt_of_not-le (λ (g : suc q ≤ 2 ^ (p - 1)). short g
    (le_of_mul-le-mul_right {n = (2 * q + 1) * (2 * q + 1)}
    (le_trans (le_of_eq (mul_assoc 4 (h * h) u ∙ ap (λ (x : ℕ). 4 * x) (sym squares))) (le_trans (mul-le-mul_left 4 n.least) n.below))
    (mul-pos (pow_pos k) (pow_pos k)))))
  where
    h : ℕ
    h = 2 ^ (p - 1)

    u : ℕ
    u = 2 ^ k * 2 ^ k

    squares : 2 ^ (p - 1 + k) * 2 ^ (p - 1 + k) ≡ h * h * u
    squares = ap (λ (x : ℕ). x * x) (pow-add 2 (p - 1) k) ∙ mul-mul-mul_comm h (2 ^ k) h (2 ^ k)

    short : suc q ≤ h → 4 * (h * h) ≤ (2 * q + 1) * (2 * q + 1) → ⊥
    short g c = let e : q + 1 ≤ h = omega arith in omega (arith, square_suc q, square_odd q, mul-le-mul e e)

-- ---- q has at most p digits: the value's own digits leave too little above (2 ^ p - 1/2) ^ 2
-- m * 2 ^ t is below 4 ^ p, so it is at most 4 ^ p - 2 ^ p
gap : (p m t : ℕ) → m < 2 ^ p → m * 2 ^ t < 2 ^ p * 2 ^ p → m * 2 ^ t + 2 ^ p ≤ 2 ^ p * 2 ^ p
gap p m t M h = go (dec_le t p)
  where
    short : (m P w : ℕ) → w ≤ P → m * w + P ≤ suc m * P
    short m P w k = omega (arith, suc-mul m P, mul-le-mul_left m k)

    split : (t p : ℕ) → (t ≤ p → ⊥) → t ≡ t - p + p
    split t p n = omega arith

    go : Dec (t ≤ p) → m * 2 ^ t + 2 ^ p ≤ 2 ^ p * 2 ^ p
    go (yes g) = le_trans (short m (2 ^ p) (2 ^ t) (pow_mono g)) (mul-le-mul_right (2 ^ p) M)
    go (no g) =
        let w = m * 2 ^ (t - p) in
        let e : m * 2 ^ t ≡ w * 2 ^ p = ap (λ (x : ℕ). m * 2 ^ x) (split t p g) ∙ ap (λ (x : ℕ). m * x) (pow-add 2 (t - p) p) ∙ sym (mul_assoc m (2 ^ (t - p)) (2 ^ p)) in
        subst (λ (x : ℕ). x + 2 ^ p ≤ 2 ^ p * 2 ^ p) (sym e)
        (le_trans (short w (2 ^ p) (2 ^ p) (le_refl (2 ^ p))) (mul-le-mul_right (2 ^ p) (lt_of_mul-lt-mul_right (2 ^ p) (subst (λ (x : ℕ). x < 2 ^ p * 2 ^ p) e h))))

-- and then twice it is below the odd number 2 * 2 ^ p - 1, squared and halved
under_odd : (r P y q : ℕ) → P ≡ r + 1 → y + P ≤ P * P → P ≤ q → (2 * q - 1) * (2 * q - 1) < 4 * y → ⊥
under_odd r P y q e g h k =
    let s : P * P ≡ (r + 1) * (r + 1) = ap (λ (x : ℕ). x * x) e in
    let l : 2 * r + 1 ≤ 2 * q - 1 = omega arith in
    omega (arith, square_suc r, square_odd r, mul-le-mul l l)

narrow : (p m i q k : ℕ) → 0 < p → m < 2 ^ p → 2 ^ (p - 1 + k) * 2 ^ (p - 1 + k) ≤ m * 2 ^ i → m * 2 ^ i < 2 ^ (p + k) * 2 ^ (p + k)
    → (2 * q - 1) * (2 * q - 1) * (2 ^ k * 2 ^ k) < 4 * (m * 2 ^ i) → q < 2 ^ p
narrow p m i q k P M lo hi above = lt_of_not-le (λ (g : 2 ^ p ≤ q).
    under_odd (2 ^ p - 1) (2 ^ p) w q (one (2 ^ p) (pow_pos p))
    (gap p m t M (lt_of_mul-lt-mul_right u (subst (λ (x : ℕ). x < 2 ^ p * 2 ^ p * u) e (subst (λ (x : ℕ). m * 2 ^ i < x) squares hi))))
    g
    (lt_of_mul-lt-mul_right u (subst (λ (x : ℕ). (2 * q - 1) * (2 * q - 1) * u < x) (ap (λ (x : ℕ). 4 * x) e ∙ sym (mul_assoc 4 w u)) above)))
  where
    u : ℕ
    u = 2 ^ k * 2 ^ k

    t : ℕ
    t = i - (k + k)

    w : ℕ
    w = m * 2 ^ t

    one : (x : ℕ) → 0 < x → x ≡ x - 1 + 1
    one x h = omega arith

    enough : (p i k : ℕ) → 0 < p → p - 1 + k + (p - 1 + k) < p + i → i ≡ i - (k + k) + (k + k)
    enough p i k P h = omega arith

    split : i ≡ t + (k + k)
    split = enough p i k P (pow_lt_back (p - 1 + k + (p - 1 + k)) (p + i)
        (lt_of_le_of_lt (le_trans (le_of_eq (pow-add 2 (p - 1 + k) (p - 1 + k))) lo) (subst (λ (x : ℕ). m * 2 ^ i < x) (sym (pow-add 2 p i)) (mul-lt-mul_of_pos_right M (pow_pos i)))))

    e : m * 2 ^ i ≡ w * u
    e = ap (λ (x : ℕ). m * 2 ^ x) split ∙ ap (λ (x : ℕ). m * x) (pow-add 2 t (k + k) ∙ ap (λ (x : ℕ). 2 ^ t * x) (pow-add 2 k k)) ∙ sym (mul_assoc m (2 ^ t) u)

    squares : 2 ^ (p + k) * 2 ^ (p + k) ≡ 2 ^ p * 2 ^ p * u
    squares = ap (λ (x : ℕ). x * x) (pow-add 2 p k) ∙ mul-mul-mul_comm (2 ^ p) (2 ^ k) (2 ^ p) (2 ^ k)

-- ---- a value in units
pow_le_back : (a l : ℕ) → 2 ^ a ≤ 2 ^ l → a ≤ l
pow_le_back a l h = le_of_suc-le-suc (lt_of_not-le (λ (g : suc l ≤ a). lt_irrefl (2 ^ l) (lt_of_lt_of_le (pow-lt g) h)))

pub in_units : (l m : ℕ) (e : ℤ) → down e ≤ 2 ^ l → (j : ℕ) × (m * up e * 2 ^ l ≡ m * 2 ^ j * down e)
in_units l m (pos a) h = (a + l, mul_assoc m (2 ^ a) (2 ^ l) ∙ ap (λ (x : ℕ). m * x) (sym (pow-add 2 a l)) ∙ sym (mul-one (m * 2 ^ (a + l))))
in_units l m (negsuc a) h = (
  l - suc a,
  ap (λ (x : ℕ). x * 2 ^ l) (mul-one m) ∙ ap (λ (x : ℕ). m * 2 ^ x) (split (suc a) l (pow_le_back (suc a) l h))
      ∙ ap (λ (x : ℕ). m * x) (pow-add 2 (l - suc a) (suc a)) ∙ sym (mul_assoc m (2 ^ (l - suc a)) (2 ^ suc a)),
)
  where
    split : (a b : ℕ) → a ≤ b → b ≡ b - a + a
    split a b h = omega arith

deep : (f : Format) → 2 * prec f - 2 ≤ low f
deep binary32 = lib.Dec.lit≤ tt
deep binary64 = lib.Dec.lit≤ tt

at_value : (f : Format) (m : ℕ) (e : ℤ) → 0 < m → m < 2 ^ prec f → down e ≤ 2 ^ low f → Nearest (prec f) (low f) (fin false m e) (sqrt_in f (fin false m e))
at_value f m e P M D =
    let p = prec f in
    let l = low f in
    let P' : 0 < p = two-le_pos p (two f) in
    let u = in_units l m e D in
    let n = m * 2 ^ u.0 in
    let N0 : 0 < n = mul-pos P (pow_pos u.0) in
    let N : 2 ^ (2 * p - 2) ≤ n * 2 ^ l = le_trans (pow_mono (deep f)) (le_trans (le_of_eq (sym (native.Mathlib.Nat.one-mul (2 ^ l)))) (mul-le-mul_right (2 ^ l) N0)) in
    let w = root-near p l (n * 2 ^ l) P' N in
    let q = w.0 in
    let k = w.1 in
    let e' : n * 2 ^ l ≡ m * 2 ^ (u.0 + l) = mul_assoc m (2 ^ u.0) (2 ^ l) ∙ ap (λ (x : ℕ). m * x) (sym (pow-add 2 u.0 l)) in
    record {
      n = n;
      q = q;
      k = k;
      of = (refl, u.1);
      is = subst (λ (y : Float). HasValue y false (q * 2 ^ k) (2 ^ l)) (sym (sqrt-value f (fin false m e) n N0 (refl, u.1) ∙ w.2)) (odd_sign p false q k l);
      least = w.3.least;
      most = w.3.most;
      leading = wide p (n * 2 ^ l) q k w.3;
      digits = narrow p m (u.0 + l) q k P' M (le_trans w.3.least (le_of_eq e')) (lt_of_le_of_lt (le_of_eq (sym e')) w.3.most) (lt_of_lt_of_le w.3.above (le_of_eq (ap (λ (x : ℕ). 4 * x) e')));
      above = w.3.above;
      below = strict (4 * (n * 2 ^ l)) ((2 * q + 1) * (2 * q + 1) * (2 ^ k * 2 ^ k)) w.3.below
          (λ t. no_tie p m (u.0 + l) q k P' M (le_trans w.3.least (le_of_eq e')) (ap (λ (x : ℕ). 4 * x) (sym e') ∙ t));
    }
  where
    strict : (a b : ℕ) → a ≤ b → (a ≡ b → ⊥) → a < b
    strict a b h n = omega arith

pub sqrt-nearest : (f : Format) (x : Float) → T (fits f x) → T (positive x) → Nearest (prec f) (low f) x (sqrt_in f x)
sqrt-nearest f nan h p = absurd p
sqrt-nearest f (inf s) h p = absurd p
sqrt-nearest f (fin true m e) h p = absurd p
sqrt-nearest f (fin false zero e) h p = absurd (lt_irrefl 0 (ltb→lt 0 0 p))
sqrt-nearest f (fin false (suc m) e) h p = let g = fits-held f false m e h in at_value f (suc m) e (zero-lt-suc m) g.digits g.deep
