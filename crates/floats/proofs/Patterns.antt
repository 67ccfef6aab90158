-- The root of a * 2 ^ h units, as a bit pattern. Assumes nothing.
use Rattle.std.proofs.Common.{◌≡◌, ℕ, suc, ◌+◌, ◌-◌, ◌*◌, ◌/◌, ◌%◌, ◌^◌, ◌<◌, ◌≤◌, false, sym, refl, ap, ◌∙◌, subst, le_trans, le_of_eq, lt_of_lt_of_le, lt_of_le_of_lt, le_of_lt, lt_irrefl, mul-le-mul_right, mod-eq_of_lt, mul_assoc, mul_comm, mul-lt-mul_of_pos_right, mul-pos, lt_of_not-le, mul-one, le-mul_of_pos_right, arith, lit<, lit≤, pow_pos, pow_mono, pow-add}
use native.Mathlib.Nat.{mul-mul-mul_comm}
use native.Mathlib.Decide.{ℕ_discrete}
use lib.Count.{count_leading_zeros, leading_top}
use lib.Ieee.{Float, binary64, odd, of_bits}
use lib.Ieee.Exact.{odd_sign}
use Rattle.floats.proofs.Reading.{read_low, read_mid}
use Rattle.floats.specs.Sqrt.{root_of, sqrt_of}
use Rattle.floats.proofs.Near.{Near, root_of-near, sqrt-value}
use Rattle.floats.specs.Posts.{Rounded, Written}

-- ---- the root of a value, by its pattern's digits
pub sqrt_odd : (q k : ℕ) → 0 < q → sqrt_of (odd 53 false q k 1074) ≡ root_of 53 1074 (q * 2 ^ k * 2 ^ 1074)
unfolding sqrt_of
sqrt_odd q k Q = sqrt-value binary64 (odd 53 false q k 1074) (q * 2 ^ k) (mul-pos Q (pow_pos k)) (odd_sign 53 false q k 1074)

-- ---- the root of s * 2 ^ 52 * 4 ^ k units
pub near : (s q k : ℕ) → 2 ^ 52 ≤ s → s < 2 ^ 54 → Rounded (s * 2 ^ 52) q → Near 53 (s * 2 ^ 52 * (2 ^ k * 2 ^ k)) q k
near s q k A B w =
    let u = 2 ^ k * 2 ^ k in
    let S = s * 2 ^ 52 in
    let U : 0 < u = mul-pos (pow_pos k) (pow_pos k) in
    let lo : 2 ^ 104 ≤ S = omega arith in
    let hi : S < 2 ^ 106 = omega arith in
    record {
      least = le_trans (le_of_eq (ap (λ (x : ℕ). x * x) (pow-add 2 52 k) ∙ mul-mul-mul_comm (2 ^ 52) (2 ^ k) (2 ^ 52) (2 ^ k))) (mul-le-mul_right u lo);
      most = lt_of_lt_of_le (mul-lt-mul_of_pos_right hi U) (le_of_eq (sym (ap (λ (x : ℕ). x * x) (pow-add 2 53 k) ∙ mul-mul-mul_comm (2 ^ 53) (2 ^ k) (2 ^ 53) (2 ^ k))));
      above = lt_of_lt_of_le (mul-lt-mul_of_pos_right w.above U) (le_of_eq (mul_assoc 4 S u));
      below = le_trans (le_of_eq (sym (mul_assoc 4 S u))) (mul-le-mul_right u (le_of_lt w.below));
    }

written : (s q k : ℕ) → 2 ^ 52 ≤ s → s < 2 ^ 54 → suc k < 2047 → Rounded (s * 2 ^ 52) q → Written (root_of 53 1074 (s * 2 ^ 52 * (2 ^ k * 2 ^ k))) (k * 2 ^ 52 + q)
written s q k A B K w =
    let u = 2 ^ k * 2 ^ k in
    let S = s * 2 ^ 52 in
    let lo : 2 ^ 104 ≤ S = omega arith in
    let N : 2 ^ 104 ≤ S * u = le_trans lo (le-mul_of_pos_right S (mul-pos (pow_pos k) (pow_pos k))) in
    record {
      finite = omega arith;
      value = read_mid (k * 2 ^ 52 + q) q k w.low w.high K refl ∙ sym (root_of-near 53 1074 (S * u) q k (lit< tt) N (near s q k A B w));
    }

-- h is 52 or 53 more than twice k
pub spread : (d k : ℕ) → 2 ^ (d + (k + k)) ≡ 2 ^ d * (2 ^ k * 2 ^ k)
spread d k = pow-add 2 d (k + k) ∙ ap (λ (x : ℕ). 2 ^ d * x) (pow-add 2 k k)

pub at_even : (a h q : ℕ) → 2 ^ 52 ≤ a → a < 2 ^ 53 → 1022 ≤ h → h ≤ 3119 → h % 2 ≡ 0 → Rounded (a * 2 ^ 52) q → Written (root_of 53 1074 (a * 2 ^ h)) ((h / 2 - 26) * 2 ^ 52 + q)
at_even a h q A B L H e w =
    let k = h / 2 - 26 in
    let eh : h ≡ 52 + (k + k) = omega arith in
    subst (λ (x : ℕ). Written (root_of 53 1074 x) (k * 2 ^ 52 + q))
    (mul_assoc a (2 ^ 52) (2 ^ k * 2 ^ k) ∙ ap (λ (x : ℕ). a * x) (sym (spread 52 k)) ∙ ap (λ (x : ℕ). a * 2 ^ x) (sym eh))
    (written a q k A (omega arith) (omega arith) w)

pub at_odd : (a h q : ℕ) → 2 ^ 52 ≤ a → a < 2 ^ 53 → 1022 ≤ h → h ≤ 3119 → (h % 2 ≡ 0 → ⊥) → Rounded (2 * a * 2 ^ 52) q → Written (root_of 53 1074 (a * 2 ^ h)) ((h / 2 - 26) * 2 ^ 52 + q)
at_odd a h q A B L H e w =
    let k = h / 2 - 26 in
    let eh : h ≡ 53 + (k + k) = omega arith in
    let c : 2 * a * 2 ^ 52 ≡ a * 2 ^ 53 = omega arith in
    subst (λ (x : ℕ). Written (root_of 53 1074 x) (k * 2 ^ 52 + q))
    (ap (λ (x : ℕ). x * (2 ^ k * 2 ^ k)) c ∙ mul_assoc a (2 ^ 53) (2 ^ k * 2 ^ k) ∙ ap (λ (x : ℕ). a * x) (sym (spread 53 k)) ∙ ap (λ (x : ℕ). a * 2 ^ x) (sym eh))
    (written (2 * a) q k (omega arith) (omega arith) (omega arith) w)

-- ---- a subnormal value's digits, moved up to a normal value's places
pow_lt_back : (i p : ℕ) → 2 ^ i < 2 ^ p → i < p
pow_lt_back i p h = lt_of_not-le (λ (g : p ≤ i). lt_irrefl (2 ^ i) (lt_of_lt_of_le h (pow_mono g)))

-- z places up, and it is not moved past the word's end
pub record Moved (d z : ℕ) : Type 0 where
  pub places : z ≤ 52
  pub from : 2 ^ 52 ≤ (d * 2 ^ z) % 2 ^ 64
  pub to : (d * 2 ^ z) % 2 ^ 64 < 2 ^ 53
  pub exact : (d * 2 ^ z) % 2 ^ 64 ≡ d * 2 ^ z

-- the zeros in front of it
pub zeros : (d : ℕ) → 0 < d → d < 2 ^ 52 → 11 ≤ count_leading_zeros 64 d
zeros d D H =
    let l = leading_top 64 d D (lt_of_lt_of_le H (lit≤ tt)) in
    let J : l.0 < 52 = pow_lt_back l.0 52 (lt_of_le_of_lt l.2 H) in
    omega (arith, l.1)

pub moved : (d z : ℕ) → 0 < d → d < 2 ^ 52 → z ≡ count_leading_zeros 64 d - 11 → Moved d z
moved d z D H Z =
    let l = leading_top 64 d D (lt_of_lt_of_le H (lit≤ tt)) in
    let j = l.0 in
    let J : j < 52 = pow_lt_back j 52 (lt_of_le_of_lt l.2 H) in
    let zj : z ≡ 52 - j = omega (arith, l.1) in
    let lo : 2 ^ 52 ≤ d * 2 ^ z = le_trans (le_of_eq (ap (λ (x : ℕ). 2 ^ x) (le_join j z J zj) ∙ pow-add 2 j z)) (mul-le-mul_right (2 ^ z) l.2) in
    let hi : d * 2 ^ z < 2 ^ 53 = lt_of_lt_of_le (mul-lt-mul_of_pos_right l.3 (pow_pos z)) (le_of_eq (sym (pow-add 2 (suc j) z) ∙ ap (λ (x : ℕ). 2 ^ x) (lt-join j z J zj))) in
    let e : (d * 2 ^ z) % 2 ^ 64 ≡ d * 2 ^ z = mod-eq_of_lt (lt_of_lt_of_le hi (lit≤ tt)) in
    record { places = omega arith; from = subst (λ (x : ℕ). 2 ^ 52 ≤ x) (sym e) lo; to = subst (λ (x : ℕ). x < 2 ^ 53) (sym e) hi; exact = e }
  where
    le_join : (j x : ℕ) → j < 52 → x ≡ 52 - j → 52 ≡ j + x
    le_join j x J e = omega arith

    lt-join : (j x : ℕ) → j < 52 → x ≡ 52 - j → suc j + x ≡ 53
    lt-join j x J e = omega arith

-- the root by the digits as the code has them
pub root-low : (b r l z : ℕ) → l ≡ 1074 → b / 2 ^ 52 ≡ 0 → 0 < b % 2 ^ 52 → z ≤ l → (b % 2 ^ 52 * 2 ^ z) % 2 ^ 64 ≡ b % 2 ^ 52 * 2 ^ z
    → Written (root_of 53 1074 ((b % 2 ^ 52 * 2 ^ z) % 2 ^ 64 * 2 ^ (l - z))) r → Written (sqrt_of (of_bits binary64 b)) r
root-low b r l z L e D Z x w =
    let d = b % 2 ^ 52 in
    let is : sqrt_of (of_bits binary64 b) ≡ root_of 53 1074 (d * 2 ^ 0 * 2 ^ 1074) = ap sqrt_of (read_low b e) ∙ sqrt_odd d 0 D in
    let n : (d * 2 ^ z) % 2 ^ 64 * 2 ^ (l - z) ≡ d * 2 ^ 0 * 2 ^ 1074 =
    ap (λ (y : ℕ). y * 2 ^ (l - z)) x ∙ mul_assoc d (2 ^ z) (2 ^ (l - z)) ∙ ap (λ (y : ℕ). d * y) (sym (pow-add 2 z (l - z)) ∙ ap (λ (y : ℕ). 2 ^ y) (all z l Z ∙ L))
    ∙ ap (λ (y : ℕ). y * 2 ^ 1074) (sym (mul-one d)) in
    subst (λ (y : Float). Written y r) (ap (root_of 53 1074) n ∙ sym is) w
  where
    all : (z l : ℕ) → z ≤ l → z + (l - z) ≡ l
    all z l h = omega arith

pub root_mid : (b r l : ℕ) → l ≡ 1073 → (b / 2 ^ 52 ≡ 0 → ⊥) → b < 2047 * 2 ^ 52
    → Written (root_of 53 1074 ((b % 2 ^ 52 + 2 ^ 52) * 2 ^ (b / 2 ^ 52 + l))) r → Written (sqrt_of (of_bits binary64 b)) r
root_mid b r l L e B w =
    let q = b % 2 ^ 52 + 2 ^ 52 in
    let k = b / 2 ^ 52 - 1 in
    let is : sqrt_of (of_bits binary64 b) ≡ root_of 53 1074 (q * 2 ^ k * 2 ^ 1074) = ap sqrt_of (read_mid b q k (omega arith) (omega arith) (omega arith) (omega arith)) ∙ sqrt_odd q k (omega arith) in
    let n : q * 2 ^ (b / 2 ^ 52 + l) ≡ q * 2 ^ k * 2 ^ 1074 =
    ap (λ (y : ℕ). q * 2 ^ y) (all (b / 2 ^ 52) l e L) ∙ ap (λ (y : ℕ). q * y) (pow-add 2 k 1074) ∙ sym (mul_assoc q (2 ^ k) (2 ^ 1074)) in
    subst (λ (y : Float). Written y r) (ap (root_of 53 1074) n ∙ sym is) w
  where
    all : (x l : ℕ) → (x ≡ 0 → ⊥) → l ≡ 1073 → x + l ≡ x - 1 + 1074
    all x l h e = omega arith

-- ---- a, moved up by one place where h is odd
even_shift : (a r : ℕ) → a < 2 ^ 53 → r ≡ 0 → (a * 2 ^ r) % 2 ^ 64 ≡ a
even_shift a r h e = ap (λ (x : ℕ). (a * 2 ^ x) % 2 ^ 64) e ∙ ap (λ (x : ℕ). x % 2 ^ 64) (mul-one a) ∙ mod-eq_of_lt (omega arith)

odd_shift : (a r : ℕ) → a < 2 ^ 53 → r ≡ 1 → (a * 2 ^ r) % 2 ^ 64 ≡ 2 * a
odd_shift a r h e = ap (λ (x : ℕ). (a * 2 ^ x) % 2 ^ 64) e ∙ ap (λ (x : ℕ). x % 2 ^ 64) (mul_comm a 2) ∙ mod-eq_of_lt (omega arith)

pub shifted : (a h : ℕ) → 2 ^ 52 ≤ a → a < 2 ^ 53 → (2 ^ 52 ≤ (a * 2 ^ (h % 2)) % 2 ^ 64) × ((a * 2 ^ (h % 2)) % 2 ^ 64 ≤ 2 ^ 54 - 2)
shifted a h A B = go (ℕ_discrete (h % 2) 0)
  where
    go : Dec (h % 2 ≡ 0) → (2 ^ 52 ≤ (a * 2 ^ (h % 2)) % 2 ^ 64) × ((a * 2 ^ (h % 2)) % 2 ^ 64 ≤ 2 ^ 54 - 2)
    go (yes e) = omega (arith, even_shift a (h % 2) B e)
    go (no n) = let o : h % 2 ≡ 1 = omega arith in omega (arith, odd_shift a (h % 2) B o)

pub at_either : (a h q : ℕ) → 2 ^ 52 ≤ a → a < 2 ^ 53 → 1022 ≤ h → h ≤ 3119 → Rounded ((a * 2 ^ (h % 2)) % 2 ^ 64 * 2 ^ 52) q → Written (root_of 53 1074 (a * 2 ^ h)) ((h / 2 - 26) * 2 ^ 52 + q)
at_either a h q A B L H w = go (ℕ_discrete (h % 2) 0)
  where
    go : Dec (h % 2 ≡ 0) → Written (root_of 53 1074 (a * 2 ^ h)) ((h / 2 - 26) * 2 ^ 52 + q)
    go (yes e) = at_even a h q A B L H e (subst (λ (s : ℕ). Rounded (s * 2 ^ 52) q) (even_shift a (h % 2) B e) w)
    go (no n) = let o : h % 2 ≡ 1 = omega arith in at_odd a h q A B L H n (subst (λ (s : ℕ). Rounded (s * 2 ^ 52) q) (odd_shift a (h % 2) B o) w)
