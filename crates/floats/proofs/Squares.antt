-- The arithmetic of `corrected`: the square of q from two halves of its digits, and when q is the nearest. Assumes nothing.
use Rattle.std.proofs.Common.{◌≡◌, ℕ, suc, ◌+◌, ◌-◌, ◌*◌, ◌/◌, ◌%◌, ◌^◌, ◌<◌, ◌≤◌, sym, ap, ◌∙◌, subst, le_of_suc-le-suc, lt_irrefl, mul_comm, add-mul, mul-le-mul, mul-le-mul_left, lt_of_not-le, mul-add, mul_right_comm, arith}
use native.Mathlib.Nat.{mul-mul-mul_comm}
use Rattle.floats.proofs.Near.{square_suc, square_odd}
use Rattle.floats.specs.Posts.{Rounded}

-- √S is between q - 1/2 and q + 1/2 where q * q - q < S ≤ q * q + q, and then q has 53 digits
pub rounded_of : (s q : ℕ) → 2 ^ 52 ≤ s → s ≤ 2 ^ 54 - 2 → 0 < q → q * q < s * 2 ^ 52 + q → s * 2 ^ 52 ≤ q * q + q → Rounded (s * 2 ^ 52) q
rounded_of s q A B Q lo hi =
    let t = q - 1 in
    let e : q ≡ t + 1 = omega arith in
    let qq : q * q ≡ t * t + 2 * t + 1 = ap (λ (x : ℕ). x * x) e ∙ square_suc t in
    let o : 2 * q - 1 ≡ 2 * t + 1 = omega arith in
    record {
      low = le_of_suc-le-suc (lt_of_not-le (λ (g : suc q ≤ 2 ^ 52).
          let k : q ≤ 2 ^ 52 - 1 = omega arith in
          let w : q * q ≤ (2 ^ 52 - 1) * (2 ^ 52 - 1) = mul-le-mul k k in
          let z : 1 ≤ 0 = omega arith in
          lt_irrefl 0 z));
      high = lt_of_not-le (λ (g : 2 ^ 53 ≤ q).
          let w : q * 2 ^ 53 ≤ q * q = mul-le-mul_left q g in
          let z : 1 ≤ 0 = omega arith in
          lt_irrefl 0 z);
      above = subst (λ (x : ℕ). x * x < 4 * (s * 2 ^ 52)) (sym o) (omega (arith, square_odd t));
      below = omega (arith, square_odd q);
    }

-- ---- the square by halves
halves : (a b : ℕ) → (a * 2 ^ 27 + b) * (a * 2 ^ 27 + b) ≡ a * a * 2 ^ 54 + a * b * 2 ^ 28 + b * b
halves a b =
    let A = a * 2 ^ 27 in
    omega (arith, add-mul A b (A + b), mul-add A A b, mul-add b A b, mul-mul-mul_comm a (2 ^ 27) a (2 ^ 27), mul_right_comm a (2 ^ 27) b, mul_comm b A)

-- v is x - y, which is not below 0
abbrev pub Difference : (v x y : ℕ) → Type 0
Difference v x y = (y ≤ x) × (v ≡ x - y)

-- the code's f
pub f_is : (s q c d f : ℕ) → Difference c (s + 8) (q / 2 ^ 27 * (q / 2 ^ 27) * 4) → Difference d (c * 2 ^ 24) (q / 2 ^ 27 * (q % 2 ^ 27)) → Difference f (d * 2 ^ 28 + q) (q % 2 ^ 27 * (q % 2 ^ 27))
    → f + q * q ≡ s * 2 ^ 52 + q + 2 ^ 55
f_is s q c d f h k l = parts (q / 2 ^ 27) (q % 2 ^ 27) (omega arith) h k l
  where
    parts : (a b : ℕ) → q ≡ a * 2 ^ 27 + b → Difference c (s + 8) (a * a * 4) → Difference d (c * 2 ^ 24) (a * b) → Difference f (d * 2 ^ 28 + q) (b * b) → f + q * q ≡ s * 2 ^ 52 + q + 2 ^ 55
    parts a b e h k l =
        let w : q * q ≡ a * a * 2 ^ 54 + a * b * 2 ^ 28 + b * b = ap (λ (x : ℕ). x * x) e ∙ halves a b in
        omega arith

pub up_one : (s q : ℕ) → 2 ^ 52 ≤ s → s ≤ 2 ^ 54 - 2 → 0 < q → q * q + q < s * 2 ^ 52 → s * 2 ^ 52 ≤ q * q + 3 * q + 2 → Rounded (s * 2 ^ 52) (q + 1)
up_one s q A B Q lo hi = rounded_of s (q + 1) A B (omega arith) (omega (arith, square_suc q)) (omega (arith, square_suc q))

pub down-one : (s q : ℕ) → 2 ^ 52 ≤ s → s ≤ 2 ^ 54 - 2 → 2 ≤ q → q * q + 2 < s * 2 ^ 52 + 3 * q → s * 2 ^ 52 + q ≤ q * q → Rounded (s * 2 ^ 52) (q - 1)
down-one s q A B Q lo hi =
    let t = q - 1 in
    let e : q ≡ t + 1 = omega arith in
    let qq : q * q ≡ t * t + 2 * t + 1 = ap (λ (x : ℕ). x * x) e ∙ square_suc t in
    rounded_of s t A B (omega arith) (omega arith) (omega arith)
