-- What a bit pattern of an `f64` stands for, by its fields. Assumes nothing.
use Rattle.std.proofs.Common.{◌≡◌, ℕ, suc, ◌+◌, ◌-◌, ◌*◌, ◌/◌, ◌%◌, ◌^◌, ◌<◌, ◌≤◌, Bool, false, cond, eqb, ℤ, refl, ap, ◌∙◌, mod-eq_of_lt, arith, lit<, ne_eqb}
use native.Mathlib.Decide.{ℕ_discrete}
use lib.Ieee.{nan, inf, fin, binary64, odd, of_fields, of_bits}
use borrow.Author.Tests.{lt-leb}
use Rattle.floats.proofs.Roots.{odd_shape}

-- ---- reading a pattern whose sign is clear
pub fields : (b x t : ℕ) → x < 2048 → t < 2 ^ 52 → b ≡ x * 2 ^ 52 + t → of_bits binary64 b ≡ of_fields binary64 false x t
unfolding of_bits
fields b x t X H e =
    let lt : b < 2 ^ 63 = omega arith in
    let m : b % 2 ^ 63 ≡ b = mod-eq_of_lt lt in
    let d : b % 2 ^ 63 / 2 ^ 52 ≡ x = omega arith in
    let r : b % 2 ^ 52 ≡ t = omega arith in
    ap (λ (s : Bool). of_fields binary64 s (b % 2 ^ 63 / 2 ^ 52) (b % 2 ^ 52)) (lt-leb (2 ^ 63) b lt)
    ∙ ap (λ (y : ℕ). of_fields binary64 false y (b % 2 ^ 52)) d
    ∙ ap (λ (y : ℕ). of_fields binary64 false x y) r

field_low : (t : ℕ) → of_fields binary64 false 0 t ≡ odd 53 false t 0 1074
unfolding of_fields
field_low t = refl

field_mid : (x t : ℕ) → suc x < 2047 → of_fields binary64 false (suc x) t ≡ odd 53 false (2 ^ 52 + t) x 1074
unfolding of_fields
field_mid x t h = ap (λ (b : Bool). cond b (cond (eqb t 0) (inf false) nan) (odd 53 false (2 ^ 52 + t) x 1074)) (ne_eqb (suc x) 2047 (no x h))
  where
    no : (x : ℕ) → suc x < 2047 → suc x ≡ 2047 → ⊥
    no x h e = omega arith

pub read_low : (b : ℕ) → b / 2 ^ 52 ≡ 0 → of_bits binary64 b ≡ odd 53 false (b % 2 ^ 52) 0 1074
read_low b e = fields b 0 (b % 2 ^ 52) (lit< tt) (omega arith) (omega arith) ∙ field_low (b % 2 ^ 52)

-- a normal value: q is its digits, the leading one too, and k the exponent's field less one
pub read_mid : (b q k : ℕ) → 2 ^ 52 ≤ q → q < 2 ^ 53 → suc k < 2047 → b ≡ k * 2 ^ 52 + q → of_bits binary64 b ≡ odd 53 false q k 1074
read_mid b q k lo hi K e =
    fields b (suc k) (q - 2 ^ 52) (omega arith) (omega arith) (omega arith) ∙ field_mid k (q - 2 ^ 52) K ∙ ap (λ (x : ℕ). odd 53 false x k 1074) (join q lo)
  where
    join : (q : ℕ) → 2 ^ 52 ≤ q → 2 ^ 52 + (q - 2 ^ 52) ≡ q
    join q h = omega arith

-- a pattern below an infinity's is a finite value with no minus sign
pub read_finite : (b : ℕ) → b < 2047 * 2 ^ 52 → (m : ℕ) × (e : ℤ) × (of_bits binary64 b ≡ fin false m e)
read_finite b h = go (ℕ_discrete (b / 2 ^ 52) 0)
  where
    go : Dec (b / 2 ^ 52 ≡ 0) → (m : ℕ) × (e : ℤ) × (of_bits binary64 b ≡ fin false m e)
    go (yes z) = let r = odd_shape 53 (b % 2 ^ 52) 0 1074 in (r.0, r.1, read_low b z ∙ r.2)
    go (no z) =
        let q = b % 2 ^ 52 + 2 ^ 52 in
        let k = b / 2 ^ 52 - 1 in
        let r = odd_shape 53 q k 1074 in
        (r.0, r.1, read_mid b q k (omega arith) (omega arith) (omega arith) (omega arith) ∙ r.2)
