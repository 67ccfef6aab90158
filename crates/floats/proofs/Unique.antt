-- A format holds each number once for each sign: two values that it holds, with the same sign and the same size, are the same (`value_unique`),
-- and so are two that are the same bit for bit (`same_bits-same`). Assumes nothing.
use Rattle.std.proofs.Common.{◌≡◌, ℕ, ◌+◌, ◌-◌, ◌*◌, ◌/◌, ◌^◌, ◌<◌, Bool, true, false, cond, T, eqb, ℤ, sym, refl, ap, ◌∙◌, mul_right_comm, eq-eqb, eqb-true}
use native.Mathlib.Nat.{eq_of_mul-eq-mul_right}
use lib.Ieee.{Float, nan, inf, fin, Format, binary64, prec, low, up, down, size, hid, top, fits, eq, is_nan, of_bits, to_bits}
use lib.Ieee.Bits.{of_bits-to_bits}
use lib.Ieee.Exact.{HasValue}
use lib.Ieee.Fits.{down_pos}
use lib.Ieee.Nearest.{div_same}
use Rattle.basics.proofs.Bools.{and_right, both}
use Rattle.floats.specs.Tests.{same_bits}
use Rattle.floats.proofs.Order.{eq_self}

-- two values with one pattern
pub same_pattern : (f : Format) (x y : Float) → T (fits f x) → T (fits f y) → to_bits f x ≡ to_bits f y → x ≡ y
same_pattern f x y h k e = sym (of_bits-to_bits f x h) ∙ ap (of_bits f) e ∙ of_bits-to_bits f y k

-- a pattern is made of the sign and of the size in units of the format's smallest value
abbrev pub pattern : Format → Bool → ℕ → ℕ
pattern f s n = let k = size n - prec f in cond s (top f) 0 + k * hid f + n / 2 ^ k

pub pattern_is : (f : Format) (s : Bool) (m : ℕ) (e : ℤ) → to_bits f (fin s m e) ≡ pattern f s (m * up e * 2 ^ low f / down e)
unfolding to_bits
pattern_is f s m e = refl

-- x / d and y / b are both a / c
cross : (x d y b a c : ℕ) → 0 < c → x * c ≡ a * d → y * c ≡ a * b → x * b ≡ y * d
cross x d y b a c C p q =
    eq_of_mul-eq-mul_right c C (x * b) (y * d)
    (mul_right_comm x b c ∙ ap (λ (z : ℕ). z * b) p ∙ mul_right_comm a d b ∙ ap (λ (z : ℕ). z * d) (sym q) ∙ mul_right_comm y c d)

pub value_unique : (f : Format) (x y : Float) (s : Bool) (a c : ℕ) → 0 < c → T (fits f x) → T (fits f y) → HasValue x s a c → HasValue y s a c → x ≡ y
value_unique f nan y s a c C h k p q = absurd p
value_unique f (inf t) y s a c C h k p q = absurd p
value_unique f (fin t m e) nan s a c C h k p q = absurd q
value_unique f (fin t m e) (inf u) s a c C h k p q = absurd q
value_unique f (fin t m e) (fin u n d) s a c C h k p q =
    same_pattern f (fin t m e) (fin u n d) h k
    (pattern_is f t m e
    ∙ ap (λ (b : Bool). pattern f b (m * up e * 2 ^ low f / down e)) (p.0 ∙ sym q.0)
    ∙ ap (pattern f u)
    (div_same (m * up e * 2 ^ low f) (down e) (n * up d * 2 ^ low f) (down d) (down_pos e) (down_pos d)
    (mul_right_comm (m * up e) (2 ^ low f) (down d) ∙ ap (λ (z : ℕ). z * 2 ^ low f) (cross (m * up e) (down e) (n * up d) (down d) a c C p.1 q.1) ∙ mul_right_comm (n * up d) (down e) (2 ^ low f)))
    ∙ sym (pattern_is f u n d))

-- ---- bit for bit
pub same_bits-same : (a b : Float) → T (fits binary64 a) → T (fits binary64 b) → same_bits a b ≡ true → a ≡ b
unfolding same_bits
same_bits-same a b h k e = same_pattern binary64 a b h k (eqb-true (to_bits binary64 a) (to_bits binary64 b) (and_right (eq a b) (eqb (to_bits binary64 a) (to_bits binary64 b)) e))

pub same_bits_self : (x : Float) → is_nan x ≡ false → same_bits x x ≡ true
unfolding same_bits
same_bits_self x h = both (eq_self x h) (eq-eqb (to_bits binary64 x) (to_bits binary64 x) refl)
