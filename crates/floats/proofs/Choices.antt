-- The values by the tests of `abs`, `min`, `max` and `same_bits`. Assumes nothing.
use Rattle.std.proofs.Common.{◌≡◌, ℕ, zero, suc, ◌+◌, ◌*◌, ◌^◌, true, false, ◌||◌, T, eqb, ltb, ℤ, pos, negsuc, sym, refl, ap, ◌∙◌, subst, true≢false, zero-lt-suc, mul-pos, one-mul, pow-suc, zero-mul, mul-one, arith, eqb→eq, ltb→lt, lt-ltb}
use mathlib.Core.Bool.{beq, false≢true}
use lib.Ieee.{Float, nan, inf, fin, binary64, fits, up, down, lt, eq, neg}
use lib.Ieee.Bits.{is_true}
use lib.Ieee.Fits.{up_pos, and_l}
use Rattle.std.specs.Float.{float_with_sign, float_is_finite}
use Rattle.floats.specs.Tests.{abs_of, finite}
use Rattle.floats.proofs.Cases.{zero_of, zero_equal, positive_product}

-- ---- abs
none_below : (a d : ℕ) → ltb a (0 * 1 * d) ≡ true → ⊥
none_below a d h = omega (arith, zero-mul d, ltb→lt a (0 * 1 * d) (subst T (sym h) tt))

pub abs-below : (x : Float) → lt x zero_of ≡ true → neg x ≡ abs_of x
unfolding lt neg abs_of
abs-below nan h = absurd (false≢true h)
abs-below (inf true) h = refl
abs-below (inf false) h = absurd (false≢true h)
abs-below (fin true m e) h = refl
abs-below (fin false m e) h = absurd (none_below (m * up e * 1) (down e) h)

-- a zero has one exponent only
even : (b a : ℕ) {x : ℕ} → b ≡ a * 2 → x ≡ b → x ≡ 1 → ⊥
even b a p q r = omega arith

pub zero_exponent : (e : ℤ) → eqb (up e * down e) 1 ≡ true → e ≡ pos 0
zero_exponent (pos zero) h = refl
zero_exponent (pos (suc k)) h = absurd (even (2 ^ suc k) (2 ^ k) (pow-suc 2 k) (mul-one (2 ^ suc k)) (eqb→eq (2 ^ suc k * 1) 1 (subst T (sym h) tt)))
zero_exponent (negsuc k) h = absurd (even (2 ^ suc k) (2 ^ k) (pow-suc 2 k) (one-mul (2 ^ suc k)) (eqb→eq (1 * 2 ^ suc k) 1 (subst T (sym h) tt)))

pub abs-zero : (x : Float) → T (fits binary64 x) → eq x zero_of ≡ true → zero_of ≡ abs_of x
unfolding eq abs_of fits
abs-zero nan F h = absurd (false≢true h)
abs-zero (inf s) F h = absurd (false≢true h)
abs-zero (fin s zero e) F h = ap (fin false 0) (sym (zero_exponent e (is_true (eqb (up e * down e) 1) F)))
abs-zero (fin s (suc m) e) F h =
    absurd (positive_product m (up e) (up_pos e)
    (eqb→eq (suc m * up e * 1) (0 * 1 * down e) (and_l (eqb (suc m * up e * 1) (0 * 1 * down e)) (beq s false || eqb (suc m * up e * 1) 0) (subst T (sym h) tt)) ∙ zero-mul (down e)))

pub abs-other : (x : Float) → lt x zero_of ≡ false → eq x zero_of ≡ false → x ≡ abs_of x
unfolding lt eq abs_of
abs-other nan h k = refl
abs-other (inf true) h k = absurd (true≢false h)
abs-other (inf false) h k = refl
abs-other (fin false m e) h k = refl
abs-other (fin true zero e) h k =
    absurd (true≢false (sym (zero_equal true (beq true false) (0 * up e * 1) (0 * 1 * down e) (ap (λ (x : ℕ). x * 1) (zero-mul (up e))) (zero-mul (down e))) ∙ k))
abs-other (fin true (suc m) e) h k =
    absurd (true≢false (sym (lt-ltb 0 (suc m * up e * 1 + 0 * 1 * down e) (omega (arith, mul-pos (zero-lt-suc m) (up_pos e)))) ∙ h))

-- ---- std's words
pub magnitude : (x : Float) → float_with_sign false x ≡ abs_of x
unfolding float_with_sign abs_of
magnitude nan = refl
magnitude (inf s) = refl
magnitude (fin s m e) = refl

pub finite_is : (x : Float) → float_is_finite x ≡ finite x
unfolding float_is_finite finite
finite_is nan = refl
finite_is (inf s) = refl
finite_is (fin s m e) = refl
