-- What `truncate` means, Rust's `as usize`: within the range the whole part of the value, and else the nearest end of the range, with 0 for a NaN.
-- Assumes nothing.
use Rattle.std.proofs.Common.{◌≡◌, ℕ, ◌+◌, ◌-◌, ◌*◌, ◌/◌, ◌^◌, ◌<◌, ◌≤◌, true, false, ℤ, refl, mod-lt, div-lt_iff_lt-mul, add-mul, div-add-mod', le-div_iff_mul-le, arith}
use native.Mathlib.Nat.{min-eq_left, min-eq_right}
use lib.Ieee.{nan, inf, fin, up, down, to_unsigned}
use lib.Ieee.Fits.{down_pos}
use Rattle.floats.specs.Rounded.{truncate}

-- t is the whole part of n / d
abbrev pub WholePart : ℕ → ℕ → ℕ → Type 0
WholePart n d t = (t * d ≤ n) × (n < (t + 1) * d)

whole_part : (n d : ℕ) → 0 < d → WholePart n d (n / d)
whole_part n d D = omega (arith, div-add-mod' n d, mod-lt n D, add-mul (n / d) 1 d)

pub truncate-whole : (m : ℕ) (e : ℤ) → m * up e < 2 ^ 64 * down e → WholePart (m * up e) (down e) (truncate (fin false m e))
unfolding to_unsigned
truncate-whole m e h = rw (min-eq_left {n = m * up e / down e} {m = 2 ^ 64 - 1} (omega (arith, (div-lt_iff_lt-mul (down_pos e)).1 h))) (whole_part (m * up e) (down e) (down_pos e))

pub truncate-large : (m : ℕ) (e : ℤ) → 2 ^ 64 * down e ≤ m * up e → truncate (fin false m e) ≡ 2 ^ 64 - 1
unfolding to_unsigned
truncate-large m e h = min-eq_right (omega (arith, (le-div_iff_mul-le (down_pos e)).1 h))

pub truncate_negative : (m : ℕ) (e : ℤ) → truncate (fin true m e) ≡ 0
unfolding to_unsigned
truncate_negative m e = refl

pub truncate-other : (truncate nan ≡ 0) × (truncate (inf true) ≡ 0) × (truncate (inf false) ≡ 2 ^ 64 - 1)
unfolding to_unsigned
truncate-other = (refl, refl, refl)
