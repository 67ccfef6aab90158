-- The laws of module 1 at binary64, in one place. The proofs, and more laws, are in `Roots.antt`, `Exact.antt`, `Nearer.antt`, `Product.antt`, `Whole.antt`, `Least.antt`, `Order.antt`,
-- `Choice.antt` and `Unique.antt`.
-- Assumes nothing.
use Rattle.std.proofs.Common.{◌≡◌, ℕ, ◌*◌, ◌^◌, ◌<◌, Bool, true, false, T, ℤ}
use lib.Ieee.{Float, fin, binary64, up, down, lt, le}
use lib.Ieee.Exact.{HasValue}
use lib.Ieee.Positive.{positive}
use Rattle.floats.specs.Rounded.{◌⊗◌, zero_f, pow2, pow2⁻, truncate}
use Rattle.floats.specs.Sqrt.{sqrt_of}
use Rattle.floats.proofs.Exact.{Nearest, sqrt-nearest}
use Rattle.floats.proofs.Roots.{sqrt-fits, sqrt_monotone, sqrt_no_less, sqrt_square, sqrt_sign, sqrt_not_below}
use Rattle.floats.proofs.Nearer.{nearer_root, root_is_finite, none_nearer}
use Rattle.floats.proofs.Product.{product_root}
use Rattle.floats.proofs.Whole.{WholePart, truncate-whole}
use Rattle.floats.specs.Ceil.{ceil_of}
use Rattle.floats.proofs.Least.{Next, ceil_least}
use Rattle.floats.specs.Tests.{Binary64, finite}

-- ---- the root

pub root-nearest : (x : Float) → Binary64 x → T (positive x) → Nearest 53 1074 x (sqrt_of x)
unfolding sqrt_of
root-nearest x h p = sqrt-nearest binary64 x h p

-- Nothing is nearer: of every finite x that is not below zero the root is finite, and no y of binary64 is nearer to the exact root. `nearer_root` compares squares of midpoints.
pub root-finite : (x : Float) → Binary64 x → finite x ≡ true → le zero_f x ≡ true → finite (sqrt_of x) ≡ true
root-finite x h f z = root_is_finite x h f z

pub root_none_nearer : (x y : Float) → Binary64 x → Binary64 y → finite x ≡ true → le zero_f x ≡ true → nearer_root x (sqrt_of x) y ≡ false
root_none_nearer x y h k f z = none_nearer x y h k f z

pub root-held : (x : Float) → Binary64 x → Binary64 (sqrt_of x)
unfolding sqrt_of
root-held x h = sqrt-fits binary64 x h

-- from 0 on a larger value has no smaller root
pub root_monotone : (x y : Float) → Binary64 x → Binary64 y → le zero_f x ≡ true → le x y ≡ true → le (sqrt_of x) (sqrt_of y) ≡ true
unfolding sqrt_of
root_monotone x y h k z o = sqrt_monotone binary64 x y h k z o

-- and of any two the root of the larger is not below that of the smaller: no NaN is below anything
pub root_no_less : (x y : Float) → Binary64 x → Binary64 y → le x y ≡ true → lt (sqrt_of y) (sqrt_of x) ≡ false
unfolding sqrt_of
root_no_less x y h k o = sqrt_no_less binary64 x y h k o

-- where y is a / c and x its square, the root of x is y
pub root_square : (x y : Float) (a c : ℕ) → 0 < c → Binary64 x → Binary64 y → HasValue y false a c → HasValue x false (a * a) (c * c) → sqrt_of x ≡ y
unfolding sqrt_of
root_square x y a c C h k v w = sqrt_square binary64 x y a c C h k v w

-- nor does rounding the square change that, where the square is neither too small nor too large
pub root_of_product : (r : Float) → Binary64 r → le (pow2⁻ 500) r ≡ true → le r (pow2 500) ≡ true → sqrt_of (r ⊗ r) ≡ r
root_of_product r h lo hi = product_root r h lo hi

-- no root is below zero, and only that of -0 has a minus sign
pub root_not_below : (x : Float) → lt (sqrt_of x) zero_f ≡ false
unfolding sqrt_of
root_not_below x = sqrt_not_below binary64 x

pub root_sign : (x : Float) (m : ℕ) (e : ℤ) → sqrt_of x ≡ fin true m e → (m ≡ 0) × (x ≡ fin true m e)
unfolding sqrt_of
root_sign x m e h = sqrt_sign binary64 x m e h

-- ---- truncation: within range the whole part
pub truncation_whole : (m : ℕ) (e : ℤ) → m * up e < 2 ^ 64 * down e → WholePart (m * up e) (down e) (truncate (fin false m e))
truncation_whole m e h = truncate-whole m e h

-- ---- rounding up: the least whole number that is not below
pub rounding_up_least : (s : Bool) (m : ℕ) (e : ℤ) → Binary64 (fin s m e) → (c : ℕ) × HasValue (ceil_of (fin s m e)) s c 1 × Next s (m * up e) (down e) c
rounding_up_least s m e h = ceil_least s m e h
