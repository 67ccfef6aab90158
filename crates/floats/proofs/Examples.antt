-- Values that the definitions of rounding up and of the root compute to.
-- Assumes nothing.
use Rattle.std.proofs.Common.{◌≡◌, Bool, true, false, List, [], ◌∷◌, pos, negsuc, refl}
use lib.Ieee.{nan, fin, binary64, mul, of_bits, to_bits}
use Rattle.floats.specs.Rounded.{◌⊗◌}
use Rattle.floats.specs.Ceil.{ceil_of}
use Rattle.floats.specs.Sqrt.{sqrt_of}
use Rattle.floats.proofs.Nearer.{nearer_root}

-- ---- rounding up: 2.5, -2.5, 2, -0.5, +0, the smallest, 2 ^ 100
ceil_2·5 : ceil_of (fin false 5 (negsuc 0)) ≡ fin false 3 (pos 0)
unfolding ceil_of
ceil_2·5 = refl

ceil_minus_2·5 : ceil_of (fin true 5 (negsuc 0)) ≡ fin true 1 (pos 1)
unfolding ceil_of
ceil_minus_2·5 = refl

ceil_2 : ceil_of (fin false 1 (pos 1)) ≡ fin false 1 (pos 1)
unfolding ceil_of
ceil_2 = refl

ceil_minus_half : ceil_of (fin true 1 (negsuc 0)) ≡ fin true 0 (pos 0)
unfolding ceil_of
ceil_minus_half = refl

ceil_zero : ceil_of (fin false 0 (pos 0)) ≡ fin false 0 (pos 0)
unfolding ceil_of
ceil_zero = refl

ceil_least : ceil_of (fin false 1 (negsuc 1073)) ≡ fin false 1 (pos 0)
unfolding ceil_of
ceil_least = refl

ceil_large : ceil_of (fin false 3 (pos 100)) ≡ fin false 3 (pos 100)
unfolding ceil_of
ceil_large = refl

-- ---- the root
sqrt_2·25 : sqrt_of (fin false 9 (negsuc 1)) ≡ fin false 3 (negsuc 0)
unfolding sqrt_of
sqrt_2·25 = refl

sqrt_quarter : sqrt_of (fin false 1 (negsuc 1)) ≡ fin false 1 (negsuc 0)
unfolding sqrt_of
sqrt_quarter = refl

sqrt_2 : to_bits binary64 (sqrt_of (fin false 1 (pos 1))) ≡ 0x3FF6_A09E_667F_3BCD
unfolding sqrt_of to_bits
sqrt_2 = refl

sqrt_3 : to_bits binary64 (sqrt_of (fin false 3 (pos 0))) ≡ 0x3FFB_B67A_E858_4CAA
unfolding sqrt_of to_bits
sqrt_3 = refl

-- the smallest value, 2 ^ -1074
sqrt-least : sqrt_of (of_bits binary64 1) ≡ fin false 1 (negsuc 536)
unfolding sqrt_of of_bits
sqrt-least = refl

-- the largest
sqrt-most : to_bits binary64 (sqrt_of (of_bits binary64 0x7FEF_FFFF_FFFF_FFFF)) ≡ 0x5FEF_FFFF_FFFF_FFFF
unfolding sqrt_of of_bits to_bits
sqrt-most = refl

-- -0, and -1
sqrt_minus_zero : sqrt_of (fin true 0 (pos 0)) ≡ fin true 0 (pos 0)
unfolding sqrt_of
sqrt_minus_zero = refl

sqrt_minus_one : sqrt_of (fin true 1 (pos 0)) ≡ nan
unfolding sqrt_of
sqrt_minus_one = refl

-- of a rounded square: 0.1 comes back. The square of 3 * 2 ^ -539 is too small, and what comes back is 4 * 2 ^ -539
sqrt_square : to_bits binary64 (let x = of_bits binary64 0x3FB9_9999_9999_999A in sqrt_of (x ⊗ x)) ≡ 0x3FB9_9999_9999_999A
unfolding sqrt_of of_bits to_bits mul
sqrt_square = refl

sqrt_small_square : (let x = fin false 3 (negsuc 538) in sqrt_of (x ⊗ x)) ≡ fin false 1 (negsuc 536)
unfolding sqrt_of mul
sqrt_small_square = refl

-- ---- the test whether a value is nearer: of the root of 2 and the values just above and just below it it tells that the root is nearer than the one below
nearer_2 : List Bool
unfolding nearer_root sqrt_of of_bits
nearer_2 =
    let two = fin false 1 (pos 1) in
    let root = sqrt_of two in
    nearer_root two root (of_bits binary64 0x3FF6_A09E_667F_3BCE)
    ∷ nearer_root two root (of_bits binary64 0x3FF6_A09E_667F_3BCC)
    ∷ nearer_root two (of_bits binary64 0x3FF6_A09E_667F_3BCC) root
    ∷ []

only_the_last : nearer_2 ≡ false ∷ false ∷ true ∷ []
unfolding nearer_2
only_the_last = refl
