-- Signed numbers: their size, and how the machine holds them.
-- Assumes nothing.
use Prim.Native.Nat.{ℕ, zero, suc, ◌≤◌}
use native.Mathlib.Omega.{arith}
use mathlib.Core.Path.{◌≡◌, refl}
use mathlib.Core.Bool.{Bool, true, false}
use lib.IntN.{ℤ, pos, negsuc, nat_abs}
use mir.Syntax.{w64}
use mir.Val.{to_z, of_z, SFits}
use mir.ValLaws.{to_z-of_z}
use Rattle.millimetres.specs.Millimetres.{limit, signed}

pub size-signed : (minus : Bool) (n : ℕ) → nat_abs (signed minus n) ≡ n
size-signed true zero = refl
size-signed true (suc n) = refl
size-signed false n = refl

-- ---- a number within the limit fits a word, and is read back from its bits
pub fits_word : (z : ℤ) → nat_abs z ≤ limit → SFits w64 z
fits_word (pos n) h = record { sfits = omega arith }
fits_word (negsuc n) h = record { sfits = omega arith }

pub read_back : (z : ℤ) → nat_abs z ≤ limit → to_z w64 (of_z w64 z) ≡ z
read_back z h = to_z-of_z w64 z (fits_word z h)
