-- What is written of a coordinate: how long it is, and its sign and its size.
-- Assumes nothing.
use Prim.Native.Nat.{ℕ, zero-le, ◌+◌, ◌/◌, ◌≤◌}
use mathlib.Core.Path.{◌≡◌, refl}
use mathlib.Core.Bool.{true, false, cond}
use mathlib.Core.List.{List, [], ◌∷◌, ◌++◌}
use lib.IntN.{ℤ, pos, negsuc, nat_abs}
use lib.Signed.{lt_z}
use lib.ListN.{length, length-append}
use mir.Syntax.{w64}
use mir.Val.{to_z, of_z}
use borrow.Author.Tests.{le-ltb}
use Rattle.text.specs.Text.{decimal}
use Rattle.text.specs.Writers.{Puts}
use Rattle.text.specs.declared.Writer.{Writer}
use Rattle.text.proofs.Laws.{puts_nothing}
use Rattle.millimetres.specs.Millimetres.{limit}
use Rattle.millimetres.proofs.Signed.{read_back}
use Rattle.decimals.specs.Decimals.{magnitude_text, coordinate_text}

pub magnitude_length : (n : ℕ) → length (magnitude_text n) ≡ length (decimal (n / 1000)) + 4
unfolding magnitude_text
magnitude_length n = length-append (decimal (n / 1000)) _

-- ---- the sign and the size

-- a minus in front of a number below zero
abbrev pub sign : ℤ → List ℕ
sign z = cond (lt_z z (pos 0)) (45 ∷ []) []

pub sign_magnitude : (z : ℤ) → coordinate_text z ≡ sign z ++ magnitude_text (nat_abs z)
unfolding coordinate_text
sign_magnitude (pos n) = rw (le-ltb n 0 zero-le)
sign_magnitude (negsuc n) = refl

-- as the code writes them, which reads the number from its word
module _ (z : ℤ) (h : nat_abs z ≤ limit) where
  pub size_written : {n : ℕ} → n ≡ nat_abs (to_z w64 (of_z w64 z)) → coordinate_text z ≡ sign z ++ magnitude_text n
  size_written e = rw (e, read_back z h) (sign_magnitude z)

  pub minus_written : {a b : Writer} → lt_z (to_z w64 (of_z w64 z)) (pos 0) ≡ true → Puts (45 ∷ []) a b → Puts (sign z) a b
  minus_written e p = rw (rw (read_back z h) at e) p

  pub none_written : (w : Writer) → lt_z (to_z w64 (of_z w64 z)) (pos 0) ≡ false → Puts (sign z) w w
  none_written w e = rw (rw (read_back z h) at e) (puts_nothing w)
