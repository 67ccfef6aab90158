-- What is claimed of millimetres and their coordinates. Proofs: proofs/Theorems.antt.
-- Assumes nothing.
use Rattle.std.specs.Prelude.{suc, ◌≤◌, ◌≡◌, true, false, ◌↔◌, ℤ, pos, negsuc, nat_abs, Float}
use Rattle.std.proofs.Math.Option.{some}
use Rattle.std.specs.Float.{fin, binary64}
use Rattle.std.specs.Float.Ieee.{round}
use Rattle.floats.specs.Tests.{Binary64}
use Rattle.millimetres.specs.Millimetres.{limit, value_of, decimal_of}

-- The exact quotient m / 1,000, rounded once to the nearest binary64: the sign, the numerator and the denominator of what is rounded.
abbrev pub Rounds : ℤ → Float → Type 0
Rounds (pos n) x = x ≡ round binary64 false n 1000
Rounds (negsuc n) x = x ≡ round binary64 true (suc n) 1000

pub record Values : Type 0 where
  -- the value of a number of millimetres is the one that m / 1,000 rounds to
  pub rounded : (m : ℤ) → nat_abs m ≤ limit → Rounds m (value_of m)
  -- a float is taken for m millimetres exactly if it is their value, and they are within the limit
  pub is-value : (x : Float) (m : ℤ) → Binary64 x → (decimal_of x ≡ some m) ↔ ((x ≡ value_of m) × (nat_abs m ≤ limit))
  -- two different numbers of millimetres have different values
  pub apart : (m n : ℤ) → nat_abs m ≤ limit → nat_abs n ≤ limit → value_of m ≡ value_of n → m ≡ n
  -- and -0 is the value of none
  pub no_minus_zero : (m : ℤ) → nat_abs m ≤ limit → value_of m ≡ fin true 0 (pos 0) → ⊥
