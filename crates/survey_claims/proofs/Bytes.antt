-- Bytes that a text does not have.
-- Assumes nothing.
use Prim.Native.Nat.{ℕ}
use mathlib.Core.Path.{◌≡◌, refl, ap}
use mathlib.Core.Bool.{false, ◌||◌}
use mathlib.Core.List.{List, [], ◌∷◌, ◌++◌}
use lib.Dec.{eqb}
use Rattle.basics.specs.Lists.{has}
use Rattle.basics.proofs.Bools.{or_left, or_right}
use Rattle.lines.specs.Lines.{without_cr}
use Rattle.lines.proofs.Pieces.{has-append}

-- neither of two texts has the byte, so both together have it not
pub neither : (v : ℕ) (a b : List ℕ) → has v a ≡ false → has v b ≡ false → has v (a ++ b) ≡ false
neither v a b p q = rw (has-append v a b, p, q)

-- a text without CR keeps all its bytes
pub no_end : (s : List ℕ) → has 13 s ≡ false → without_cr s ≡ s
unfolding without_cr has
no_end [] h = refl
no_end (x ∷ []) h = rw (or_left (eqb x 13) false h)
no_end (x ∷ y ∷ ys) h = ap (λ (l : List ℕ). x ∷ l) (no_end (y ∷ ys) (or_right (eqb x 13) (eqb y 13 || has 13 ys) h))
