-- A text cut at a byte.
-- Assumes nothing.
use Rattle.std.specs.Prelude.{ℕ, cond, List, [], ◌∷◌, eqb}

-- a byte in front of the first piece
unfoldable pub onto : ℕ → List (List ℕ) → List (List ℕ)
onto x [] = (x ∷ []) ∷ []
onto x (p ∷ ps) = (x ∷ p) ∷ ps

-- the pieces between the bytes that equal b: one more than there are such bytes
unfoldable pub split : ℕ → List ℕ → List (List ℕ)
unfolding onto
split b [] = [] ∷ []
split b (x ∷ xs) = let rest = split b xs in cond (eqb x b) ([] ∷ rest) (onto x rest)
