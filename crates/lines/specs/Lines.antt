-- The lines of a text. A line ends in LF or in CR LF; the last may lack its end.
-- Assumes nothing.
use Rattle.std.specs.Prelude.{ℕ, cond, List, [], ◌∷◌, eqb}
use Rattle.lines.specs.Pieces.{split}

-- one CR before LF belongs to the line's end
unfoldable pub without_cr : List ℕ → List ℕ
without_cr [] = []
without_cr (x ∷ []) = cond (eqb x 13) [] (x ∷ [])
without_cr (x ∷ y ∷ ys) = x ∷ without_cr (y ∷ ys)

-- the lines of what stands between the LFs. Each piece but the last has an LF after it; what stands after the last LF is a line where there is something.
unfoldable pub ended : List (List ℕ) → List (List ℕ)
unfolding without_cr
ended [] = []
ended ([] ∷ []) = []
ended ((x ∷ xs) ∷ []) = (x ∷ xs) ∷ []
ended (p ∷ q ∷ qs) = without_cr p ∷ ended (q ∷ qs)

unfoldable pub lines : List ℕ → List (List ℕ)
unfolding ended split
lines text = ended (split 10 text)
