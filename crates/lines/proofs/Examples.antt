-- The lines of a few texts, evaluated.
-- Assumes nothing.
use mathlib.Core.Path.{◌≡◌, refl}
use mathlib.Core.List.{[], ◌∷◌}
use Rattle.lines.specs.Pieces.{split}
use Rattle.lines.specs.Lines.{lines}

-- ---- 44 is a comma, 97 an a

fields : split 44 (97 ∷ 44 ∷ 44 ∷ 97 ∷ 97 ∷ 44 ∷ []) ≡ (97 ∷ []) ∷ [] ∷ (97 ∷ 97 ∷ []) ∷ [] ∷ []
unfolding split
fields = refl

no_field : split 44 [] ≡ [] ∷ []
unfolding split
no_field = refl

-- ---- 10 is LF, 13 is CR

nothing : lines [] ≡ []
unfolding lines
nothing = refl

empty_line : lines (10 ∷ []) ≡ [] ∷ []
unfolding lines
empty_line = refl

two_empty_lines : lines (10 ∷ 10 ∷ []) ≡ [] ∷ [] ∷ []
unfolding lines
two_empty_lines = refl

no_end : lines (97 ∷ []) ≡ (97 ∷ []) ∷ []
unfolding lines
no_end = refl

ends_in_lf : lines (97 ∷ 10 ∷ []) ≡ (97 ∷ []) ∷ []
unfolding lines
ends_in_lf = refl

ends_in_cr_lf : lines (97 ∷ 13 ∷ 10 ∷ []) ≡ (97 ∷ []) ∷ []
unfolding lines
ends_in_cr_lf = refl

-- a CR that no LF follows is kept
cr_alone : lines (97 ∷ 13 ∷ []) ≡ (97 ∷ 13 ∷ []) ∷ []
unfolding lines
cr_alone = refl

-- one CR belongs to the line's end
one_cr_goes : lines (97 ∷ 13 ∷ 13 ∷ 10 ∷ []) ≡ (97 ∷ 13 ∷ []) ∷ []
unfolding lines
one_cr_goes = refl
