-- Document 01's sheet S. What is tried on it stands in the crate `examples`.
-- Assumes nothing.
use Rattle.std.specs.Prelude.{List, [], ◌∷◌, Float}
use Rattle.floats.specs.Rounded.{zero_f, pow2, pow2⁻}
use Rattle.std.specs.Prelude.{Some}
use Rattle.grid_search.specs.declared.GridSearch.{GridSearch}
use Rattle.grid_search.specs.Sheet.{sheet_from}

-- sheet S: corners (0, 0) and (8, 4), divisions 8, border 0, tolerance 1/512
abbrev pub low_of_s : List Float
low_of_s = zero_f ∷ zero_f ∷ []

abbrev pub high_of_s : List Float
high_of_s = pow2 3 ∷ pow2 2 ∷ []

unfoldable pub S : GridSearch
unfolding sheet_from
S = sheet_from low_of_s high_of_s (Some 8) (Some (pow2⁻ 9)) (Some zero_f)
