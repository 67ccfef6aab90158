-- The index of one triangle, evaluated: rows that are not the index's are 13, and with its own rows the cell is found.
-- Assumes nothing.
use mathlib.Core.Path.{◌≡◌, refl}
use mathlib.Core.Option.{some}
use mathlib.Core.List.{[], ◌∷◌}
use lib.Ieee.{add, sub, mul, div, of_int, to_unsigned}
use Rattle.basics.specs.Refusals.{refused, success}
use Rattle.floats.specs.Rounded.{zero_f, pow2, pow2⁻}
use Rattle.floats.specs.Tests.{within}
use Rattle.grid_cells.specs.Build.{IndexLists}
use Rattle.grid_cells.proofs.Examples.{triangle, made}
use Rattle.cell_search.specs.Search.{cell_search}

lent : IndexLists
lent = record { keys = 7 ∷ 7 ∷ 7 ∷ 7 ∷ []; cells = 8 ∷ 8 ∷ 8 ∷ 8 ∷ []; large = 9 ∷ [] }

at_1·1 : (cell_search made triangle lent (zero_f ∷ zero_f ∷ zero_f ∷ pow2 7 ∷ []) (pow2 0 ∷ pow2 0 ∷ [])).answer ≡ refused 13
unfolding cell_search add sub mul div of_int to_unsigned within triangle lent made
at_1·1 = refl

filled : IndexLists
filled = record { keys = 0 ∷ 1 ∷ 2 ∷ 3 ∷ []; cells = 0 ∷ 0 ∷ 0 ∷ 0 ∷ []; large = [] }

at_1·1' : cell_search made triangle filled (zero_f ∷ zero_f ∷ zero_f ∷ pow2 7 ∷ []) (pow2 0 ∷ pow2 0 ∷ []) ≡ record { answer = success (some 0); zeta = pow2⁻ 1 ∷ pow2⁻ 2 ∷ pow2⁻ 2 ∷ pow2 7 ∷ [] }
unfolding cell_search add sub mul div of_int to_unsigned within triangle filled made
at_1·1' = refl
