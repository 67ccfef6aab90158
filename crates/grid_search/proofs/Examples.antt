-- Document 01's sheet S is made and good.
-- Assumes nothing.
use mathlib.Core.Path.{◌≡◌, refl}
use mathlib.Core.Bool.{true}
use lib.Ieee.{add, sub, mul, div, of_int, to_unsigned}
use Rattle.basics.specs.Refusals.{success}
use Rattle.floats.specs.Tests.{within}
use Rattle.floats.specs.Rounded.{zero_f, pow2⁻}
use Rattle.std.specs.Prelude.{Some}
use Rattle.grid_search.specs.Sheet.{new_sheet, sheet_ok}
use Rattle.grid_search.specs.Examples.{low_of_s, high_of_s, S}

-- S is the sheet that these settings give, and it is good
pub S-made : new_sheet low_of_s high_of_s (Some 8) (Some (pow2⁻ 9)) (Some zero_f) ≡ success S
unfolding new_sheet S add sub mul div of_int to_unsigned within
S-made = refl

pub S-good : sheet_ok S ≡ true
unfolding sheet_ok S add sub mul div of_int to_unsigned within
S-good = refl
