-- `capi::sheet::no_sheet` meets its contract. Assumes nothing.
use mathlib.Core.Path.{refl}
use lib.Ieee.{of_bits, div}
use Rattle.capi.specs.Sheets.{read_sheet}
use Rattle.capi.proofs.sheet.no_sheet.Goals as goal

pub returns : goal.returns
unfolding of_bits div read_sheet
returns c = refl
