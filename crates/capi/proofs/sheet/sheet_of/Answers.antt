-- `capi::sheet::sheet_of` meets its contract. Assumes nothing.
use mathlib.Core.Path.{sym, ◌∙◌}
use Rattle.capi.specs.Sheets.{sheet_of}
use Rattle.capi.proofs.SheetLaws.{lengths_of}
use Rattle.capi.proofs.sheet.sheet_of.Goals as goal

pub read_sheet-requires : goal.read_sheet-requires
read_sheet-requires c =
    let a = c.args in
    let l = lengths_of a.numbers.now a.floats.now (sym c.readable.ensures ∙ c.if-readable.true) in record { numbers_length = l.0; floats_length = l.1 }

pub returns-then-readable : goal.returns-then-readable
unfolding sheet_of
returns-then-readable c = rw (sym c.readable.ensures ∙ c.if-readable.true) c.read_sheet.ensures

pub returns : goal.returns
unfolding sheet_of
returns c = rw (sym c.readable.ensures ∙ c.if-readable.false) c.no_sheet.ensures
