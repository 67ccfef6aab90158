-- `capi::sheet::read_sheet` meets its contract. Assumes nothing.
use Rattle.capi.specs.Sheets.{read_sheet}
use Rattle.capi.proofs.sheet.read_sheet.Goals as goal

pub returns : goal.returns
unfolding read_sheet
returns c = rw (
  c.position_at-low.ensures,
  c.position_at-high.ensures,
  c.given-number.ensures,
  c.given-tolerance.ensures,
  c.given-border_tol.ensures,
  c.position_at-xmin.ensures,
  c.position_at-xmax.ensures,
)
