-- A law for each field that is not what it has to be, and one for the mark.
-- Assumes nothing.
use Rattle.std.proofs.Common.{sym, ◌∙◌}
use Rattle.survey_import.proofs.Reading.{too_few, bad-number, bad_easting, bad_northing, bad_height, bad_description, mark_read}
use Rattle.survey_import.proofs.read_line.Goals as goal

pub returns-in_err-fields : goal.returns-in_err-fields
returns-in_err-fields c = rw c.from_residual.ensures (too_few _ c.in_err-fields.ensures)

pub returns-in_err-id : goal.returns-in_err-id
returns-in_err-id c = rw c.from_residual-in_err-id.ensures (bad-number _ c.in_ok-fields.ensures c.in_err-id.ensures)

pub returns-in_err-x : goal.returns-in_err-x
returns-in_err-x c = rw c.from_residual-in_err-x.ensures (bad_easting _ c.in_ok-fields.ensures c.in_err-x.ensures)

pub returns-in_err-y : goal.returns-in_err-y
returns-in_err-y c = rw c.from_residual-in_err-y.ensures (bad_northing _ c.in_ok-fields.ensures c.in_err-y.ensures)

pub returns-in_err-z : goal.returns-in_err-z
returns-in_err-z c = rw c.from_residual-in_err-z.ensures (bad_height _ c.in_ok-fields.ensures c.in_err-z.ensures)

pub returns-then-not-is_description : goal.returns-then-not-is_description
returns-then-not-is_description c = bad_description _ c.in_ok-fields.ensures (sym c.is_description.ensures ∙ c.if-not-is_description.true)

pub returns : goal.returns
returns c = mark_read _ c.in_ok-fields.ensures c.in_ok-id.ensures c.in_ok-x.ensures c.in_ok-y.ensures c.in_ok-z.ensures (sym c.is_description.ensures ∙ c.if-not-is_description.false)
