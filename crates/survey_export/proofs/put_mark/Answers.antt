-- The number, the coordinates and the line's end, one after another.
-- Assumes nothing.
use Rattle.text.proofs.Laws.{puts_both}
use Rattle.survey_export.proofs.Laws.{line_fields}
use Rattle.survey_export.proofs.put_mark.Goals as goal

pub returns : goal.returns
returns c =
    rw line_fields
    (puts_both c.put_decimal.ensures
    (puts_both c.put_byte.ensures
    (puts_both c.put_field.ensures
    (puts_both c.put_field-2.ensures
    (puts_both c.put_field-3.ensures c.put_byte-2.ensures)))))
