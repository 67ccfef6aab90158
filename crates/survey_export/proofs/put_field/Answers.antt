-- The coordinate, and then the comma.
-- Assumes nothing.
use Rattle.text.proofs.Laws.{puts_both}
use Rattle.survey_export.proofs.put_field.Goals as goal

pub returns : goal.returns
returns c = puts_both c.put_coordinate.ensures c.put_byte.ensures
