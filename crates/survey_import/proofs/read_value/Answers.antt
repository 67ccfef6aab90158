use Rattle.survey_import.proofs.Reading.{value-none, value-some}
use Rattle.survey_import.proofs.read_value.Goals as goal

pub returns-in_err-n : goal.returns-in_err-n
returns-in_err-n c = rw c.from_residual.ensures (value-none _ c.in_err-n.ensures)

pub returns : goal.returns
returns c = value-some _ c.in_ok-n.ensures c.value.ensures
