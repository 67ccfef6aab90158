use Rattle.survey_import.proofs.Reading.{cut_nowhere, cut_at}
use Rattle.survey_import.proofs.cut.Goals as goal

pub returns-in_err-comma : goal.returns-in_err-comma
returns-in_err-comma c = rw c.from_residual.ensures (cut_nowhere _ c.in_err-comma.ensures)

pub returns : goal.returns
returns c = cut_at _ _ c.in_ok-comma.ensures
