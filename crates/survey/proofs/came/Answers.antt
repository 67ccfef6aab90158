-- What was counted stands at the front.
-- Assumes nothing.
use Rattle.survey.proofs.Laws.{came_front}
use Rattle.survey.proofs.came.Goals as goal

pub returns : goal.returns
returns c = rw c.unwrap_or.ensures (came_front _ _ c.requires)
