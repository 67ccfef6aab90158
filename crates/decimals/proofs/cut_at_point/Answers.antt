-- No point; no decimals after it; both parts.
-- Assumes nothing.
use Rattle.decimals.proofs.Parts.{cut_nowhere, cut_bad, cut_good}
use Rattle.decimals.proofs.cut_at_point.Goals as goal

pub returns-in_default : goal.returns-in_default
returns-in_default c = cut_nowhere _ c.in_default.ensures

pub returns-in_err-decimals : goal.returns-in_err-decimals
returns-in_err-decimals c = rw c.from_residual.ensures (cut_bad c.args.field.now c.in-Some.point c.in-Some.ensures c.in_err-decimals.ensures)

pub returns : goal.returns
returns c = cut_good c.args.field.now c.in-Some.point c.in-Some.ensures c.in_ok-decimals.decimals c.in_ok-decimals.ensures
