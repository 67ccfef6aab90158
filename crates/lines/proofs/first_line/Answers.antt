-- The law of each way out.
-- Assumes nothing.
use Rattle.std.proofs.Common.{sym, ◌∙◌}
use Rattle.lines.proofs.LineLaws.{first-none, first-line}
use Rattle.lines.proofs.first_line.Goals as goal

pub returns-then-is_empty : goal.returns-then-is_empty
returns-then-is_empty c = first-none _ (sym c.if-is_empty.true ∙ c.is_empty.ensures)

pub returns : goal.returns
returns c = first-line _ _ c.line_at-line.ensures
