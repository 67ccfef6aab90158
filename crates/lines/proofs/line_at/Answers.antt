-- `line_at` meets its contract: the line ends before the first LF, or where a CR stands before that.
-- Assumes nothing.
use Rattle.std.proofs.Common.{sym, ◌∙◌, arith}
use Rattle.lines.proofs.LineLaws.{line_last, line_found}
use Rattle.lines.proofs.line_at.Goals as goal

pub returns-in_default : goal.returns-in_default
returns-in_default c = line_last c.args.text.now c.args.at c.requires (sym c.in_default.is ∙ c.find.ensures)

pub returns : goal.returns
returns c = line_found c.args.text.now c.args.at c.requires _ _ _ _ (sym c.in-Some.is ∙ c.find.ensures) c.stripped-line.ensures.without_cr (omega arith) (omega arith)
