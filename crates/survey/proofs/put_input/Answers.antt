-- By the answer's cases.
-- Assumes nothing.
use mathlib.Core.Path.{ap, ◌∙◌}
use Rattle.std.specs.Prelude.{Err}
use borrow.Author.Rules.{rules}
use Rattle.survey.proofs.Laws.{of_whole, of_longer, of_unreadable}
use Rattle.survey.proofs.put_input.Goals as goal

pub returns-in-Ok : goal.returns-in-Ok
returns-in-Ok c =
    let a = c.args in
    let p = c.put_survey.ensures in
    (p.0, p.1 ∙ of_whole a.input _ a.bytes.now c.in-Ok.is)

pub returns-in-Err-Longer : goal.returns-in-Err-Longer
returns-in-Err-Longer c =
    let a = c.args in
    let p = c.put_refused.ensures in
    (p.0, p.1 ∙ of_longer a.input a.bytes.now (c.in-Err-Longer.is ∙ ap Err (search rules)))

pub returns-in-Err-Unreadable : goal.returns-in-Err-Unreadable
returns-in-Err-Unreadable c =
    let a = c.args in
    let p = c.put_refused-in-Err-Unreadable.ensures in
    (p.0, p.1 ∙ of_unreadable a.input a.bytes.now (c.in-Err-Unreadable.is ∙ ap Err (search rules)))
