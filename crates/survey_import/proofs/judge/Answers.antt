use Rattle.std.proofs.Common.{rules, ◌∙◌}
use Rattle.survey_import.proofs.Reading.{good_read}
use Rattle.survey_import.proofs.Walk.{count-below, good-line, bad-line, no_line, all-good}
use Rattle.survey_import.proofs.judge.Goals as goal

pub overflow_add-count : goal.overflow_add-count
overflow_add-count c = let below = count-below c.loop-line.invariant c.in-Some.ensures.steps in search rules

pub returns-then-is_none : goal.returns-then-is_none
returns-then-is_none c = bad-line c.loop-line.invariant c.in-Some.ensures.steps (good_read _ _ c.read_line.ensures ∙ c.if-is_none.ensures)

pub loop-line-preserved : goal.loop-line-preserved
loop-line-preserved c = good-line c.loop-line.invariant c.in-Some.ensures.steps (good_read _ _ c.read_line.ensures ∙ c.if-is_none.ensures)

pub returns-then-count-eq0 : goal.returns-then-count-eq0
returns-then-count-eq0 c = no_line c.loop-line.invariant c.in-None.ensures.steps.0 c.if-count-eq0.true

pub returns : goal.returns
returns c = all-good c.loop-line.invariant c.in-None.ensures.steps.0 c.if-count-eq0.false
