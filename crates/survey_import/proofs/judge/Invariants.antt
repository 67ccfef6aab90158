-- The invariant: the lines passed are good, and the first bad line is ahead.
-- Assumes nothing.
use Rattle.lines.specs.Left.{lines_left}
use Rattle.survey_import.proofs.Walk.{Judging}
use Rattle.survey_import.proofs.judge.Given as goal

abbrev pub invariant-loop-line : goal.invariant-loop-line
invariant-loop-line l = Judging l.text (lines_left l.line-iterator) l.count
