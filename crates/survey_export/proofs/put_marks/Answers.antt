use Rattle.std.proofs.Common.{rules}
use Rattle.survey_export.proofs.Walk.{told-ok, told-err, sofar_none, bad_mark, fits, next_mark, all-marks}
use Rattle.survey_export.proofs.put_marks.Goals as goal

pub loop-i-init : goal.loop-i-init
loop-i-init c = sofar_none _ _ c.requires.start

pub returns-in_err-decimals-clause-puts : goal.returns-in_err-decimals-clause-puts
returns-in_err-decimals-clause-puts c = bad_mark c.loop-i.invariant c.loop-i-test.true c.mark-mark.ensures (told-err _ _ c.of.ensures c.in_err-decimals.ensures.value) _ c.from_residual.ensures

pub put_mark-requires : goal.put_mark-requires
put_mark-requires c = fits c.loop-i.invariant c.loop-i-test.true c.mark-mark.ensures (told-ok _ _ c.of.ensures c.in_ok-decimals.ensures.value) (search rules) c.requires.few

pub loop-i-preserved : goal.loop-i-preserved
loop-i-preserved c = next_mark c.loop-i.invariant c.loop-i-test.true c.mark-mark.ensures (told-ok _ _ c.of.ensures c.in_ok-decimals.ensures.value) (search rules) c.put_mark.ensures

pub returns-clause-puts : goal.returns-clause-puts
returns-clause-puts c = all-marks c.loop-i.invariant c.loop-i-test.false
