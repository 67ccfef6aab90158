-- Each way out is settled by the tests before it. The first time the text is put into no buffer, and the marks are judged and its
-- length is learnt; the second time it fits.
-- Assumes nothing.
use Rattle.std.proofs.Common.{rules}
use Rattle.mark_lists.specs.Lent.{lent}
use Rattle.survey_export.proofs.Answers.{most, room-used, fault_lists, sound, fault_past, fault_found, measured, fault_short, all_fits, turned_away, raised, written}
use Rattle.survey_export.proofs.export.Goals as goal

pub returns-in_err-fault : goal.returns-in_err-fault
returns-in_err-fault c = raised _ _ _ (fault_lists _ _ c.in_err-fault.ensures) _ c.from_residual.ensures

pub returns-then-lists : goal.returns-then-lists
returns-then-lists c = turned_away _ _ _ (fault_past _ c.in_ok-fault.ensures c.if-lists.true _)

pub invariant_of-marks : goal.invariant_of-marks
invariant_of-marks c = record { room = room-used _ (sound _ c.in_ok-fault.ensures c.if-lists.false) }

pub put_marks-requires-clause-few : goal.put_marks-requires-clause-few
put_marks-requires-clause-few c = most (lent c.args.lists) (sound _ c.in_ok-fault.ensures c.if-lists.false)

pub returns-in_err-put_marks : goal.returns-in_err-put_marks
returns-in_err-put_marks c =
    let s = sound (lent c.args.lists) c.in_ok-fault.ensures c.if-lists.false in
    raised _ _ _ (fault_found _ s c.new-measure.result c.put_marks.new.writer _ c.in_err-put_marks.ensures.puts _) _ c.from_residual-in_err-put_marks.ensures

pub returns-then-length-text : goal.returns-then-length-text
returns-then-length-text c =
    let s = sound (lent c.args.lists) c.in_ok-fault.ensures c.if-lists.false in
    turned_away _ _ _ (fault_short _ c.new-measure.ensures.start c.in_ok-put_marks.ensures.puts s _ c.if-length-text.true)

pub put_marks-requires-2-clause-few : goal.put_marks-requires-2-clause-few
put_marks-requires-2-clause-few c = most (lent c.args.lists) (sound _ c.in_ok-fault.ensures c.if-lists.false)

pub returns : goal.returns
returns c =
    let l = lent c.args.lists in
    let s = sound l c.in_ok-fault.ensures c.if-lists.false in
    let a = all_fits l c.new-measure.ensures.start c.in_ok-put_marks.ensures.puts s _ c.if-length-text.false in
    written l _ a _ (measured l c.new-measure.ensures.start c.in_ok-put_marks.ensures.puts)
    _ c.new-writer.result _ c.new-writer.ensures.start c.new-writer.ensures.unchanged c.put_marks-2.ensures.puts _ (search rules)
