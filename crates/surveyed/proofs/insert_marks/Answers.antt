-- The mark at i, inserted. Assumes nothing.
use mathlib.Core.Path.{refl}
use Rattle.basics.proofs.Answers.{raised_answer}
use Rattle.table.specs.Lent.{lent_mut}
use Rattle.loading.specs.Loading.{insert_one}
use Rattle.loading.proofs.InOrder.{goes_on, stops, all-taken}
use Rattle.mark_lists.specs.MarkLists.{mark_at, marks_in}
use Rattle.mark_lists.specs.Lent.{lent}
use Rattle.surveyed.proofs.Texts.{of_mark}
use Rattle.surveyed.proofs.insert_marks.Goals as goal

pub returns-in_err-insert_mark-clause-inserts : goal.returns-in_err-insert_mark-clause-inserts
unfolding marks_in
returns-in_err-insert_mark-clause-inserts c =
    let a = c.args in
    let l = c.loop-i in
    let t = of_mark c.mark-mark.ensures a.sheet (lent_mut l.library) c.in_err-insert_mark.ensures.inserts in
    rw (raised_answer _ c.in_err-insert_mark.field-0.0 c.from_residual.result c.from_residual.ensures)
    (stops (insert_one a.sheet) a.marks.lists.used (mark_at (lent a.marks.lists)) (lent_mut a.library.now) (lent_mut l.library) l.i l.invariant.0 c.loop-i-test.true _ t)

pub loop-i-preserved : goal.loop-i-preserved
loop-i-preserved c =
    let a = c.args in
    let l = c.loop-i in
    let t = of_mark c.mark-mark.ensures a.sheet (lent_mut l.library) c.in_ok-insert_mark.ensures.inserts in (
      goes_on (insert_one a.sheet) a.marks.lists.used (mark_at (lent a.marks.lists)) (lent_mut a.library.now) (lent_mut l.library) l.i l.invariant.0 c.loop-i-test.true _ t,
      (cc, cc, cc, cc, cc),
    )

pub returns-clause-inserts : goal.returns-clause-inserts
unfolding marks_in
returns-clause-inserts c =
    let a = c.args in
    let l = c.loop-i in
    rw (all-taken (insert_one a.sheet) a.marks.lists.used (mark_at (lent a.marks.lists)) (lent_mut a.library.now) (lent_mut l.library) l.invariant.0
    c.loop-i-test.false) (record { answers = refl; library-is = refl })
