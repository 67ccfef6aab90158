-- A part after the parts before it. Assumes nothing.
use mathlib.Core.Path.{refl, sym, ◌∙◌}
use Rattle.table.specs.Lent.{lent_mut}
use Rattle.files.proofs.Parts.{raised, start, more, stopped, unread, ended, not-ended}
use Rattle.files.proofs.insert_parts.Goals as goal

pub loop-init : goal.loop-init
loop-init g c = let a = c.args in (start a.width a.sheet (lent_mut a.library.now), (refl, refl, refl, refl, refl))

pub returns-in_err-part-clause-read : goal.returns-in_err-part-clause-read
returns-in_err-part-clause-read g c =
    let a = c.args in
    rw (raised c.in_err-part.field-0.0 c.from_residual.result c.from_residual.ensures)
    (stopped a.width a.sheet c.requires (lent_mut a.library.now) c.loop.invariant.0 _ c.in_err-part.ensures.read)

pub returns-then-is_err-clause-read : goal.returns-then-is_err-clause-read
returns-then-is_err-clause-read g c =
    let a = c.args in
    let m = more a.width a.sheet c.requires (lent_mut a.library.now) c.loop.invariant.0 c.in_ok-part.ensures.read in
    unread a.width a.sheet (lent_mut a.library.now) (lent_mut c.insert_part.new.library) m _
    (not-ended a.width a.sheet (lent_mut a.library.now) (lent_mut c.insert_part.new.library) m _ c.marks_answer-answer.result
    c.marks_answer-answer.ensures (sym c.is_err.ensures.value ∙ c.if-is_err.true))

pub returns-else-is_err-clause-read : goal.returns-else-is_err-clause-read
returns-else-is_err-clause-read g c =
    let a = c.args in
    ended a.width a.sheet (lent_mut a.library.now) (lent_mut c.insert_part.new.library)
    (more a.width a.sheet c.requires (lent_mut a.library.now) c.loop.invariant.0 c.in_ok-part.ensures.read)
    _ c.marks_answer-answer.result c.marks_answer-answer.ensures (sym c.is_err.ensures.value ∙ c.if-is_err.false)

pub returns-clause-read : goal.returns-clause-read
returns-clause-read g c =
    let a = c.args in
    unread a.width a.sheet (lent_mut a.library.now) _ c.loop.invariant.0 _ refl

pub loop-preserved : goal.loop-preserved
loop-preserved g c =
    let a = c.args in
    (more a.width a.sheet c.requires (lent_mut a.library.now) c.loop.invariant.0 c.in_ok-part.ensures.read, (cc, cc, cc, cc, cc))
