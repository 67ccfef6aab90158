-- The marks of the records so far, and the next one. Assumes nothing.
use Prim.Native.Nat.{◌/◌, ◌%◌, ◌<◌}
use native.Mathlib.Nat.{div-zero, mod-zero, div-eq_of_lt}
use native.Mathlib.Omega.{arith}
use mathlib.Core.Path.{◌≡◌, refl, sym, ap, ◌∙◌}
use lib.ListN.{length}
use Rattle.std.specs.Slice.Iter.{chunks_exact_rest}
use Rattle.basics.proofs.Answers.{raised_answer}
use Rattle.table.specs.Lent.{lent_mut}
use Rattle.loading.proofs.Marks.{stored, stopped, ended}
use Rattle.loading.proofs.insert_records.Goals as goal

pub returns-then-width-eq0-clause-inserts : goal.returns-then-width-eq0-clause-inserts
returns-then-width-eq0-clause-inserts c =
    let a = c.args in
    let none : length a.bytes.now / a.width ≡ 0 = rw c.if-width-eq0.true (div-zero (length a.bytes.now)) in
    let all : length a.bytes.now ≡ length a.bytes.now % a.width = rw c.if-width-eq0.true (sym (mod-zero (length a.bytes.now))) in
    ended a.width a.sheet a.bytes.now (lent_mut a.library.now) (lent_mut a.library.now) a.bytes.now a.bytes.now refl none all c.answer_after.ensures

pub loop-record-preserved : goal.loop-record-preserved
loop-record-preserved c =
    let a = c.args in
    let l = c.loop-record in
    let step = c.in-Some.ensures.steps in (
      step.0 ∙ l.invariant.0,
      stored a.width a.sheet a.bytes.now (lent_mut a.library.now) (lent_mut l.library) (omega (arith, c.if-width-eq0.false)) _ _ _
          l.invariant.1 step.1.0 (step.1.1 ∙ l.invariant.0) _ c.in_ok-insert_record.ensures.inserts,
      (cc, cc, cc, cc, cc),
    )

pub returns-in_err-insert_record-clause-inserts : goal.returns-in_err-insert_record-clause-inserts
returns-in_err-insert_record-clause-inserts c =
    let a = c.args in
    let l = c.loop-record in
    let step = c.in-Some.ensures.steps in
    rw (raised_answer _ c.in_err-insert_record.field-0.0 c.from_residual.result c.from_residual.ensures)
    (stopped a.width a.sheet a.bytes.now (lent_mut a.library.now) (lent_mut l.library) (omega (arith, c.if-width-eq0.false)) _ _ _
    l.invariant.1 step.1.0 (step.1.1 ∙ l.invariant.0) _ c.in_err-insert_record.ensures.inserts)

pub returns-clause-inserts : goal.returns-clause-inserts
returns-clause-inserts c =
    let a = c.args in
    let l = c.loop-record in
    let short : length (chunks_exact_rest l.record-iterator) < a.width = rw l.invariant.0 at c.in-None.ensures.steps.1.0 in
    ended a.width a.sheet a.bytes.now (lent_mut a.library.now) (lent_mut l.library) _ _ l.invariant.1 (div-eq_of_lt short)
    (ap length c.remainder-left.ensures ∙ c.chunks_exact-records.ensures.remainder_len) c.answer_after-2.ensures
