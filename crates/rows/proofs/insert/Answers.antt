-- `insert` meets its contract: what was judged, and what is stored.
-- Assumes nothing.
use Rattle.std.proofs.Common.{sym, subst}
use Rattle.basics.proofs.Answers.{raised_answer}
use Rattle.table.specs.Library.{Library}
use Rattle.rows.specs.Posts.{Judges}
use Rattle.rows.proofs.Answers.{turned_away, refused-damage, judged_refused, judged_accepts, taken, stored}
use Rattle.rows.proofs.insert.Goals as goal

pub returns-in_err-library_fault-clause-gives : goal.returns-in_err-library_fault-clause-gives
returns-in_err-library_fault-clause-gives c =
    rw (raised_answer (λ n. n) c.in_err-library_fault.field-0.0 c.from_residual.result c.from_residual.ensures)
    (turned_away c.args.sheet _ c.args.id.0 c.args.x.now (refused-damage c.args.sheet _ c.args.id.0 c.args.x.now (sym (rw c.as_library.ensures at c.in_err-library_fault.ensures))))

pub returns-in_err-targets-clause-gives : goal.returns-in_err-targets-clause-gives
returns-in_err-targets-clause-gives c =
    let P : Library → Type 0 = λ l. Judges c.args.sheet l c.args.id.0 c.args.x.now c.judge_mark.result in
    let judged = judged_refused c.args.sheet _ c.args.id.0 c.args.x.now (subst P c.as_library-2.ensures c.judge_mark.ensures) c.in_err-targets.was in
    rw (raised_answer (λ n. n) c.in_err-targets.field-0.0 c.from_residual-in_err-targets.result c.from_residual-in_err-targets.ensures)
    (turned_away c.args.sheet _ c.args.id.0 c.args.x.now judged)

pub put_all-requires : goal.put_all-requires
put_all-requires c =
    let P : Library → Type 0 = λ l. Judges c.args.sheet l c.args.id.0 c.args.x.now c.judge_mark.result in
    let accepted = judged_accepts c.args.sheet _ c.args.id.0 c.args.x.now (subst P c.as_library-2.ensures c.judge_mark.ensures) c.in_ok-targets.was in
    rw c.as_slice.ensures (taken c.args.sheet _ c.args.id.0 c.args.x.now c.new.result c.new.ensures accepted)

pub returns-clause-gives : goal.returns-clause-gives
returns-clause-gives c =
    let P : Library → Type 0 = λ l. Judges c.args.sheet l c.args.id.0 c.args.x.now c.judge_mark.result in
    let judged = judged_accepts c.args.sheet _ c.args.id.0 c.args.x.now (subst P c.as_library-2.ensures c.judge_mark.ensures) c.in_ok-targets.was in
    stored c.args.sheet _ c.args.id.0 c.args.x.now c.new.result c.new.ensures judged (rw c.as_slice.ensures at c.put_all.ensures.puts)
