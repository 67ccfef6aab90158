-- `insert` meets its contract: 24, 13 and 29, what was judged, and what is stored.
-- Assumes nothing.
use Rattle.std.proofs.Common.{◌≡◌, sym, ◌∙◌, subst}
use mathlib.Core.Path.{ap₂}
use Rattle.basics.specs.Refusals.{fault}
use Rattle.basics.specs.Answers.{refusal_number}
use Rattle.basics.proofs.Answers.{raised_answer}
use Rattle.std.proofs.Math.Option.{some}
use Rattle.table.specs.Library.{Library}
use Rattle.table.specs.Lent.{lent_mut}
use Rattle.rows.specs.Insert.{insert_tests, insertion}
use Rattle.rows.specs.Posts.{Accepts}
use Rattle.directory.specs.Directory.{Directory}
use Rattle.directory.specs.Lent.{kept_mut}
use Rattle.directory.specs.Calls.{directory_tests}
use Rattle.directory.proofs.Filing.{refused-first}
use Rattle.directory_insert.proofs.Answers.{library-passes, filed_turned, filed_takes, filed_stored}
use Rattle.directory_insert.proofs.insert.Goals as goal

pub returns-in_err-directory_fault-clause-gives : goal.returns-in_err-directory_fault-clause-gives
returns-in_err-directory_fault-clause-gives c =
    let s = c.args.sheet in
    let l = lent_mut c.args.library.now in
    let d = kept_mut c.args.directory.now in
    let told = c.in_err-directory_fault.ensures ∙ ap₂ (λ (m : Library) (e : Directory). fault (directory_tests s m e)) c.as_library.ensures c.as_directory.ensures in
    rw (raised_answer (λ n. n) c.in_err-directory_fault.field-0.0 c.from_residual.result c.from_residual.ensures)
    (refused-first s l d (insertion s l c.args.id.0 c.args.x.now) (sym told))

pub judge_mark-requires : goal.judge_mark-requires
judge_mark-requires c =
    let s = c.args.sheet in
    let told = c.in_ok-directory_fault.ensures ∙ ap₂ (λ (m : Library) (e : Directory). fault (directory_tests s m e)) (c.as_library.ensures ∙ sym c.as_library-2.ensures) c.as_directory.ensures in
    library-passes s _ (kept_mut c.args.directory.now) (sym told)

pub returns-in_err-targets-clause-gives : goal.returns-in_err-targets-clause-gives
returns-in_err-targets-clause-gives c =
    let s = c.args.sheet in
    let l = lent_mut c.args.library.now in
    let d = kept_mut c.args.directory.now in
    let told = c.in_ok-directory_fault.ensures ∙ ap₂ (λ (m : Library) (e : Directory). fault (directory_tests s m e)) c.as_library.ensures c.as_directory.ensures in
    let Judged = λ (m : Library). fault (insert_tests s m c.args.id.0 c.args.x.now) ≡ some (refusal_number c.in_err-targets.field-0.0) in
    rw (raised_answer (λ n. n) c.in_err-targets.field-0.0 c.from_residual-in_err-targets.result c.from_residual-in_err-targets.ensures)
    (filed_turned s l d (sym told) c.args.id.0 c.args.x.now (subst Judged c.as_library-2.ensures c.in_err-targets.ensures))

pub store_mark-requires : goal.store_mark-requires
store_mark-requires c =
    let s = c.args.sheet in
    let l = lent_mut c.args.library.now in
    let d = kept_mut c.args.directory.now in
    let told = c.in_ok-directory_fault.ensures ∙ ap₂ (λ (m : Library) (e : Directory). fault (directory_tests s m e)) c.as_library.ensures c.as_directory.ensures in
    let Judged = λ (m : Library). Accepts s m c.args.id.0 c.args.x.now c.in_ok-targets.targets in
    rw c.as_slice.ensures (filed_takes s l d (sym told) c.args.id.0 c.args.x.now c.new.result c.new.ensures (subst Judged c.as_library-2.ensures c.in_ok-targets.ensures))

pub returns-clause-gives : goal.returns-clause-gives
returns-clause-gives c =
    let s = c.args.sheet in
    let l = lent_mut c.args.library.now in
    let d = kept_mut c.args.directory.now in
    let told = c.in_ok-directory_fault.ensures ∙ ap₂ (λ (m : Library) (e : Directory). fault (directory_tests s m e)) c.as_library.ensures c.as_directory.ensures in
    let Judged = λ (m : Library). Accepts s m c.args.id.0 c.args.x.now c.in_ok-targets.targets in
    filed_stored s l d (sym told) c.args.id.0 c.args.x.now c.new.result c.new.ensures (subst Judged c.as_library-2.ensures c.in_ok-targets.ensures)
    (rw c.as_slice.ensures at c.store_mark.ensures.stores)
