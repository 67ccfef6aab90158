-- `strike` meets its contract: a law for each way out.
-- Assumes nothing.
use Rattle.std.proofs.Common.{◌-◌, sym, ap, ◌∙◌, subst}
use mathlib.Core.Path.{ap₂}
use lib.Seq.{length-take-le}
use Rattle.basics.specs.Refusals.{fault, refused, success}
use Rattle.basics.proofs.Answers.{raised_answer}
use Rattle.table.specs.Library.{Library}
use Rattle.table.specs.Lent.{lent, lent_mut}
use Rattle.table.specs.Rows.{without}
use Rattle.strike.specs.Strike.{striking}
use Rattle.strike.specs.Posts.{Leaves, Strikes}
use Rattle.directory.specs.Directory.{Directory}
use Rattle.directory.specs.Lent.{kept_mut}
use Rattle.directory.specs.Calls.{directory_tests, filing, GivesBoth}
use Rattle.directory.proofs.Filing.{refused-first}
use Rattle.directory_strike.proofs.Answers.{room, thins, refused_none, strikes, left_most, accepted}
use Rattle.directory_strike.proofs.strike.Goals as goal

pub returns-in_err-directory_fault-clause-gives : goal.returns-in_err-directory_fault-clause-gives
returns-in_err-directory_fault-clause-gives c =
    let s = c.args.sheet in
    let l = lent_mut c.args.library.now in
    let d = kept_mut c.args.directory.now in
    let told = c.in_err-directory_fault.ensures ∙ ap₂ (λ (m : Library) (e : Directory). fault (directory_tests s m e)) c.as_library-before.ensures c.as_directory.ensures in
    rw (raised_answer (λ n. n) c.in_err-directory_fault.field-0.0 c.from_residual.result c.from_residual.ensures) (refused-first s l d (striking s l c.args.id.0) (sym told))

pub slice_bounds-ids-end : goal.slice_bounds-ids-end
slice_bounds-ids-end c =
    let s = c.args.sheet in
    let told = c.in_ok-directory_fault.ensures ∙ ap (λ (e : Directory). fault (directory_tests s (lent c.as_library-before.result) e)) c.as_directory.ensures in
    sym (length-take-le c.as_library-before.result.used c.as_library-before.result.ids.now (room s (lent c.as_library-before.result) (kept_mut c.args.directory.now) c.args.id.0 (sym told)).1.0)

pub returns-in_default-clause-gives : goal.returns-in_default-clause-gives
returns-in_default-clause-gives c =
    let s = c.args.sheet in
    let d = kept_mut c.args.directory.now in
    let told = c.in_ok-directory_fault.ensures ∙ ap (λ (e : Directory). fault (directory_tests s (lent c.as_library-before.result) e)) c.as_directory.ensures in
    let P = λ (m : Library). GivesBoth (filing s m d (striking s m c.args.id.0)) (refused 26) m d in
    subst P c.as_library-before.ensures (refused_none s (lent c.as_library-before.result) d c.args.id.0 (sym told) c.in_default.ensures)

pub take_off-requires : goal.take_off-requires
take_off-requires c =
    let s = c.args.sheet in
    let d = kept_mut c.args.directory.now in
    let told = c.in_ok-directory_fault.ensures ∙ ap (λ (e : Directory). fault (directory_tests s (lent c.as_library-before.result) e)) c.as_directory.ensures in
    thins s (lent c.as_library-before.result) d c.args.id.0 (sym told) c.in-Some.ensures.0

pub remove-requires : goal.remove-requires
remove-requires c =
    let s = c.args.sheet in
    let d = kept_mut c.args.directory.now in
    let told = c.in_ok-directory_fault.ensures ∙ ap (λ (e : Directory). fault (directory_tests s (lent c.as_library-before.result) e)) c.as_directory.ensures in
    subst (Strikes c.args.id.0 c.in-Some.first) c.as_library-before.ensures (strikes s (lent c.as_library-before.result) d c.args.id.0 (sym told) c.in-Some.ensures.0)

pub overflow_sub-result : goal.overflow_sub-result
overflow_sub-result c =
    let s = c.args.sheet in
    let d = kept_mut c.args.directory.now in
    let told = c.in_ok-directory_fault.ensures ∙ ap (λ (e : Directory). fault (directory_tests s (lent c.as_library-before.result) e)) c.as_directory.ensures in
    let P = λ (m : Library). Leaves (without c.args.id.0) m (lent_mut c.remove.new.library) in
    left_most s (lent c.as_library-before.result) d c.args.id.0 (sym told) c.in-Some.ensures.0 (subst P (sym c.as_library-before.ensures) c.remove.ensures.leaves)

pub returns-clause-gives : goal.returns-clause-gives
returns-clause-gives c =
    let s = c.args.sheet in
    let d = kept_mut c.args.directory.now in
    let told = c.in_ok-directory_fault.ensures ∙ ap (λ (e : Directory). fault (directory_tests s (lent c.as_library-before.result) e)) c.as_directory.ensures in
    let P = λ (m : Library). Leaves (without c.args.id.0) m (lent_mut c.remove.new.library) in
    let Q = λ (m : Library). GivesBoth (filing s m d (striking s m c.args.id.0))
    (success (c.as_library-before.result.used - c.remove.new.library.used)) (lent_mut c.remove.new.library)
    (kept_mut c.take_off.new.directory) in
    subst Q c.as_library-before.ensures
    (accepted s (lent c.as_library-before.result) d c.args.id.0 (sym told) c.in-Some.ensures.0
    (subst P (sym c.as_library-before.ensures) c.remove.ensures.leaves) c.take_off.ensures.takes c.in-Some.ensures.1)
