-- `strike` meets its contract: a law for each way out.
-- Assumes nothing.
use Rattle.std.proofs.Common.{◌-◌, sym, ap, ◌∙◌, subst}
use lib.Seq.{length-take-le}
use Rattle.basics.specs.Refusals.{fault, refused, success}
use Rattle.basics.proofs.Answers.{raised_answer}
use Rattle.table.specs.Library.{Library}
use Rattle.table.specs.Lent.{lent_mut}
use Rattle.table.specs.Rows.{without}
use Rattle.rows.specs.Damage.{library_tests}
use Rattle.rows.specs.Turn.{Gives}
use Rattle.strike.specs.Strike.{striking}
use Rattle.strike.specs.Posts.{Leaves, Strikes}
use Rattle.strike.proofs.Answers.{refused-first, room, refused_none, strikes, left_most, accepted}
use Rattle.strike.proofs.strike.Goals as goal

pub returns-in_err-library_fault-clause-strikes : goal.returns-in_err-library_fault-clause-strikes
returns-in_err-library_fault-clause-strikes c =
    let l = lent_mut c.args.library.now in
    rw (raised_answer (λ n. n) c.in_err-library_fault.field-0.0 c.from_residual.result c.from_residual.ensures)
    (refused-first c.args.sheet l c.args.id.0 (sym (c.in_err-library_fault.ensures ∙ ap (λ (m : Library). fault (library_tests c.args.sheet m)) c.as_library-before.ensures)))

pub slice_bounds-first_with-end : goal.slice_bounds-first_with-end
slice_bounds-first_with-end c =
    let b = c.as_library-before.result in
    sym (length-take-le b.used b.ids.now (room c.args.sheet _ c.args.id.0 (sym c.in_ok-library_fault.ensures)).1.0)

pub returns-in_default-clause-strikes : goal.returns-in_default-clause-strikes
returns-in_default-clause-strikes c =
    let P = λ (m : Library). Gives (striking c.args.sheet m c.args.id.0) (refused 26) m in
    subst P c.as_library-before.ensures (refused_none c.args.sheet _ c.args.id.0 (sym c.in_ok-library_fault.ensures) c.in_default.ensures)

pub remove-requires : goal.remove-requires
remove-requires c =
    subst (Strikes c.args.id.0 c.in-Some.first) c.as_library-before.ensures (strikes c.args.sheet _ c.args.id.0 (sym c.in_ok-library_fault.ensures) c.in-Some.ensures.0)

pub overflow_sub-went : goal.overflow_sub-went
overflow_sub-went c =
    let P = λ (m : Library). Leaves (without c.args.id.0) m (lent_mut c.remove.new.library) in
    left_most c.args.sheet _ c.args.id.0 (sym c.in_ok-library_fault.ensures) c.in-Some.ensures.0 (subst P (sym c.as_library-before.ensures) c.remove.ensures.leaves)

pub returns-clause-strikes : goal.returns-clause-strikes
returns-clause-strikes c =
    let P = λ (m : Library). Leaves (without c.args.id.0) m (lent_mut c.remove.new.library) in
    let Q = λ (m : Library). Gives (striking c.args.sheet m c.args.id.0) (success (c.as_library-before.result.used - c.remove.new.library.used)) (lent_mut c.remove.new.library) in
    subst Q c.as_library-before.ensures
    (accepted c.args.sheet _ c.args.id.0 (sym c.in_ok-library_fault.ensures) c.in-Some.ensures.0 (subst P (sym c.as_library-before.ensures) c.remove.ensures.leaves) c.in-Some.ensures.1)
