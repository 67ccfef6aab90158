-- `build_fault` meets its contract: the tests of the lists, and then that of room.
-- Assumes nothing.
use Rattle.std.proofs.Common.{◌≡◌, length, take, sym, ap, ◌∙◌, inl, arith}
use Rattle.std.proofs.lemmas.Iterator.Consumers.{YieldsList-from_first, count_from_yields_List}
use lib.Seq.{length-take-le}
use Rattle.basics.proofs.Answers.{raised_fault}
use Rattle.directory.specs.Entries.{entries_from}
use Rattle.directory.specs.Lent.{kept}
use Rattle.directory.specs.Left.{containers_left}
use Rattle.directory.proofs.Entries.{entries-few}
use Rattle.directory.proofs.Builds.{lists-refuse, build-keys-room, too_few, enough}
use Rattle.directory.proofs.build_fault.Goals as goal

pub returns-in_err-lists_fault : goal.returns-in_err-lists_fault
returns-in_err-lists_fault c =
    raised_fault c.in_err-lists_fault.field-0.0 c.from_residual.result c.from_residual.ensures ∙ sym (lists-refuse c.args.sheet _ _ (sym c.in_err-lists_fault.ensures))

pub slice_bounds-keys-end : goal.slice_bounds-keys-end
slice_bounds-keys-end c = sym (length-take-le c.args.library.used c.args.library.keys.now (build-keys-room c.args.sheet _ (kept c.args.directory) (sym c.in_ok-lists_fault.ensures)))

pub count-requires-clause-fits : goal.count-requires-clause-fits
count-requires-clause-fits c =
    let keys = take c.args.library.used c.args.library.keys.now in
    let long = length-take-le c.args.library.used c.args.library.keys.now (build-keys-room c.args.sheet _ (kept c.args.directory) (sym c.in_ok-lists_fault.ensures)) in
    inl (omega (arith, ap length c.new.ensures, entries-few 0 keys, long))

pub returns-then-directory-count : goal.returns-then-directory-count
returns-then-directory-count c =
    let es = entries_from 0 (take c.args.library.used c.args.library.keys.now) in
    let n : c.count.result ≡ length es = count_from_yields_List _ c.count.result c.count.ensures.ran (YieldsList-from_first (λ x. x) containers_left es c.new.ensures) in
    sym (too_few c.args.sheet _ _ (sym c.in_ok-lists_fault.ensures) n c.if-directory-count.true)

pub returns : goal.returns
returns c =
    let es = entries_from 0 (take c.args.library.used c.args.library.keys.now) in
    let n : c.count.result ≡ length es = count_from_yields_List _ c.count.result c.count.ensures.ran (YieldsList-from_first (λ x. x) containers_left es c.new.ensures) in
    sym (enough c.args.sheet _ _ (sym c.in_ok-lists_fault.ensures) n c.if-directory-count.false)
