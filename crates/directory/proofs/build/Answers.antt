-- `build` meets its contract: its tests, and then the writing.
-- Assumes nothing.
use Rattle.std.proofs.Common.{sym, ap, ◌∙◌}
use lib.Seq.{length-take-le}
use Rattle.basics.specs.Refusals.{fault}
use Rattle.basics.proofs.Answers.{raised_answer}
use Rattle.table.specs.Lent.{lent}
use Rattle.directory.specs.Directory.{Directory}
use Rattle.directory.specs.Lent.{kept_mut}
use Rattle.directory.specs.Calls.{build_tests}
use Rattle.directory.proofs.Builds.{build-refused, build-keys, build-room, builds}
use Rattle.directory.proofs.build.Goals as goal

pub returns-in_err-build_fault-clause-builds : goal.returns-in_err-build_fault-clause-builds
returns-in_err-build_fault-clause-builds c =
    let s = c.args.sheet in
    let l = lent c.args.library in
    let told = c.in_err-build_fault.ensures ∙ ap (λ (d : Directory). fault (build_tests s l d)) c.as_directory.ensures in
    rw (raised_answer (λ n. n) c.in_err-build_fault.field-0.0 c.from_residual.result c.from_residual.ensures) (build-refused s l (kept_mut c.args.directory.now) (sym told))

pub slice_bounds-write-end : goal.slice_bounds-write-end
slice_bounds-write-end c = sym (length-take-le c.args.library.used c.args.library.keys.now (build-keys c.args.sheet _ _ (sym c.in_ok-build_fault.ensures)))

pub write-requires : goal.write-requires
write-requires c =
    let s = c.args.sheet in
    let l = lent c.args.library in
    let told = c.in_ok-build_fault.ensures ∙ ap (λ (d : Directory). fault (build_tests s l d)) c.as_directory.ensures in
    build-room s l (kept_mut c.args.directory.now) (sym told)

pub returns-clause-builds : goal.returns-clause-builds
returns-clause-builds c =
    let s = c.args.sheet in
    let l = lent c.args.library in
    let told = c.in_ok-build_fault.ensures ∙ ap (λ (d : Directory). fault (build_tests s l d)) c.as_directory.ensures in
    builds s l (kept_mut c.args.directory.now) (sym told) (kept_mut c.write.new.self) c.write.ensures.writes
