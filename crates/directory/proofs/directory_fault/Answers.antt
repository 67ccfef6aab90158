-- `directory_fault` meets its contract: the tests of the lists, and then that of the places.
-- Assumes nothing.
use Rattle.std.proofs.Common.{sym, ◌∙◌}
use lib.Seq.{length-take-le}
use Rattle.basics.proofs.Answers.{raised_fault}
use Rattle.directory.proofs.Passing.{place-room, matches-keys, keys-room, keys-rise, both-pass, lists-refused, no_match, match}
use Rattle.directory.proofs.directory_fault.Goals as goal

pub returns-in_err-lists_fault : goal.returns-in_err-lists_fault
returns-in_err-lists_fault c =
    raised_fault c.in_err-lists_fault.field-0.0 c.from_residual.result c.from_residual.ensures ∙ sym (lists-refused c.args.sheet _ _ (sym c.in_err-lists_fault.ensures))

pub slice_bounds-is_match-end : goal.slice_bounds-is_match-end
slice_bounds-is_match-end c =
    let b = both-pass c.args.sheet _ _ (sym c.in_ok-lists_fault.ensures) in
    sym (length-take-le c.args.library.used c.args.library.keys.now (keys-room c.args.sheet _ b.library-passes))

pub is_match-requires-clause-rising : goal.is_match-requires-clause-rising
is_match-requires-clause-rising c = keys-rise c.args.sheet _ (both-pass c.args.sheet _ _ (sym c.in_ok-lists_fault.ensures)).library-passes

pub is_match-requires-clause-room : goal.is_match-requires-clause-room
is_match-requires-clause-room c = place-room _ (both-pass c.args.sheet _ _ (sym c.in_ok-lists_fault.ensures)).places-sound

pub returns-then-not-is_match : goal.returns-then-not-is_match
returns-then-not-is_match c =
    let told = sym c.in_ok-lists_fault.ensures in
    let same = matches-keys _ _ (keys-room c.args.sheet _ (both-pass c.args.sheet _ _ told).library-passes) in
    sym (no_match c.args.sheet _ _ told (sym same ∙ sym c.is_match.ensures ∙ c.if-not-is_match.true))

pub returns : goal.returns
returns c =
    let told = sym c.in_ok-lists_fault.ensures in
    let same = matches-keys _ _ (keys-room c.args.sheet _ (both-pass c.args.sheet _ _ told).library-passes) in
    sym (match c.args.sheet _ _ told (sym same ∙ sym c.is_match.ensures ∙ c.if-not-is_match.false))
