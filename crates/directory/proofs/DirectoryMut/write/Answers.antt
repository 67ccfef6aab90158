-- `write` meets its contract: one more entry written, and zeros past all of them.
-- Assumes nothing.
use Rattle.std.proofs.Common.{◌+◌, length, take, sym, ◌∙◌, subst, arith}
use Rattle.std.proofs.lemmas.List.{length_push}
use Rattle.std.proofs.lemmas.Iterator.Consumers.{YieldsList-from_first, YieldsList-turn, YieldsList-end}
use Rattle.directory.specs.Entries.{entries_from}
use Rattle.directory.specs.Left.{containers_left}
use Rattle.directory.specs.Lent.{kept_mut}
use Rattle.directory.specs.Posts.{Written}
use Rattle.directory.proofs.Writes.{written-more, written-all, written-cut}
use Rattle.directory.proofs.DirectoryMut.write.Goals as goal

pub loop-entry-preserved : goal.loop-entry-preserved
loop-entry-preserved c =
    let es = entries_from 0 c.args.keys.now in
    let d = kept_mut c.args.self.now in
    let n = length c.loop-entry.yielded in
    let turn = YieldsList-turn (YieldsList-from_first (λ x. x) containers_left es cc) c.loop-entry.yielded _ c.loop-entry.yielded_by _
    c.next.new.self c.in-Some.entry c.in-Some.is c.next.ensures.steps in
    let more = subst (Written (take (n + 1) es) d) (sym c.push.ensures.pushes) (written-more es d c.requires c.loop-entry.invariant.written turn.0 turn.1) in
    record {
      written = rw (length_push c.loop-entry.yielded c.in-Some.entry) more;
      same_places = (cc, cc, cc);
    }

pub returns-clause-writes : goal.returns-clause-writes
returns-clause-writes c =
    let es = entries_from 0 c.args.keys.now in
    let d = kept_mut c.args.self.now in
    let end = YieldsList-end (YieldsList-from_first (λ x. x) containers_left es cc) c.loop-entry.yielded _ c.loop-entry.yielded_by _ c.next.new.self c.in-None.is c.next.ensures.steps in
    c.truncate.ensures.cuts ∙ written-cut es d _ (written-all es d c.requires c.loop-entry.invariant.written (omega arith))
