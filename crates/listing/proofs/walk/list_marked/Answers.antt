use Rattle.std.proofs.Common.{arith}
use Rattle.listing.proofs.Walks.{out_short, out_long}
use Rattle.listing.proofs.walk.list_marked.Goals as goal

pub returns-then-list-m : goal.returns-then-list-m
returns-then-list-m c = out_short c.args.ids.now _ _ _ (omega (arith, c.select_by-m.ensures.upto, c.select_by-m.auto.s)) c.select_by-m.ensures.by_key c.args.list.now c.if-list-m.true

pub returns : goal.returns
returns c = out_long c.args.ids.now _ _ _ (omega (arith, c.select_by-m.ensures.upto, c.select_by-m.auto.s)) c.select_by-m.ensures.by_key c.args.list.now _ c.if-list-m.false c.write_ids.ensures
