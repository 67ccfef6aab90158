use Rattle.std.proofs.Common.{arith}
use Rattle.listing.proofs.Walks.{walked_none, walked_all, walked_indices}
use Rattle.listing.proofs.walk.Walk.list.Goals as goal

pub gather-to-requires-clause-walked_from : goal.gather-to-requires-clause-walked_from
gather-to-requires-clause-walked_from c = walked_none c.requires.counted _ (omega arith)

pub returns : goal.returns
returns c = walked_all c.gather-to.ensures.walked c.if-to-self.false c.list_marked.ensures

pub list_marked-requires : goal.list_marked-requires
list_marked-requires c = walked_indices c.gather-to.ensures.walked c.args.self.now.known.checked.room.1.0
