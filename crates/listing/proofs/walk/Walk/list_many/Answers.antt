use Rattle.std.proofs.Common.{arith, ltb}
use borrow.Author.Tests.{ltb-true, ltb-false}
use Rattle.basics.proofs.Bools.{by_test}
use Rattle.listing.proofs.Walks.{walked_all, walked_indices, walked_copied}
use Rattle.listing.proofs.walk.Walk.list_many.Goals as goal

pub returns : goal.returns
returns c =
    let few = c.args.self.now.known.small in
    walked_all c.gather-to.ensures.walked (by_test (ltb c.gather-to.result.row c.args.self.now.library.used)
    (λ t. let left = ltb-true _ _ t in let full = c.gather-to.ensures.full left in absurd (omega (arith, c.gather-to.ensures.walked.gathered.upto, c.gather-to.auto.marks)))
    (λ t. ltb-false _ _ t)) c.list_marked.ensures

pub gather-to-requires-clause-walked_from : goal.gather-to-requires-clause-walked_from
gather-to-requires-clause-walked_from c =
    rw c.copy_from_slice.ensures.after (walked_copied c.requires.walked _ (omega (arith, c.requires.walked.gathered.upto, c.requires.walked.upto, c.args.self.now.known.small)))

pub list_marked-requires : goal.list_marked-requires
list_marked-requires c = walked_indices c.gather-to.ensures.walked c.args.self.now.known.checked.room.1.0
