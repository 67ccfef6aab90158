use Rattle.std.proofs.Common.{ℕ, List, ap, ◌∙◌, set, get_or, refl}
use Rattle.basics.specs.Lists.{over}
use Rattle.sorting.specs.Posts.{mark_id}
use Rattle.listing.proofs.Walks.{written_next}
use Rattle.listing.proofs.walk.write_ids.Goals as goal

pub loop-i-init : goal.loop-i-init
unfolding over
loop-i-init c = refl

pub loop-i-preserved : goal.loop-i-preserved
loop-i-preserved c =
    ap (λ (l : List ℕ). set l c.loop-i.i (mark_id c.args.ids.now (get_or c.args.marks.now c.loop-i.i 0))) c.loop-i.invariant
    ∙ written_next c.args.ids.now c.args.marks.now c.args.list.now c.loop-i.i c.loop-i-test.true c.requires.room
