-- One row is selected for each id.
-- Assumes nothing.
use Rattle.std.proofs.Common.{arith}
use Rattle.display.proofs.Picks.{numbered_indices, picked}
use Rattle.display.proofs.pick_ids.Goals as goal

pub select_by-requires : goal.select_by-requires
select_by-requires c = numbered_indices c.args.ids.now c.args.order.now c.requires.each c.requires.numbered

pub returns : goal.returns
returns c = record {
  most = omega (arith, c.select_by.ensures.upto, c.select_by.auto.s);
  picked = picked c.args.ids.now c.args.order.now _ _ c.requires.each c.select_by.auto.s c.requires.numbered c.select_by.ensures;
}
