use Rattle.listing.proofs.Places.{made-line, made-circle, made-cylinder, made_xy, made_yz, made_xz}
use Rattle.listing.proofs.asked.made.Goals as goal

pub returns-in-0 : goal.returns-in-0
returns-in-0 c = made-line _ _ _ _ c.in-0.is _ _ c.new.ensures c.new-in-0.ensures

pub returns-in-1 : goal.returns-in-1
returns-in-1 c = made-circle _ _ c.args.b.now _ c.in-1.is _ c.new-in-1.ensures

pub returns-in-2 : goal.returns-in-2
returns-in-2 c = made-cylinder _ _ _ _ c.in-2.is _ _ c.new-in-2.ensures c.new-in-2-2.ensures

pub returns-in-3 : goal.returns-in-3
returns-in-3 c = made_xy _ c.args.a.now c.args.b.now _ c.in-3.is

pub returns-in-4 : goal.returns-in-4
returns-in-4 c = made_yz _ c.args.a.now c.args.b.now _ c.in-4.is

pub returns-in-5 : goal.returns-in-5
returns-in-5 c = made_xz _ c.args.a.now c.args.b.now _ c.in-5.is
