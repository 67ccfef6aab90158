-- `find_place` meets its contract: the laws of a read.
-- Assumes nothing.
use Rattle.directory.proofs.Looks.{look-start, look_end, look-found, look_up_lem, look-down}
use Rattle.directory.proofs.find_place.Goals as goal

pub loop-n-init : goal.loop-n-init
loop-n-init c = look-start _ _

pub returns-then-k-key : goal.returns-then-k-key
returns-then-k-key c = look-found _ _ c.loop-n.invariant c.loop-n-test.true c.if-k-key.true

pub loop-n-preserved-then-k-key-2 : goal.loop-n-preserved-then-k-key-2
loop-n-preserved-then-k-key-2 c = look_up_lem _ _ c.loop-n.invariant c.loop-n-test.true c.if-k-key.false c.if-k-key-2.true

pub loop-n-preserved : goal.loop-n-preserved
loop-n-preserved c = look-down _ _ c.loop-n.invariant c.loop-n-test.true c.if-k-key.false c.if-k-key-2.false

pub returns : goal.returns
returns c = look_end _ _ c.loop-n.invariant c.loop-n-test.false
