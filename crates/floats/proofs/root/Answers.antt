-- `floats::root` meets its contract: `Steps.antt` has what a turn does, and the rounding. Assumes nothing.
use Rattle.std.proofs.Common.{◌≡◌, ◌+◌, ◌-◌, arith}
use Rattle.floats.proofs.Steps.{turn_one, turn_zero, all_read, rounded-up, rounded-down}
use Rattle.floats.proofs.root.Goals as goal
use Rattle.floats.proofs.root.Goals.{else-rest-r, then-rest-r}

pub loop-preserved : goal.loop-preserved
loop-preserved c =
    let a = c.args.m.units in
    let l = c.loop in
    let left : 53 - l.counter ≡ 53 - (l.counter + 1) + 1 = omega arith in
    (elim c.if-rest-r.branch [
      | then-rest-r m ↦ rw (m.r-is, m.rest-is) (turn_one a l.w l.r l.rest _ _ left l.invariant m.if-rest-r.true)
      | else-rest-r m ↦
          rw (m.r-is, m.rest-is) (turn_zero a l.w l.r l.rest _ _ left l.invariant m.if-rest-r.false)
    ])

pub returns-then-rest-r-2 : goal.returns-then-rest-r-2
returns-then-rest-r-2 c =
    let l = c.loop in
    let m = c.args.m in
    rounded-up m.units l.r l.rest m.from_one m.below_four l.invariant.3 l.invariant.2
    (all_read m.units l.w l.r l.rest _ (omega arith) l.invariant) c.if-rest-r-2.true

pub returns-else-rest-r-2 : goal.returns-else-rest-r-2
returns-else-rest-r-2 c =
    let l = c.loop in
    let m = c.args.m in
    rounded-down m.units l.r l.rest m.from_one l.invariant.3 l.invariant.2
    (all_read m.units l.w l.r l.rest _ (omega arith) l.invariant) c.if-rest-r-2.false
