-- `add` meets its contract: a container that is there changes nothing, and any other comes last.
-- Assumes nothing.
use Rattle.std.proofs.Common.{arith, sym, ◌∙◌, ◌≡◌, true, false, length, length-take-le, ap}
use Rattle.basics.specs.Lists.{has}
use Rattle.table.proofs.Count.{any-has}
use Rattle.rows.proofs.Found.{joined_old, joined_new}
use Rattle.rows.proofs.targets.Targets.add.Goals as goal

pub returns-then-not-contains : goal.returns-then-not-contains
returns-then-not-contains c =
    let none : has c.args.key c.args.self.now ≡ false = sym (any-has c.args.key c.args.self.now) ∙ rw (← c.as_slice.ensures) (sym c.contains.ensures.value ∙ c.if-not-contains.true) in
    let long : length c.self.inside.keys ≡ 9 = c.self.told in
    let count : c.self.inside.count ≡ length c.args.self.now = sym (length-take-le c.self.inside.count c.self.inside.keys (omega (arith, c.self.invariant))) ∙ ap length c.self.view_is in
    joined_new c.self.inside.keys c.self.inside.count c.args.key (omega arith) c.self.view_is none

pub returns-else-not-contains : goal.returns-else-not-contains
returns-else-not-contains c =
    let one : has c.args.key c.args.self.now ≡ true = sym (any-has c.args.key c.args.self.now) ∙ rw (← c.as_slice.ensures) (sym c.contains.ensures.value ∙ c.if-not-contains.false) in
    joined_old c.args.self.now c.args.key one
