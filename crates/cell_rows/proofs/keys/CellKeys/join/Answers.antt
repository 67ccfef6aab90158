-- `cell_rows::keys::CellKeys::join` meets its contract. Assumes nothing.
use Rattle.std.proofs.Common.{◌≡◌, ◌<◌, false, sym, ◌∙◌, arith}
use Rattle.std.proofs.Math.ListN.{length-set}
use Rattle.basics.specs.Lists.{has}
use Rattle.cell_rows.specs.Keys.{held}
use Rattle.cell_rows.proofs.Corners.{has-list, join_old, join_new, join-small, length_held}
use Rattle.cell_rows.proofs.keys.CellKeys.join.Goals as goal

pub returns-then-contains : goal.returns-then-contains
returns-then-contains c =
    let seen = held c.args.self.now in
    join_old c.args.key seen (has-list c.args.key seen ∙ sym (rw c.as_slice.ensures at c.contains.ensures.value) ∙ c.if-contains.true)

pub invariant_of-self : goal.invariant_of-self
invariant_of-self c =
    let k = c.args.self.now in
    let new : has c.args.key (held k) ≡ false = has-list c.args.key (held k) ∙ sym (rw c.as_slice.ensures at c.contains.ensures.value) ∙ c.if-contains.false in
    let less : k.count < 8 = omega (arith, c.requires.room, length_held k) in
    let room = k.room in
    record {
      room = length-set k.keys k.count c.args.key ∙ room;
      few = omega arith;
      small = rw (join_new c.args.key k.count k.keys (omega arith) new) (join-small c.args.key (held k) c.requires.small k.small);
    }

pub returns : goal.returns
returns c =
    let k = c.args.self.now in
    let new : has c.args.key (held k) ≡ false = has-list c.args.key (held k) ∙ sym (rw c.as_slice.ensures at c.contains.ensures.value) ∙ c.if-contains.false in
    let room = k.room in
    join_new c.args.key k.count k.keys (omega (arith, c.requires.room, length_held k)) new
