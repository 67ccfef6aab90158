use Rattle.std.proofs.Common.{ℕ, length, ap, sym, ◌∙◌, arith}
use lib.ListN.{length-take, length-drop}
use Rattle.cell_rows.specs.Keys.{keys_in}
use Rattle.cell_rows.proofs.Over.{put_over}
use Rattle.cell_rows.proofs.Tallies.{some_keys, packing_start, packing_some, packing_room, packing_next, packing_end}
use Rattle.cell_rows.proofs.Filing.pack_rows.Goals as goal

pub loop-cell-init : goal.loop-cell-init
loop-cell-init c = packing_start c.requires

pub unwrap-keys-requires : goal.unwrap-keys-requires
unwrap-keys-requires c =
    let count = rw c.args.self.axes at c.cell_count-cell-end.ensures in
    some_keys c.cell_keys.result (packing_some c.requires c.loop-cell.invariant (omega (arith, count)) c.cell_keys.ensures)

pub pack_cell-requires-clause-room : goal.pack_cell-requires-clause-room
pack_cell-requires-clause-room c =
    let l = c.loop-cell in
    let count = rw c.args.self.axes at c.cell_count-cell-end.ensures in
    let keys = sym (ap keys_in c.unwrap-keys.ensures) ∙ c.cell_keys.ensures in
    let room = packing_room c.requires l.invariant (omega (arith, count)) keys in
    omega (arith, room, ap length c.as_slice-keys.ensures, length-take {A = ℕ}, length-drop {A = ℕ})

pub loop-cell-preserved : goal.loop-cell-preserved
loop-cell-preserved c =
    let l = c.loop-cell in
    let count = rw c.args.self.axes at c.cell_count-cell-end.ensures in
    let keys = sym (ap keys_in c.unwrap-keys.ensures) ∙ c.cell_keys.ensures in
    let room = packing_room c.requires l.invariant (omega (arith, count)) keys in
    let part = rw c.as_slice-keys.ensures at c.pack_cell.ensures in
    rw c.as_slice-keys.ensures (packing_next c.requires l.invariant (omega (arith, count)) keys (put_over _ l.rows c.pack_cell.new.rows l.n (omega (arith, room)) part))

pub returns : goal.returns
returns c =
    let count = rw c.args.self.axes at c.cell_count-cell-end.ensures in
    packing_end c.requires c.loop-cell.invariant (omega (arith, count))
