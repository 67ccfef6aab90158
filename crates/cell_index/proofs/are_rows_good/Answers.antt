use Rattle.std.proofs.Common.{◌≡◌, ◌+◌, Bool, ◌&&◌, length, drop, sym, ap, ◌∙◌, arith}
use Rattle.table.specs.Rows.{before, slot_at, slots_of}
use Rattle.cell_index.proofs.Linked.{good_slot, linked, linked_turn, linked_end, rows_linked, no_rows}
use Rattle.cell_index.proofs.are_rows_good.Goals as goal

pub returns-in_default : goal.returns-in_default
returns-in_default c = let a = c.args in no_rows a.count a.ncell a.keys.now a.cells.now (omega (arith, c.in_default.ensures))

pub loop-i-init : goal.loop-i-init
loop-i-init c = let a = c.args in rows_linked a.count a.ncell (slots_of a.keys.now a.cells.now (length a.keys.now))

pub loop-i-preserved : goal.loop-i-preserved
unfolding slots_of
loop-i-preserved c =
    let a = c.args in
    let n = length a.keys.now in
    let slot = slot_at a.keys.now a.cells.now in
    let good = good_slot a.count a.ncell in
    let i = c.loop-i.i in
    let turn = linked_turn good before n slot i c.loop-i.ok (omega (arith, c.in-Some.ensures)) in
    c.loop-i.invariant ∙ turn ∙ ap (λ (t : Bool). (c.loop-i.ok && (good (slot i) && t)) && linked good before (drop (i + 1) (slots_of a.keys.now a.cells.now n))) (sym c.ahead.ensures)

pub returns : goal.returns
unfolding slots_of
returns c =
    let a = c.args in
    let n = length a.keys.now in
    let end : c.loop-i.i ≡ c.in-Some.last = omega (arith, c.in-Some.ensures) in
    sym (
    rw end at c.loop-i.invariant
    ∙ linked_end (good_slot a.count a.ncell) before n (slot_at a.keys.now a.cells.now) c.in-Some.last c.loop-i.ok
    (omega (arith, c.in-Some.ensures)) (omega (arith, c.in-Some.ensures))
    )
