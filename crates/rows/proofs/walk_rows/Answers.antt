-- `walk_rows` meets its contract: the laws of the walk for a turn of the loop.
-- Assumes nothing.
use Rattle.std.proofs.Common.{arith, ℕ, ◌≡◌, ◌+◌, ◌&&◌, true, false, refl, sym, ap, subst, ◌∙◌, drop}
use Rattle.std.proofs.Math.Option.{Option, none, some}
use Rattle.table.specs.declared.Row.{Row}
use Rattle.table.specs.Rows.{Slot, slot_of}
use Rattle.table.specs.Library.{table}
use Rattle.table.specs.Lent.{lent}
use Rattle.rows.specs.Check.{above, walk_from, walk}
use Rattle.rows.specs.Posts.{good_in, slot_before}
use Rattle.rows.proofs.Walks.{stops, goes_on, ends, kept, low-key}
use Rattle.rows.proofs.walk_rows.Goals as goal

pub loop-i-init : goal.loop-i-init
unfolding walk
loop-i-init g c = refl

pub row-row-requires : goal.row-row-requires
row-row-requires g c = omega (arith, c.requires.room)

pub returns-then-not-is_good : goal.returns-then-not-is_good
returns-then-not-is_good g c =
    let good = good_in g.row.N c.args.count in
    let p = slot_before c.loop-i.before.bound c.loop-i.before.last in
    let l = lent c.args.library in
    let Bad : Row → Type 0 = λ r. (good r && above p (slot_of r)) ≡ false in
    stops good l c.loop-i.i p c.loop-i.invariant (omega (arith, c.loop-i-test.true)) (subst Bad c.row-row.ensures (sym c.is_good.ensures ∙ c.if-not-is_good.true))

pub overflow_add-before : goal.overflow_add-before
overflow_add-before g c =
    let r = c.row-row.result in
    let good = sym c.is_good.ensures ∙ c.if-not-is_good.false in
    omega (arith, low-key g.row.N c.args.count r.key.0 r.at.x r.at.y r.at.z _ good, c.requires.few)

pub loop-i-preserved : goal.loop-i-preserved
loop-i-preserved g c =
    let good = good_in g.row.N c.args.count in
    let p = slot_before c.loop-i.before.bound c.loop-i.before.last in
    let l = lent c.args.library in
    let Passes : Row → Type 0 = λ r. (good r && above p (slot_of r)) ≡ true in
    let next = c.loop-i.i + 1 in
    goes_on good l c.loop-i.i p c.loop-i.invariant (omega (arith, c.loop-i-test.true)) (subst Passes c.row-row.ensures (sym c.is_good.ensures ∙ c.if-not-is_good.false))
    ∙ ap (λ (o : Option Slot). walk_from good next o (drop next (table l)))
    (sym (kept c.row-row.result.key.0 c.row-row.result.id.0 ∙ ap (λ (r : Row). some (slot_of r)) c.row-row.ensures))

pub returns : goal.returns
returns g c =
    let good = good_in g.row.N c.args.count in
    let p = slot_before c.loop-i.before.bound c.loop-i.before.last in
    let end : c.loop-i.i ≡ c.args.library.used = omega (arith, c.loop-i.auto.i-end) in
    ap (λ (n : ℕ). record { bad = none; visited = n }) (sym end) ∙ ends good (lent c.args.library) c.loop-i.i p c.loop-i.invariant c.loop-i-test.false
