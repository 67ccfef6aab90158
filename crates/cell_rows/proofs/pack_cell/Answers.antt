use Rattle.std.proofs.Common.{ℕ, ltb, get_or, set, refl, ap, ◌∙◌}
use borrow.Author.Tests.{ltb-true}
use Rattle.basics.proofs.Lists.{all_at}
use Rattle.cell_rows.specs.Steps.{pack}
use Rattle.cell_rows.proofs.Over.{over_none, over-map_next}
use Rattle.cell_rows.proofs.pack_cell.Goals as goal

pub loop-i-init : goal.loop-i-init
loop-i-init c = over_none c.args.rows.now

pub pack_row-requires-clause-key : goal.pack_row-requires-clause-key
pack_row-requires-clause-key c = ltb-true _ _ (all_at (λ (k : ℕ). ltb k 1073741824) c.args.keys.now c.loop-i.i 0 c.loop-i-test.true c.requires.small)

pub loop-i-preserved : goal.loop-i-preserved
loop-i-preserved c =
    let l = c.loop-i in
    ap (λ v. set l.rows l.i v) c.pack_row.ensures
    ∙ ap (λ x. set x l.i (pack c.args.cell (get_or c.args.keys.now l.i 0))) l.invariant
    ∙ over-map_next (pack c.args.cell) c.args.keys.now c.args.rows.now l.i _ c.loop-i-test.true c.requires.room refl
