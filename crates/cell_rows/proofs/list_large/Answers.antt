use Rattle.std.proofs.Common.{refl, sym, ◌∙◌, arith}
use Rattle.cell_rows.proofs.Tallies.{marking_start, marking_room, marking_large, marking_other, marking_end}
use Rattle.cell_rows.proofs.list_large.Goals.{then-is_large, else-is_large}
use Rattle.cell_rows.proofs.list_large.Goals as goal

pub loop-cell-init : goal.loop-cell-init
loop-cell-init c = marking_start c.requires

pub bounds-large-n : goal.bounds-large-n
bounds-large-n c = marking_room c.requires c.loop-cell.invariant (omega (arith, c.cell_count-cell-end.ensures)) c.bounding_box.ensures (sym c.is_large.ensures ∙ c.if-is_large.true)

pub loop-cell-preserved : goal.loop-cell-preserved
loop-cell-preserved c =
    elim c.if-is_large.branch [
      | then-is_large w ↦ rw (w.n-is, w.large-is)
          (marking_large c.requires c.loop-cell.invariant (omega (arith, c.cell_count-cell-end.ensures)) c.bounding_box.ensures
          (sym c.is_large.ensures ∙ w.if-is_large.true) refl)
      | else-is_large w ↦ rw (w.n-is, w.large-is)
          (marking_other c.requires c.loop-cell.invariant (omega (arith, c.cell_count-cell-end.ensures)) c.bounding_box.ensures
          (sym c.is_large.ensures ∙ w.if-is_large.false))
    ]

pub returns : goal.returns
returns c = marking_end c.requires c.loop-cell.invariant (omega (arith, c.cell_count-cell-end.ensures))
