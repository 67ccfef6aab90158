use Rattle.std.proofs.Common.{arith}
use Rattle.listing.proofs.Walks.{marking_next, marking_full, marking_end}
use Rattle.listing.proofs.walk.Walk.mark_rows.Goals as goal

pub loop-row-preserved : goal.loop-row-preserved
loop-row-preserved c = marking_next c.loop-row.invariant c.row_counts-counts.result _ c.row_counts-counts.ensures (λ e. rw e) (λ e. rw e) c.if-more-marks.false

pub returns-then-more-marks : goal.returns-then-more-marks
returns-then-more-marks c = marking_full c.loop-row.invariant c.row_counts-counts.result _ (λ e. rw e) (λ e. rw e) c.if-more-marks.true (omega arith) c.loop-row-test.true

pub returns : goal.returns
returns c = let in_use = c.requires.in_use in marking_end c.loop-row.invariant in_use.0 (omega arith)
