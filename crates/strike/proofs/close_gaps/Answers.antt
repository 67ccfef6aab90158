-- `close_gaps` meets its contract.
-- Assumes nothing.
use Rattle.std.proofs.Common.{◌+◌, refl, ap, ◌∙◌}
use Rattle.table.specs.Library.{Library, row_at}
use Rattle.strike.proofs.Removal.{closing_start, closing-next, closing_end}
use Rattle.strike.proofs.close_gaps.Goals as goal

pub loop-i-init : goal.loop-i-init
loop-i-init c = record { closing = closing_start _ c.requires; same_lists = (refl, refl, refl, refl, refl) }

pub loop-i-preserved : goal.loop-i-preserved
loop-i-preserved c =
    let i = c.loop-i.i in
    record {
      closing = closing-next c.loop-i.invariant.closing c.loop-i-test.true c.requires.room
          (c.row-row.ensures ∙ ap (λ (l : Library). row_at l i) c.as_library.ensures) c.write_row.ensures.writes
          (ap (λ n. c.loop-i.at + n) c.from-at.ensures);
      same_lists = (cc, cc, cc, cc, cc);
    }

pub returns-clause-closes : goal.returns-clause-closes
returns-clause-closes c = closing_end c.loop-i.invariant.closing c.loop-i-test.false
