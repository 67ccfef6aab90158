-- The four lines stand one after the other; there are as many ids as are listed.
-- Assumes nothing.
use Rattle.display.specs.Display.{summary}
use Rattle.text.proofs.Laws.{puts_both}
use Rattle.display.proofs.Picks.{ids_count}
use Rattle.display.proofs.Contents.put_summary.Goals as goal

pub returns : goal.returns
unfolding summary
returns c =
    puts_both c.put_ids.ensures
    (puts_both (rw (← ids_count c.args.self) at c.put_number.ensures)
    (puts_both (rw c.requires.count at c.put_number-2.ensures) c.put_divisions.ensures))
