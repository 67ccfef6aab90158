-- `walk_rows` meets its contract. Invariant: the walk tells what it tells from row i on, so many rows having been visited, after the slot that `before` holds.
-- Assumes nothing.
use Rattle.std.proofs.Common.{◌≡◌, drop}
use Rattle.table.specs.Library.{table}
use Rattle.table.specs.Lent.{lent}
use Rattle.rows.specs.Check.{walk_from, walk}
use Rattle.rows.specs.Posts.{good_in, slot_before}
use Rattle.rows.proofs.walk_rows.Given as goal

abbrev pub invariant-loop-i : goal.invariant-loop-i
invariant-loop-i g l =
    walk (good_in g.row.N l.count) (table (lent l.library))
    ≡ walk_from (good_in g.row.N l.count) l.i (slot_before l.before.bound l.before.last) (drop l.i (table (lent l.library)))
