-- `find_from` meets its contract. Invariant: `Looking`.
-- Assumes nothing.
use Rattle.geometry.specs.Position.{coords}
use Rattle.table.specs.Lent.{lent}
use Rattle.search.proofs.Walk.{Looking}
use Rattle.search.proofs.find_from.Given as goal

abbrev pub invariant-loop-i : goal.invariant-loop-i
invariant-loop-i l = Looking l.sheet (lent l.library) l.key (coords l.sheet.ndim l.x) l.i l.best l.least
