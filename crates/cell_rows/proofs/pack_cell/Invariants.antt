-- `cell_rows::pack_cell` meets its contract. Assumes nothing.
use Rattle.std.proofs.Common.{◌≡◌, map, take}
use Rattle.basics.specs.Lists.{over}
use Rattle.cell_rows.specs.Steps.{pack}
use Rattle.cell_rows.proofs.pack_cell.Given as goal

abbrev pub invariant-loop-i : goal.invariant-loop-i
invariant-loop-i l = l.rows ≡ over (take l.i (map (pack l.cell) l.keys)) l.initial.rows
