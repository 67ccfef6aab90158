-- `cell_index::are_rows_good` meets its contract. Invariant: the flag says it of the rows passed. Assumes nothing.
use Rattle.std.proofs.Common.{◌≡◌, ◌&&◌, length, drop}
use Rattle.table.specs.Rows.{before, slots_of}
use Rattle.cell_index.specs.Index.{good_rows}
use Rattle.cell_index.proofs.Linked.{good_slot, linked}
use Rattle.cell_index.proofs.are_rows_good.Given as goal

abbrev pub invariant-loop-i : goal.invariant-loop-i
invariant-loop-i l =
    good_rows l.count l.ncell (slots_of l.keys l.cells (length l.keys)) ≡ (l.ok && linked (good_slot l.count l.ncell) before (drop l.i (slots_of l.keys l.cells (length l.keys))))
