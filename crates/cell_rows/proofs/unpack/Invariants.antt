-- `cell_rows::unpack` meets its contract. Assumes nothing.
use Rattle.std.proofs.Common.{◌≡◌, map, take}
use Rattle.basics.specs.Lists.{over}
use Rattle.cell_rows.specs.Steps.{packed_key, packed_cell}
use Rattle.cell_rows.proofs.unpack.Given as goal

abbrev pub invariant-loop-i : goal.invariant-loop-i
invariant-loop-i l = record {
  keys : l.keys ≡ over (take l.i (map packed_key l.initial.keys)) l.initial.keys;
  cells : l.cells ≡ over (take l.i (map packed_cell l.initial.keys)) l.initial.cells;
}
