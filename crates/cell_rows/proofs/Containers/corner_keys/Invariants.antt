-- `cell_rows::Containers::corner_keys` meets its contract. Assumes nothing.
use Rattle.cell_rows.specs.Keys.{held}
use Rattle.cell_rows.proofs.Corners.{Walked}
use Rattle.cell_rows.proofs.Containers.corner_keys.Given as goal

abbrev pub invariant-loop-c : goal.invariant-loop-c
invariant-loop-c l = Walked l.self l.self.ndim l.b l.c (held l.keys)
