-- `cell_index::is_sound` meets its contract. Assumes nothing.
use Rattle.std.proofs.Common.{sym, ◌∙◌}
use lib.Seq.{length-take-le}
use Rattle.cell_index.specs.Index.{cell_rows, large_cells, sound_index}
use Rattle.cell_index.proofs.Linked.{rows-used}
use Rattle.cell_index.proofs.Sound.{good-divisions, entries}
use Rattle.grid_cells.specs.Lent.{lent}
use Rattle.cell_index.proofs.is_sound.Goals as goal

pub container_count-count-requires : goal.container_count-count-requires
container_count-count-requires c = record { divisions = good-divisions c.args.grid (sym c.is_good.ensures ∙ c.if-not-is_good.false) }

pub returns : goal.returns
unfolding sound_index cell_rows large_cells
returns c =
    let g = c.args.grid in
    let keys = c.args.lists.keys.now in
    let cells = c.args.lists.cells.now in
    let good = sym c.is_good.ensures ∙ c.if-not-is_good.false in
    let enough = sym c.are_enough.ensures ∙ c.if-not-are_enough.false in
    let long = length-take-le g.used keys (entries g (lent c.args.lists) enough).in_keys in
    let rows = rw (long, rows-used keys cells g.used) at c.are_rows_good.ensures in
    rw (good, enough, ← c.container_count-count.ensures, ← rows, ← c.are_large_good.ensures)
