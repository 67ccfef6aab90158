use Rattle.cell_search.proofs.Walk.{axis_fails, axis_passes, axes_end, seek_box, seek_coords, seek_hit, seek_end}
use Rattle.cell_search.proofs.find_cell.Goals as goal

pub outer-preserved-then-is_beyond : goal.outer-preserved-then-is_beyond
outer-preserved-then-is_beyond c =
    let out = axis_fails c.loop-i.invariant c.args.mesh.ndim.two_or_three c.loop-i-test.true c.is_beyond.ensures c.if-is_beyond.true in
    seek_box c.outer.invariant c.outer-test.true c.bounding_box-b.result c.bounding_box-b.ensures out

pub loop-i-preserved : goal.loop-i-preserved
loop-i-preserved c = axis_passes c.loop-i.invariant c.args.mesh.ndim.two_or_three c.loop-i-test.true c.is_beyond.ensures c.if-is_beyond.false

pub returns-then-in_cell : goal.returns-then-in_cell
returns-then-in_cell c =
    let in-box = axes_end c.loop-i.invariant c.args.mesh.ndim.two_or_three c.loop-i-test.false in
    seek_hit c.outer.invariant c.outer-test.true c.bounding_box-b.result c.bounding_box-b.ensures in-box c.cell_coords-zeta.ensures c.in_cell.ensures c.if-in_cell.true

pub outer-preserved : goal.outer-preserved
outer-preserved c =
    let in-box = axes_end c.loop-i.invariant c.args.mesh.ndim.two_or_three c.loop-i-test.false in
    seek_coords c.outer.invariant c.outer-test.true c.bounding_box-b.result c.bounding_box-b.ensures in-box c.cell_coords-zeta.ensures c.in_cell.ensures c.if-in_cell.false

pub returns : goal.returns
returns c = seek_end c.outer.invariant c.outer-test.false
