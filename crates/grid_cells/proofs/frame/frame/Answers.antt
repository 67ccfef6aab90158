-- `grid_cells::frame::frame` meets its contract. Assumes nothing.
use Rattle.std.proofs.Common.{refl, sym, ◌∙◌}
use lib.Ieee.{of_bits}
use Rattle.basics.proofs.Answers.{raised_answer}
use Rattle.geometry.specs.Position.{coords}
use Rattle.grid.specs.Divisions.{counts}
use Rattle.grid_cells.proofs.Frames.{frame_divided, frame_nothing, frame_refused, frame_made}
use Rattle.grid_cells.proofs.frame.frame.Goals as goal

pub returns-then-is_nothing_filed : goal.returns-then-is_nothing_filed
returns-then-is_nothing_filed c = frame_nothing c.requires c.args.mesh.ndim.two_or_three c.cell_count.ensures _ c.is_nothing_filed.ensures c.if-is_nothing_filed.true

pub returns-in_err-divisions_fault : goal.returns-in_err-divisions_fault
unfolding of_bits
returns-in_err-divisions_fault c =
    raised_answer _ c.in_err-divisions_fault.field-0.0 c.from_residual.result c.from_residual.ensures
    ∙ frame_refused c.requires c.args.mesh.ndim.two_or_three c.cell_count.ensures c.lowered-xmin.ensures c.raised-high.ensures refl
    c.divide-ndiv.ensures c.is_nothing_filed.ensures c.if-is_nothing_filed.false
    _ c.in_err-divisions_fault.ensures

pub covered-xmax-requires : goal.covered-xmax-requires
covered-xmax-requires c =
    let n = c.args.mesh.ndim.n in
    record { divisions = frame_divided (coords n c.lowered-xmin.result) (coords n c.raised-high.result) (counts n c.divide-ndiv.result) (sym c.in_ok-divisions_fault.ensures) }

pub returns : goal.returns
unfolding of_bits
returns c =
    frame_made c.requires c.args.mesh.ndim.two_or_three c.cell_count.ensures c.lowered-xmin.ensures c.raised-high.ensures refl
    c.divide-ndiv.ensures c.is_nothing_filed.ensures c.if-is_nothing_filed.false
    c.covered-xmax.ensures c.large_count.ensures c.in_ok-divisions_fault.ensures
