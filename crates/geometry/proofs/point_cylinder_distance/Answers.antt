-- `geometry::point_cylinder_distance` meets its contract. Assumes nothing.
use Rattle.std.proofs.Common.{◌∙◌, ap, sym, Float}
use Rattle.basics.specs.Refusals.{through}
use Rattle.basics.proofs.Answers.{raised_answer}
use Rattle.floats.specs.Rounded.{◌⊖◌}
use Rattle.geometry.proofs.Passed.{cylinder_past}
use Rattle.geometry.proofs.point_cylinder_distance.Goals as goal

pub returns-in_err-axis_distance : goal.returns-in_err-axis_distance
returns-in_err-axis_distance c =
    let s = c.args in
    let judged = rw (c.position_ok.ensures, c.position_ok-2.ensures, c.is_coordinate.ensures, c.position_ok-3.ensures) at c.if-not-position_ok-is_coordinate.false in
    raised_answer _ c.in_err-axis_distance.field-0.0 c.from_residual-in_err-axis_distance.result c.from_residual-in_err-axis_distance.ensures
    ∙ ap (through (λ (d : Float). d ⊖ s.radius)) c.in_err-axis_distance.ensures
    ∙ cylinder_past (record {
      axes = c.in_ok-ndim.ndim.two_or_three;
      length-a = sym c.in_ok-ndim.ensures.1;
      lengths =
          c.if-not-b-ndim.false;
      at-a = c.new-pa.ensures;
      at-b = c.new-pb.ensures;
      at-c =
          c.new-pp.ensures;
    }) c.if-ndim-ne3.false s.radius judged

pub returns : goal.returns
returns c =
    let s = c.args in
    let judged = rw (c.position_ok.ensures, c.position_ok-2.ensures, c.is_coordinate.ensures, c.position_ok-3.ensures) at c.if-not-position_ok-is_coordinate.false in
    ap (through (λ (d : Float). d ⊖ s.radius)) c.in_ok-axis_distance.ensures
    ∙ cylinder_past (record {
      axes = c.in_ok-ndim.ndim.two_or_three;
      length-a = sym c.in_ok-ndim.ensures.1;
      lengths =
          c.if-not-b-ndim.false;
      at-a = c.new-pa.ensures;
      at-b = c.new-pb.ensures;
      at-c =
          c.new-pp.ensures;
    }) c.if-ndim-ne3.false s.radius judged
