-- `geometry::point_line_distance` meets its contract. Assumes nothing.
use Rattle.std.proofs.Common.{◌∙◌, sym}
use Rattle.geometry.proofs.Passed.{line_past}
use Rattle.geometry.proofs.point_line_distance.Goals as goal

pub returns : goal.returns
returns c =
    let judged = rw (c.position_ok.ensures, c.position_ok-2.ensures, c.position_ok-3.ensures) at c.if-not-position_ok.false in
    c.line_distance.ensures
    ∙ line_past (record {
      axes = c.in_ok-ndim.ndim.two_or_three;
      length-a = sym c.in_ok-ndim.ensures.1;
      lengths =
          c.if-not-b-ndim.false;
      at-a = c.new-pa.ensures;
      at-b = c.new-pb.ensures;
      at-c = c.new-pc.ensures;
    }) judged
