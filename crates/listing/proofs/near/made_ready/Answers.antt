-- `listing::near::made_ready` meets its contract. Assumes nothing.
use mathlib.Core.Path.{refl}
use mathlib.Core.Logic.{inl, inr}
use lib.Ieee.{of_bits, nan_bits}
use Rattle.listing.proofs.near.made_ready.Goals as goal

pub float_from_bits-window_of : goal.float_from_bits-window_of
unfolding nan_bits
float_from_bits-window_of c = tt

pub window_of-requires : goal.window_of-requires
unfolding of_bits
window_of-requires c = inl refl

pub window_of-requires-2 : goal.window_of-requires-2
window_of-requires-2 c = inr refl

pub returns : goal.returns
unfolding of_bits
returns c =
    record {
      made = record {
        line = c.line_of.ensures;
        for_center = c.window_of.ensures.tells;
        for_point = c.window_of-2.ensures.tells;
        center_from = c.window_of.ensures.from;
        center_to = c.window_of.ensures.to;
        point_from = c.window_of-2.ensures.from;
        point_to = c.window_of-2.ensures.to;
      };
      place = refl;
    }
