-- `listing::near::keeps` meets its contract. Assumes nothing.
use mathlib.Core.Bool.{false}
use mathlib.Core.Path.{◌≡◌}
use lib.Dec.{leb}
use borrow.Author.Tests.{leb-false}
use Rattle.geometry.proofs.Axes.{axis_entry}
use Rattle.listing.specs.Place.{passes, unfit_filter}
use Rattle.listing.proofs.near.keeps.Goals as goal

pub returns-in-Range : goal.returns-in-Range
unfolding passes unfit_filter
returns-in-Range c =
    let fit : leb c.args.ndim.n c.in-Range.axis ≡ false = rw c.in-Range.is at c.requires in
    rw (c.in-Range.is, axis_entry _ _ c.args.x c.args.ndim.two_or_three (leb-false _ _ fit), c.axis-v.ensures)
