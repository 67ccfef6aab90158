-- `listing::near::center_of` meets its contract. Assumes nothing.
use Rattle.listing.proofs.Places.{centre-coords}
use Rattle.listing.proofs.near.center_of.Goals as goal

pub returns : goal.returns
returns c = centre-coords c.args.sheet c.args.key.0 _ c.requires.divided.axes c.container_center.ensures
