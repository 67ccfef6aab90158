use Rattle.std.proofs.Common.{rules}
use Rattle.listing.specs.Place.{asked}
use Rattle.listing.proofs.Places.{center_near}
use Rattle.listing.proofs.near.container_near.Goals as goal

pub returns : goal.returns
returns c =
    let s = c.args.sheet in
    center_near s (asked s.ndim c.args.r.place) c.args.key.0 c.lies_at.ensures.0 c.args.r.center (search rules) c.requires.made.center_from c.requires.made.center_to c.lies_at.ensures.1.1
