use Rattle.std.proofs.Common.{ap}
use Rattle.table.specs.declared.Row.{Row}
use Rattle.listing.proofs.Walks.{row_near}
use Rattle.listing.proofs.walk.Walk.row_counts.Goals as goal

pub returns : goal.returns
returns c = row_near _ _ _ _ c.requires.near _ _ (ap (λ (r : Row). r.at) c.row.ensures) c.point_counts.ensures
