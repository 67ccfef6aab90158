-- `geometry::all_coordinates` meets its contract. Assumes nothing.
use Rattle.std.proofs.Common.{true, ◌&&◌, ◌∙◌, rules, Bool, Float}
use Rattle.std.proofs.lemmas.Iterator.{YieldsList-from_slice}
use Rattle.std.proofs.lemmas.Iterator.Consumers.{fold_from_yields_List}
use Rattle.geometry.specs.Position.{coordinate}
use Rattle.geometry.proofs.Axes.{every_from_left}
use Rattle.geometry.proofs.all_coordinates.Goals as goal

pub returns : goal.returns
returns c = fold_from_yields_List _ (λ (ok : Bool) (v : Float). ok && coordinate v) true c.fold.result c.fold.ensures.ran
    (YieldsList-from_slice c.args.x.now cc) (λ a x b q. search rules) ∙ every_from_left coordinate true c.args.x.now
