-- `geometry::is_inside` meets its contract. Assumes nothing.
use Rattle.std.proofs.Common.{sym, ap, ◌∙◌, not, Float, rules, tests}
use Rattle.std.proofs.lemmas.Iterator.{YieldsList-from_slice}
use Rattle.std.proofs.lemmas.Iterator.Search.{any_from_yields_List}
use lib.Ieee.{lt, of_bits}
use Rattle.floats.specs.Rounded.{zero_f}
use Rattle.geometry.specs.Cells.{inside}
use Rattle.basics.proofs.Lists.{any-list}
use Rattle.geometry.proofs.is_inside.Goals as goal

pub returns : goal.returns
unfolding inside of_bits
returns g c =
    let below = λ (z : Float). lt z zero_f in
    ap not (any_from_yields_List below _ _ c.any.result c.any.ensures.ran (YieldsList-from_slice c.args.zeta cc) (λ x b q k. search (rules, tests)) ∙ sym (any-list below c.args.zeta))
