-- `windows::square_above` meets its contract. Assumes nothing.
use Rattle.std.proofs.Common.{◌≡◌, not, rules, tests}
use lib.Ieee.{le}
use Rattle.windows.specs.Window.{distance_at}
use Rattle.windows.proofs.Tellings.{above_tells}
use Rattle.windows.proofs.square_above.Goals as goal

pub returns : goal.returns
returns c =
    let w = c.square_beside.ensures in
    let k = w.2 in
    let e : w.1 ≡ not (le (distance_at c.args.radius w.0) c.args.to) = search (rules, tests) in
    above_tells c.args.radius c.args.to w.0 w.1 c.square_beside.result e w.3
