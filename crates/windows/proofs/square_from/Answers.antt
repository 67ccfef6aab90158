-- `windows::square_from` meets its contract. Assumes nothing.
use Rattle.std.proofs.Common.{◌≡◌, rules, tests}
use lib.Ieee.{le}
use Rattle.windows.specs.Window.{distance_at}
use Rattle.windows.proofs.Tellings.{from_tells}
use Rattle.windows.proofs.square_from.Goals as goal

pub returns : goal.returns
returns c =
    let w = c.square_beside.ensures in
    let k = w.2 in
    let e : w.1 ≡ le c.args.from (distance_at c.args.radius w.0) = search (rules, tests) in
    from_tells c.args.radius c.args.from w.0 w.1 c.square_beside.result e w.3
