use Rattle.decimals.proofs.Parts.{rest_after, rest_none, coordinate-bad, coordinate-within, coordinate-good}
use Rattle.decimals.proofs.read_coordinate.Goals as goal

pub returns-in_err-n-in-Some : goal.returns-in_err-n-in-Some
returns-in_err-n-in-Some c = rw c.from_residual.ensures (coordinate-bad (rest_after c.in-Some.ensures.cases) c.in_err-n-in-Some.ensures)

pub signed-requires : goal.signed-requires
signed-requires c = coordinate-within {field = c.args.field.now} (rest_after c.in-Some.ensures.cases) c.in_ok-n-in-Some.ensures

pub returns-in_err-n-in-None : goal.returns-in_err-n-in-None
returns-in_err-n-in-None c = rw c.from_residual-in_err-n-in-None.ensures (coordinate-bad (rest_none c.in-None.ensures.cases) c.in_err-n-in-None.ensures)

pub signed-requires-in-None : goal.signed-requires-in-None
signed-requires-in-None c = coordinate-within {field = c.args.field.now} (rest_none c.in-None.ensures.cases) c.in_ok-n-in-None.ensures

pub returns-in_ok-n-in-Some : goal.returns-in_ok-n-in-Some
returns-in_ok-n-in-Some c = coordinate-good (rest_after c.in-Some.ensures.cases) c.in_ok-n-in-Some.ensures c.signed.result c.signed.ensures

pub returns-in_ok-n-in-None : goal.returns-in_ok-n-in-None
returns-in_ok-n-in-None c = coordinate-good (rest_none c.in-None.ensures.cases) c.in_ok-n-in-None.ensures c.signed-in-None.result c.signed-in-None.ensures
