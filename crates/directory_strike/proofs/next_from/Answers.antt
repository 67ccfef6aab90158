-- `next_from` meets its contract: by what is found, or the end.
-- Assumes nothing.
use Rattle.std.proofs.lemmas.List.{take_rest}
use Rattle.directory_strike.proofs.Pass.{quiet-found, quiet-none}
use Rattle.directory_strike.proofs.next_from.Goals as goal

pub returns-in-Some : goal.returns-in-Some
returns-in-Some c = quiet-found c.args.ids.now c.requires.within (rw (take_rest c.args.ids.now c.args.row) at c.in-Some.ensures.0)

pub returns-in-None : goal.returns-in-None
returns-in-None c = quiet-none c.args.ids.now c.requires.within (rw (take_rest c.args.ids.now c.args.row) at c.in-None.ensures)
