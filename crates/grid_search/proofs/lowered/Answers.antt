-- Each coordinate is moved down by the border.
-- Assumes nothing.
use borrow.Author.Rules.{rules}
use Rattle.floats.specs.Rounded.{◌⊖◌}
use Rattle.grid_search.specs.Sheet.{lowered}
use Rattle.grid_search.proofs.lowered.Goals as goal

pub returns : goal.returns
unfolding lowered
returns c = c.widened.ensures (λ x. x ⊖ c.args.border) (λ a b h. search rules)
