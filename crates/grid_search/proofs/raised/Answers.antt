-- Each coordinate is moved up by the border.
-- Assumes nothing.
use borrow.Author.Rules.{rules}
use Rattle.floats.specs.Rounded.{◌⊕◌}
use Rattle.grid_search.specs.Sheet.{raised}
use Rattle.grid_search.proofs.raised.Goals as goal

pub returns : goal.returns
unfolding raised
returns c = c.widened.ensures (λ x. x ⊕ c.args.border) (λ a b h. search rules)
