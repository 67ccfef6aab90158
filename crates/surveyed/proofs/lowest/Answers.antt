-- The choice is that of `floats`.
-- Assumes nothing.
use borrow.Author.Rules.{rules}
use Rattle.floats.specs.Tests.{min_of}
use Rattle.surveyed.specs.Surveyed.{lowest_of}
use Rattle.surveyed.proofs.lowest.Goals as goal

pub returns : goal.returns
unfolding lowest_of
returns c = c.extreme.ensures min_of (λ a b z h. search rules)
