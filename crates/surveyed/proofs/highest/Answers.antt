-- The choice is that of `floats`.
-- Assumes nothing.
use borrow.Author.Rules.{rules}
use Rattle.floats.specs.Tests.{max_of}
use Rattle.surveyed.specs.Surveyed.{highest_of}
use Rattle.surveyed.proofs.highest.Goals as goal

pub returns : goal.returns
unfolding highest_of
returns c = c.extreme.ensures max_of (λ a b z h. search rules)
