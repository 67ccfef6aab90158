-- `listing::near::magnitude` meets its contract. Assumes nothing.
use mathlib.Core.Path.{sym, ap, subst}
use lib.Dec.{T}
use lib.Ieee.{Float, binary64, fits, of_bits, le}
use Rattle.floats.specs.Tests.{within}
use Rattle.floats.proofs.Choices.{abs-below}
use Rattle.listing.proofs.Places.{not-below}
use Rattle.listing.proofs.near.magnitude.Goals as goal

held : (c : goal.Else-x) → T (fits binary64 c.args.x)
held c = subst T (sym c.well_formed.0.1) tt

pub returns-then-x : goal.returns-then-x
unfolding of_bits within
returns-then-x c = λ t. ap (λ (v : Float). le v t) (abs-below c.args.x c.if-x.true)

pub returns-else-x : goal.returns-else-x
unfolding of_bits
returns-else-x c = λ t. not-below c.args.x t (held c) c.if-x.false
