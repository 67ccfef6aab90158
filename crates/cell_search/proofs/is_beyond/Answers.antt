-- `cell_search::is_beyond` meets its contract. Assumes nothing.
use lib.Ieee.{Float, lt}
use mathlib.Core.Path.{sym, ap₂, ◌∙◌}
use Rattle.cell_search.proofs.is_beyond.Goals as goal

pub returns-then-xi-axis : goal.returns-then-xi-axis
returns-then-xi-axis c = rw (sym (ap₂ (λ (a b : Float). lt a b) c.axis-xi.ensures c.axis.ensures) ∙ c.if-xi-axis.true) c.if-xi-axis.true

pub returns-else-xi-axis : goal.returns-else-xi-axis
returns-else-xi-axis c = rw (sym (ap₂ (λ (a b : Float). lt a b) c.axis-xi.ensures c.axis.ensures) ∙ c.if-xi-axis.false) (ap₂ (λ (a b : Float). lt a b) c.axis-else-xi-axis.ensures c.axis-xi.ensures)
