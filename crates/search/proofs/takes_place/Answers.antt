-- `takes_place` meets its contract.
-- Assumes nothing.
use mathlib.Core.Path.{◌≡◌, sym, ap, ap₂, subst, ◌∙◌}
use lib.Dec.{T}
use mathlib.Core.Bool.{true}
use lib.Ieee.{Float, lt, le, of_bits}
use Rattle.std.proofs.lemmas.Bool.{false≢true}
use Rattle.search.proofs.Walk.{place-nearer, place-near, told_by_square}
use Rattle.search.proofs.takes_place.Goals.{then-square, else-square}
use Rattle.search.proofs.takes_place.Goals as goal

-- no root is taken
pub returns-then-least-square : goal.returns-then-least-square
returns-then-least-square c = let a = c.args in
    sym (told_by_square a.tol_dist a.least a.square (subst T (sym c.well_formed.1.1.1.0.1) tt) (subst T (sym c.well_formed.1.1.1.1.0.1) tt) a.best c.requires.far c.if-least-square.true)

pub returns-in-Some : goal.returns-in-Some
returns-in-Some c = ap₂ lt c.sqrt.ensures c.sqrt-in-Some.ensures ∙ sym (place-nearer c.args.tol_dist c.args.least c.args.square c.args.best c.in-Some.is)

-- nor here
pub returns-then-square-within : goal.returns-then-square-within
unfolding of_bits
returns-then-square-within c =
    let a = c.args in
    elim c.if-square.branch [
      | then-square w ↦
          let h : le a.square a.within ≡ true = sym w.value-is ∙ c.if-square-within.true in
          c.if-square-within.true ∙ sym (place-near a.tol_dist a.least a.square a.best c.in-None.is ∙ c.requires.near a.square (subst T (sym c.well_formed.1.1.1.1.0.1) tt) w.if-square.true h)
      | else-square w ↦ absurd (false≢true (sym w.if-square.false ∙ sym w.value-is ∙ c.if-square-within.true))
    ]

pub returns-else-square-within : goal.returns-else-square-within
returns-else-square-within c = ap (λ (v : Float). le v c.args.tol_dist) c.sqrt-else-square-within.ensures ∙ sym (place-near c.args.tol_dist c.args.least c.args.square c.args.best c.in-None.is)
