-- `grid::calc_container_key` meets its contract. Assumes nothing.
use Rattle.std.proofs.Common.{ℕ, ◌≤◌, ◌≡◌, sym, ◌∙◌, true, cond, arith, le-ltb, eq-eqb, ne_eqb, Some}
use lib.Dec.{eqb}
use Rattle.basics.specs.Lists.{all, zip_with}
use Rattle.geometry.specs.Position.{dimension}
use Rattle.grid.specs.declared.Divisions.{Divisions}
use Rattle.grid.specs.Divisions.{counts, divisions_of, division}
use Rattle.floats.specs.Rounded.{◌⊖◌, ◌⊘◌, truncate}
use Rattle.grid.specs.Containers.{exceed, along, inner}
use Rattle.grid.proofs.Bounds.{Bounds, bounds}
use Rattle.grid.proofs.InUse.{divided, located-is}
use Rattle.grid.proofs.Flat.{along_far, along-index}
use Rattle.grid.proofs.calc_container_key.Goals.{then-ndim-eq3+in_ok-k, else-ndim-eq3}
use Rattle.grid.proofs.calc_container_key.Goals as goal

-- the divisions in use
sizes : (n : ℕ) → dimension n ≡ true → (d e : Divisions) → e ≡ divisions_of (counts n d) → all division (counts n d) ≡ true → Bounds e
sizes n h d e u k = bounds e (divided n h d e u k)

-- the ratio along the third axis: 0 where it is not in use
abbrev third : ℕ → ℕ → ℕ
third n r = cond (eqb n 3) r 0

-- and its index is 0 then
first : (n : ℕ) → 1 ≤ n → along n 0 ≡ Some 0
unfolding along inner
first n h = rw (le-ltb n 0 (omega arith), ne_eqb 0 n (λ e. omega arith))

pub index_along-requires : goal.index_along-requires
index_along-requires c = (sizes c.args.ndim.n c.args.ndim.two_or_three c.args.ndiv c.in_use-n.result c.in_use-n.ensures c.requires.divisions).x.least

pub index_along-requires-2 : goal.index_along-requires-2
index_along-requires-2 c = (sizes c.args.ndim.n c.args.ndim.two_or_three c.args.ndiv c.in_use-n.result c.in_use-n.ensures c.requires.divisions).y.least

pub index_along-requires-then-ndim-eq3 : goal.index_along-requires-then-ndim-eq3
index_along-requires-then-ndim-eq3 c = (sizes c.args.ndim.n c.args.ndim.two_or_three c.args.ndiv c.in_use-n.result c.in_use-n.ensures c.requires.divisions).z.least

pub returns-in_err-i : goal.returns-in_err-i
unfolding exceed
returns-in_err-i c =
    c.from_residual.ensures
    ∙ sym (located-is c.args.ndim.n c.args.ndim.two_or_three c.args.ndiv c.in_use-n.result c.in_use-n.ensures c.args.side_length c.args.xmin c.args.x
    ∙ rw (along_far _ _ (sym c.index_along.ensures.value ∙ c.in_err-i.was)))

pub returns-in_err-j : goal.returns-in_err-j
unfolding exceed
returns-in_err-j c =
    let i = along-index _ _ _ (sym c.index_along.ensures.value ∙ c.in_ok-i.was) in
    c.from_residual-in_err-j.ensures
    ∙ sym (located-is c.args.ndim.n c.args.ndim.two_or_three c.args.ndiv c.in_use-n.result c.in_use-n.ensures c.args.side_length c.args.xmin c.args.x
    ∙ rw (i.0, along_far _ _ (sym c.index_along-2.ensures.value ∙ c.in_err-j.was)))

pub returns-in_err-k : goal.returns-in_err-k
unfolding exceed
returns-in_err-k c =
    let i = along-index _ _ _ (sym c.index_along.ensures.value ∙ c.in_ok-i.was) in
    let j = along-index _ _ _ (sym c.index_along-2.ensures.value ∙ c.in_ok-j.was) in
    c.from_residual-in_err-k.ensures
    ∙ sym (located-is c.args.ndim.n c.args.ndim.two_or_three c.args.ndiv c.in_use-n.result c.in_use-n.ensures c.args.side_length c.args.xmin c.args.x
    ∙ rw (i.0, j.0, eq-eqb _ _ c.if-ndim-eq3.true, along_far _ _ (sym c.index_along-then-ndim-eq3.ensures.value ∙ c.in_err-k.was)))

pub combined-requires-clause-divisions : goal.combined-requires-clause-divisions
combined-requires-clause-divisions c = divided c.args.ndim.n c.args.ndim.two_or_three c.args.ndiv c.in_use-n.result c.in_use-n.ensures c.requires.divisions

pub returns : goal.returns
unfolding exceed zip_with
returns c =
    let i = along-index _ _ _ (sym c.index_along.ensures.value ∙ c.in_ok-i.was) in
    let j = along-index _ _ _ (sym c.index_along-2.ensures.value ∙ c.in_ok-j.was) in
    let d = c.in_use-n.result in
    let k : along d.z (third c.args.ndim.n (truncate ((c.args.x.z ⊖ c.args.xmin.z) ⊘ c.args.side_length))) ≡ Some c.if-ndim-eq3.k = elim c.if-ndim-eq3.branch [
      | then-ndim-eq3+in_ok-k w ↦ rw (eq-eqb _ _ w.if-ndim-eq3.true, w.k-is) (sym w.index_along-then-ndim-eq3.ensures.value ∙ w.in_ok-k.was)
      | else-ndim-eq3 w ↦ rw (ne_eqb _ _ w.if-ndim-eq3.false, w.k-is) (first d.z (sizes c.args.ndim.n c.args.ndim.two_or_three c.args.ndiv d c.in_use-n.ensures c.requires.divisions).z.least)
    ] in
    let l = along-index _ _ _ k in
    sym (located-is c.args.ndim.n c.args.ndim.two_or_three c.args.ndiv d c.in_use-n.ensures c.args.side_length c.args.xmin c.args.x
    ∙ rw (i.0, j.0, l.0, i.1, j.1, l.1, c.combined.ensures))
