-- `grid_search::GridSearch::new` meets its contract. Assumes nothing.
use Rattle.std.proofs.Common.{◌≡◌, ℕ, sym, ap, ◌∙◌, length, ne_eqb, true}
use Rattle.basics.specs.Refusals.{refused}
use Rattle.basics.proofs.Answers.{raised_answer}
use Rattle.geometry.specs.Position.{dimension}
use Rattle.geometry.proofs.Axes.{coords_of}
use Rattle.geometry.proofs.NoAxes.{no_axes-told}
use Rattle.grid_search.proofs.Laws.{refused_1, refused_2}
use Rattle.grid_search.proofs.GridSearch.new.Goals as goal

pub returns-in_err-ndim : goal.returns-in_err-ndim
returns-in_err-ndim c =
    let a = c.args in
    let told = no_axes-told (length a.xmin.now) _ c.in_err-ndim.ensures.0 in
    raised_answer _ c.in_err-ndim.field-0.0 c.from_residual.result c.from_residual.ensures
    ∙ ap refused told.1
    ∙ refused_1 a.xmin.now a.xmax.now a.ndiv a.tolerance a.border_tol told.0

axes : (n m : ℕ) → n ≡ m → dimension n ≡ true → dimension m ≡ true
axes n m e h = rw (← e) h

pub returns-then-xmax-ndim : goal.returns-then-xmax-ndim
returns-then-xmax-ndim c =
    let a = c.args in
    let n = c.in_ok-ndim.ensures.1 in
    refused_2 a.xmin.now a.xmax.now a.ndiv a.tolerance a.border_tol (axes _ _ n c.in_ok-ndim.ndim.two_or_three) (rw (← n) (ne_eqb (length a.xmax.now) c.in_ok-ndim.ndim.n c.if-xmax-ndim.true))

pub returns : goal.returns
returns c =
    let a = c.args in
    let n = c.in_ok-ndim.ndim.n in
    let d = c.in_ok-ndim.ndim.two_or_three in
    let l = coords_of n a.xmin.now c.new-low.result d (sym c.in_ok-ndim.ensures.1) c.new-low.ensures in
    let h = coords_of n a.xmax.now c.new-high.result d c.if-xmax-ndim.false c.new-high.ensures in
    rw (l, h) at c.sheet_from.ensures
