-- `grid_cells::frame::divisions_fault` meets its contract. Assumes nothing.
use Rattle.std.proofs.Common.{ℕ, ◌≡◌, Bool, eqb, ltb, [], ◌∷◌, sym, ◌∙◌}
use Rattle.basics.specs.Lists.{any}
use Rattle.basics.specs.Refusals.{fault}
use Rattle.geometry.proofs.Axes.{any_tests}
use Rattle.grid.specs.declared.Divisions.{Divisions}
use Rattle.grid.specs.Divisions.{counts}
use Rattle.geometry.specs.Position.{some_axis}
use Rattle.grid_cells.specs.Build.{division_tests}
use Rattle.grid_cells.proofs.frame.divisions_fault.Goals as goal

-- what a test along each axis says of the divisions in use
along : (p : ℕ → Bool) (n : ℕ) (d : Divisions) {b : Bool} → b ≡ some_axis n (p d.x) (p d.y) (p d.z) → any p (counts n d) ≡ b
along p n d e = any_tests p n (d.x ∷ d.y ∷ d.z ∷ []) ∙ sym e

pub returns-then-not-is_above : goal.returns-then-not-is_above
unfolding fault division_tests
returns-then-not-is_above c = rw (sym c.is_above.ensures ∙ c.if-not-is_above.true)

pub returns-then-on_some_axis : goal.returns-then-on_some_axis
unfolding fault division_tests
returns-then-on_some_axis c =
    let d = c.args.ndiv in
    rw (sym c.is_above.ensures ∙ c.if-not-is_above.false, along (λ (d : ℕ). eqb d 0) c.args.ndim.n d c.on_some_axis.ensures ∙ c.if-on_some_axis.true)

pub returns-then-on_some_axis-2 : goal.returns-then-on_some_axis-2
unfolding fault division_tests
returns-then-on_some_axis-2 c =
    let d = c.args.ndiv in
    rw (
      sym c.is_above.ensures ∙ c.if-not-is_above.false,
      along (λ (d : ℕ). eqb d 0) c.args.ndim.n d c.on_some_axis.ensures ∙ c.if-on_some_axis.false,
      along (λ (d : ℕ). ltb 1024 d) c.args.ndim.n d c.on_some_axis-2.ensures ∙ c.if-on_some_axis-2.true,
    )

pub returns : goal.returns
unfolding fault division_tests
returns c =
    let d = c.args.ndiv in
    rw (
      sym c.is_above.ensures ∙ c.if-not-is_above.false,
      along (λ (d : ℕ). eqb d 0) c.args.ndim.n d c.on_some_axis.ensures ∙ c.if-on_some_axis.false,
      along (λ (d : ℕ). ltb 1024 d) c.args.ndim.n d c.on_some_axis-2.ensures ∙ c.if-on_some_axis-2.false,
    )
