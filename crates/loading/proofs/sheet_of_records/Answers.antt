-- The tests in their order, and then the two corners on the axes of the first record's dimension. Assumes nothing.
use mathlib.Core.Path.{◌≡◌, ap, ◌∙◌, subst}
use mathlib.Core.Bool.{true}
use Prim.Native.Nat.{ℕ}
use Rattle.basics.specs.Refusals.{refused}
use Rattle.basics.proofs.Answers.{raised_answer}
use Rattle.geometry.specs.Position.{dimension}
use Rattle.geometry.proofs.NoAxes.{no_axes-told}
use Rattle.loading.proofs.Sheets.{in_halves, not-two, no_dimension, from_records}
use Rattle.loading.proofs.sheet_of_records.Goals as goal

pub returns-then-bytes-ne64 : goal.returns-then-bytes-ne64
returns-then-bytes-ne64 c = not-two c.args.bytes.now c.if-bytes-ne64.true

pub returns-in_err-ndim : goal.returns-in_err-ndim
returns-in_err-ndim c =
    let told = no_axes-told c.record_of-low.result.id _ c.in_err-ndim.ensures.0 in
    let two = in_halves c.args.bytes.now _ c.if-bytes-ne64.false c.as_chunks.ensures.front in
    raised_answer _ c.in_err-ndim.field-0.0 c.from_residual.result c.from_residual.ensures
    ∙ ap refused told.1
    ∙ no_dimension c.args.bytes.now c.if-bytes-ne64.false c.record_of-low.result c.record_of-high.result
    (c.record_of-low.ensures ∙ two.0) (c.record_of-high.ensures ∙ two.1) told.0

pub returns : goal.returns
returns c =
    let n = c.in_ok-ndim.ensures.1 in
    let made = rw n at c.new.ensures in
    let two = in_halves c.args.bytes.now _ c.if-bytes-ne64.false c.as_chunks.ensures.front in
    made
    ∙ from_records c.args.bytes.now c.if-bytes-ne64.false c.record_of-low.result c.record_of-high.result
    (c.record_of-low.ensures ∙ two.0) (c.record_of-high.ensures ∙ two.1)
    (subst (λ (k : ℕ). dimension k ≡ true) n c.in_ok-ndim.ndim.two_or_three)
