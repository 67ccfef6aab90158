-- `capi::cells::lists_fault` meets its contract. Assumes nothing.
use Rattle.std.proofs.Common.{sym, ◌∙◌}
use Rattle.basics.proofs.Answers.{raised_fault}
use Rattle.mesh.specs.Mesh.{seen}
use Rattle.grid_cells.specs.Lent.{lent}
use Rattle.capi.proofs.Builds.{lists_sizes, lists_13, lists-none}
use Rattle.capi.proofs.cells.lists_fault.Goals as goal

pub returns-in_err-sizes_fault : goal.returns-in_err-sizes_fault
returns-in_err-sizes_fault c =
    let a = c.args in
    raised_fault c.in_err-sizes_fault.field-0.0 c.from_residual.result c.from_residual.ensures
    ∙ lists_sizes a.mesh.ndim (seen a.mesh) (lent a.lists) a.numbers.now a.floats.now c.in_err-sizes_fault.ensures.judged

pub returns-then-not-have_lengths : goal.returns-then-not-have_lengths
returns-then-not-have_lengths c =
    let a = c.args in
    lists_13 a.mesh.ndim (seen a.mesh) (lent a.lists) a.numbers.now a.floats.now (sym c.in_ok-sizes_fault.ensures.judged) (sym c.have_lengths.ensures ∙ c.if-not-have_lengths.true)

pub returns : goal.returns
returns c =
    let a = c.args in
    lists-none a.mesh.ndim (seen a.mesh) (lent a.lists) a.numbers.now a.floats.now (sym c.in_ok-sizes_fault.ensures.judged) (sym c.have_lengths.ensures ∙ c.if-not-have_lengths.false)
