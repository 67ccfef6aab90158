-- `capi::cells::build` meets its contract. Assumes nothing.
-- A law for each way out.
use Rattle.std.proofs.Common.{refl, sym, ap, ◌∙◌, length}
use Rattle.mesh.specs.Mesh.{seen}
use Rattle.grid_cells.specs.Build.{settings_of, index_lists}
use Rattle.capi.proofs.Builds.{raised_number, lengths_of, told-first, told-build}
use Rattle.capi.proofs.cells.build.Goals as goal

pub returns-in_err-lists_fault : goal.returns-in_err-lists_fault
returns-in_err-lists_fault c =
    let a = c.args in
    let t = settings_of a.tolerance a.border_tol a.large_cutoff a.large_pct in
    rw (raised_number c.in_err-lists_fault.field-0.0 c.from_residual.result c.from_residual.ensures)
    (told-first a.mesh.ndim (seen a.mesh) t (index_lists a.keys.now a.cells.now a.large.now) a.numbers.now a.floats.now c.in_err-lists_fault.ensures)

pub returns-in_err-grid : goal.returns-in_err-grid
returns-in_err-grid c =
    let a = c.args in
    let t = settings_of a.tolerance a.border_tol a.large_cutoff a.large_pct in
    rw (raised_number c.in_err-grid.field-0.0 c.from_residual-in_err-grid.result c.from_residual-in_err-grid.ensures)
    (told-build a.mesh.ndim (seen a.mesh) t (index_lists a.keys.now a.cells.now a.large.now) a.numbers.now a.floats.now (sym c.in_ok-lists_fault.ensures) c.in_err-grid.ensures refl refl)

pub copy_from_slice-requires : goal.copy_from_slice-requires
copy_from_slice-requires c =
    let a = c.args in
    let t = settings_of a.tolerance a.border_tol a.large_cutoff a.large_pct in
    (lengths_of a.mesh.ndim (seen a.mesh) t (index_lists a.keys.now a.cells.now a.large.now) a.numbers.now a.floats.now (sym c.in_ok-lists_fault.ensures)).0 ∙ sym (ap length c.numbers_of.ensures)

pub copy_from_slice-requires-2 : goal.copy_from_slice-requires-2
copy_from_slice-requires-2 c =
    let a = c.args in
    let t = settings_of a.tolerance a.border_tol a.large_cutoff a.large_pct in
    (lengths_of a.mesh.ndim (seen a.mesh) t (index_lists a.keys.now a.cells.now a.large.now) a.numbers.now a.floats.now (sym c.in_ok-lists_fault.ensures)).1 ∙ sym (ap length c.floats_of.ensures)

pub returns : goal.returns
returns c =
    let a = c.args in
    let t = settings_of a.tolerance a.border_tol a.large_cutoff a.large_pct in
    told-build a.mesh.ndim (seen a.mesh) t (index_lists a.keys.now a.cells.now a.large.now) a.numbers.now a.floats.now (sym c.in_ok-lists_fault.ensures) c.in_ok-grid.ensures
    (c.copy_from_slice.ensures.after ∙ c.numbers_of.ensures) (c.copy_from_slice-2.ensures.after ∙ c.floats_of.ensures)
