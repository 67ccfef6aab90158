-- `grid_cells::GridCells::filed` meets its contract. Assumes nothing.
use Rattle.std.proofs.Common.{ℕ, ◌≤◌, length, sym, ap, ◌∙◌, arith}
use Rattle.basics.specs.Refusals.{Answer}
use Rattle.basics.specs.declared.Refusal.TheVariants as refusal
use Rattle.basics.proofs.Answers.{raised_answer}
use Rattle.mesh.specs.Mesh.{Mesh, seen}
use Rattle.cell_sizes.proofs.Boxes.{length-boxes}
use Rattle.cell_sizes.specs.declared.Sizes.{Sizes}
use Rattle.cell_sizes.specs.Large.{boxes}
use Rattle.cell_sizes.specs.Steps.{kept, limit_in}
use Rattle.grid_cells.specs.declared.GridCells.{GridCells}
use Rattle.grid_cells.specs.Build.{IndexLists}
use Rattle.grid_cells.specs.Lent.{lent_mut}
use Rattle.grid_cells.specs.Steps.{Finishable}
use Rattle.grid_cells.proofs.Builds.{finish_far, finish-full, finish-fits, finish-made}
use Rattle.grid_cells.proofs.Ways.{none_by, some_by}
use Rattle.grid_cells.proofs.GridCells.filed.Goals as goal

few : (g : GridCells) (s : Sizes) (n : ℕ) (m : Mesh) (l : IndexLists) → Finishable g s n m l → length (boxes g.ndim m) ≤ 65536
few g s n m l f = omega (arith, f.few, length-boxes g.ndim m)

pub returns-in_err-used-clause-files : goal.returns-in_err-used-clause-files
returns-in_err-used-clause-files c =
    let g = c.args.self in
    let a = c.args.sizes.apart in
    let m = seen c.args.mesh.mesh in
    let l = lent_mut c.args.lists.now in
    let none = none_by c.count_rows.result refusal.Ratio c.in_err-used.field-0.0 c.in_err-used.ensures.value in
    let far = sym none.0 ∙ rw c.containers.ensures at c.count_rows.ensures in
    ap (λ (x : Answer GridCells). record { answer = x; lists = l }) (raised_answer _ c.in_err-used.field-0.0 c.from_residual.result c.from_residual.ensures)
    ∙ rw none.1 (finish_far g (kept a) (limit_in a) (boxes g.ndim m) l (few g c.args.sizes c.args.mesh.ndim.n m l c.requires) far)

pub returns-then-used-lists-clause-files : goal.returns-then-used-lists-clause-files
returns-then-used-lists-clause-files c =
    let g = c.args.self in
    let a = c.args.sizes.apart in
    let m = seen c.args.mesh.mesh in
    let l = lent_mut c.args.lists.now in
    let counted = sym (some_by c.count_rows.result refusal.Ratio c.in_ok-used.used c.in_ok-used.ensures.value) ∙ rw c.containers.ensures at c.count_rows.ensures in
    finish-full g (kept a) (limit_in a) (boxes g.ndim m) l (few g c.args.sizes c.args.mesh.ndim.n m l c.requires) counted c.requires.large c.if-used-lists.true

pub file_cells-requires-clause-fitting : goal.file_cells-requires-clause-fitting
file_cells-requires-clause-fitting c =
    let g = c.args.self in
    let a = c.args.sizes.apart in
    let m = seen c.args.mesh.mesh in
    let l = lent_mut c.args.lists.now in
    let counted = sym (some_by c.count_rows.result refusal.Ratio c.in_ok-used.used c.in_ok-used.ensures.value) ∙ rw c.containers.ensures at c.count_rows.ensures in
    rw c.containers.ensures (finish-fits g (kept a) (limit_in a) (boxes g.ndim m) l (few g c.args.sizes c.args.mesh.ndim.n m l c.requires) counted c.requires.large c.if-used-lists.false)

pub returns-clause-files : goal.returns-clause-files
returns-clause-files c =
    let g = c.args.self in
    let a = c.args.sizes.apart in
    let m = seen c.args.mesh.mesh in
    let l = lent_mut c.args.lists.now in
    let counted = sym (some_by c.count_rows.result refusal.Ratio c.in_ok-used.used c.in_ok-used.ensures.value) ∙ rw c.containers.ensures at c.count_rows.ensures in
    let filed = rw c.containers.ensures at c.file_cells.ensures in
    let large = rw c.requires.axes at c.write_large.ensures in
    finish-made g (kept a) (limit_in a) (boxes g.ndim m) l (few g c.args.sizes c.args.mesh.ndim.n m l c.requires) counted c.requires.large c.if-used-lists.false filed large
