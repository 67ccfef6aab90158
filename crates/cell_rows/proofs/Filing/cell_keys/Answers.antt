-- `cell_rows::Filing::cell_keys` meets its contract. Assumes nothing.
use Rattle.std.proofs.Common.{◌≡◌, sym, ◌∙◌}
use Rattle.mesh.specs.Mesh.{seen, box_of, boxed}
use Rattle.cell_sizes.specs.Steps.{files}
use Rattle.cell_rows.proofs.Tallies.{cell_filed, cell_none}
use Rattle.cell_rows.proofs.Filing.cell_keys.Goals as goal

pub returns-then-is_filed : goal.returns-then-is_filed
returns-then-is_filed c =
    let g = c.args.self.grid in
    let p = files c.args.self.sizes in
    let b : boxed g.ndim c.bounding_box-b.result ≡ box_of g.ndim (seen c.args.self.mesh.mesh) c.args.cell = rw c.args.self.axes at c.bounding_box-b.ensures in
    let t = sym c.is_filed.ensures ∙ c.if-is_filed.true in
    rw (← b) (cell_filed g p (boxed g.ndim c.bounding_box-b.result) t c.corner_keys.ensures)

pub returns : goal.returns
returns c =
    let g = c.args.self.grid in
    let p = files c.args.self.sizes in
    let b : boxed g.ndim c.bounding_box-b.result ≡ box_of g.ndim (seen c.args.self.mesh.mesh) c.args.cell = rw c.args.self.axes at c.bounding_box-b.ensures in
    let t = sym c.is_filed.ensures ∙ c.if-is_filed.false in
    rw (c.new.ensures, ← b) (cell_none g p (boxed g.ndim c.bounding_box-b.result) t)
