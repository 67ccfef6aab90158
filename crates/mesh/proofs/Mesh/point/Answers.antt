-- `mesh::Mesh::point` meets its contract. Assumes nothing.
use Rattle.std.proofs.Common.{ℕ, ◌*◌, ap, ◌∙◌, take, drop}
use native.Mathlib.Nat.{add-sub_cancel_left}
use Rattle.mesh.proofs.Whole.{point_part}
use Rattle.mesh.specs.Mesh.{point_at}
use Rattle.geometry.specs.Position.{position_of}
use Rattle.mesh.proofs.Mesh.point.Goals as goal

pub returns : goal.returns
unfolding point_at
returns c =
    let n = c.args.ndim.n in
    let points = c.args.self.coords.now in
    let at = c.args.p * n in
    c.new.ensures ∙ ap position_of (ap (λ (k : ℕ). take k (drop at points)) (add-sub_cancel_left at n) ∙ point_part n points at c.requires)
