-- `mesh::Mesh::is_broken` meets its contract. Assumes nothing.
use Rattle.std.proofs.Common.{ℕ, not, ap, sym, ◌∙◌, ltb, eq-eqb, rules, tests}
use Rattle.std.proofs.lemmas.Iterator.{YieldsList-from_slice}
use Rattle.std.proofs.lemmas.Iterator.Search.{all_from_yields_List}
use Rattle.basics.proofs.Lists.{all_listed}
use Rattle.mesh.specs.Mesh.{broken_mesh}
use Rattle.mesh.proofs.Mesh.is_broken.Goals as goal

pub returns : goal.returns
unfolding broken_mesh
returns c =
    let corners = c.args.self.corners.now in
    let below = λ (p : ℕ). ltb p c.point_count-count.result in
    let each = all_from_yields_List below _ _ c.all.result c.all.ensures.ran (YieldsList-from_slice corners cc) (λ x b q k. search (rules, tests)) in
    rw (eq-eqb _ _ c.if-self-ndim-ne0.false, eq-eqb _ _ c.if-self-ndim-ne0-2.false, ← c.point_count-count.ensures) (ap not (each ∙ sym (all_listed below corners)))
