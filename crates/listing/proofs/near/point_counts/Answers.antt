use Rattle.std.proofs.Common.{Bool, ◌&&◌, ◌≡◌, Float, ap, ap₂, ◌∙◌, rules}
use lib.Ieee.{neg}
use Rattle.geometry.specs.declared.Position.{Position}
use Rattle.geometry.specs.Position.{coords}
use Rattle.listing.specs.Place.{asked, place_distance, point_near}
use Rattle.windows.specs.Window.{lies}
use Rattle.windows.proofs.Tellings.{both-sides}
use Rattle.listing.proofs.near.point_counts.Goals as goal

pub returns : goal.returns
unfolding point_near
returns c =
    let d = place_distance (asked c.args.sheet.ndim c.args.r.place) (coords c.args.sheet.ndim c.args.x) in
    let same : c.lies_at.ensures.0 ≡ c.args.x = search rules in
    let n : c.lies_at.result ≡ point_near c.args.sheet (asked c.args.sheet.ndim c.args.r.place) (coords c.args.sheet.ndim c.args.x) =
    c.lies_at.ensures.1.1
    ∙ ap (λ (p : Position). lies c.args.r.point.from c.args.r.point.to (place_distance (asked c.args.sheet.ndim c.args.r.place) (coords c.args.sheet.ndim p))) same
    ∙ ap (λ (f : Float). lies f c.args.r.point.to d) c.requires.made.point_from
    ∙ ap (λ (t : Float). lies (neg c.args.sheet.tol_dist) t d) c.requires.made.point_to
    ∙ both-sides c.args.sheet.tol_dist d in
    ap₂ (λ (x y : Bool). x && y) n c.keeps.ensures
