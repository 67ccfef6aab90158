-- `grid_search::side` meets its contract. Assumes nothing.
use Rattle.std.proofs.Common.{ℕ, [], ◌∷◌, Float}
use Rattle.basics.specs.Lists.{zip_with}
use Rattle.basics.proofs.Lists.{take_zip}
use Rattle.floats.specs.Rounded.{◌⊖◌, ◌⊘◌, of_nat}
use Rattle.grid.proofs.InUse.{sized, counts-are}
use Rattle.grid_search.specs.Sheet.{side_of}
use Rattle.grid_search.proofs.side.Goals as goal

pub side_along-requires : goal.side_along-requires
side_along-requires c = (sized c.args.ndim.n c.args.ndim.two_or_three c.args.ndiv c.in_use-n.result c.in_use-n.ensures c.requires.divisions).x.most

pub side_along-requires-2 : goal.side_along-requires-2
side_along-requires-2 c = (sized c.args.ndim.n c.args.ndim.two_or_three c.args.ndiv c.in_use-n.result c.in_use-n.ensures c.requires.divisions).y.most

pub side_along-requires-3 : goal.side_along-requires-3
side_along-requires-3 c = (sized c.args.ndim.n c.args.ndim.two_or_three c.args.ndiv c.in_use-n.result c.in_use-n.ensures c.requires.divisions).z.most

pub returns : goal.returns
unfolding side_of
returns c =
    let a = c.args in
    let lengths = zip_with (λ (y x : Float). y ⊖ x) (a.xmax.x ∷ a.xmax.y ∷ a.xmax.z ∷ []) (a.xmin.x ∷ a.xmin.y ∷ a.xmin.z ∷ []) in
    rw (
      ← counts-are a.ndim.n c.args.ndim.two_or_three a.ndiv c.in_use-n.result c.in_use-n.ensures,
      ← take_zip (λ (y x : Float). y ⊖ x) a.ndim.n (a.xmax.x ∷ a.xmax.y ∷ a.xmax.z ∷ []) (a.xmin.x ∷ a.xmin.y ∷ a.xmin.z ∷ []),
      ← take_zip (λ (d : Float) (k : ℕ). d ⊘ of_nat k) a.ndim.n lengths
          (c.in_use-n.result.x ∷ c.in_use-n.result.y ∷ c.in_use-n.result.z ∷ []),
      ← c.side_along.ensures,
      ← c.side_along-2.ensures,
      ← c.side_along-3.ensures,
    )
    c.largest.ensures
