-- `grid_search::covered` meets its contract. Assumes nothing.
use Rattle.std.proofs.Common.{ℕ, [], ◌∷◌, Float}
use Rattle.basics.proofs.Lists.{take_zip}
use Rattle.floats.specs.Rounded.{◌⊕◌, ◌⊗◌, of_nat}
use Rattle.grid.proofs.InUse.{sized, counts-are}
use Rattle.grid_search.specs.Sheet.{covered_of}
use Rattle.grid_search.proofs.covered.Goals as goal

pub end_along-requires : goal.end_along-requires
end_along-requires c = (sized c.args.ndim.n c.args.ndim.two_or_three c.args.ndiv c.in_use-n.result c.in_use-n.ensures c.requires.divisions).x.most

pub end_along-requires-2 : goal.end_along-requires-2
end_along-requires-2 c = (sized c.args.ndim.n c.args.ndim.two_or_three c.args.ndiv c.in_use-n.result c.in_use-n.ensures c.requires.divisions).y.most

pub end_along-requires-3 : goal.end_along-requires-3
end_along-requires-3 c = (sized c.args.ndim.n c.args.ndim.two_or_three c.args.ndiv c.in_use-n.result c.in_use-n.ensures c.requires.divisions).z.most

pub returns : goal.returns
unfolding covered_of
returns c =
    let a = c.args in
    rw (
      ← counts-are a.ndim.n c.args.ndim.two_or_three a.ndiv c.in_use-n.result c.in_use-n.ensures,
      ← take_zip (λ (x : Float) (k : ℕ). x ⊕ a.side ⊗ of_nat k) a.ndim.n (a.xmin.x ∷ a.xmin.y ∷ a.xmin.z ∷ [])
          (c.in_use-n.result.x ∷ c.in_use-n.result.y ∷ c.in_use-n.result.z ∷ []),
      ← c.end_along.ensures,
      ← c.end_along-2.ensures,
      ← c.end_along-3.ensures,
    )
    c.in_use.ensures
