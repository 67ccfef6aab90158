-- `grid::container_center` meets its contract. Assumes nothing.
use Rattle.std.proofs.Common.{ℕ, ◌^◌, ◌≤◌, arith, [], ◌∷◌, Float}
use Rattle.basics.specs.Lists.{zip_with}
use Rattle.basics.proofs.Lists.{take_zip}
use Rattle.floats.specs.Rounded.{◌⊕◌, ◌⊗◌, ◌⊘◌, of_nat, pow2}
use Rattle.grid.specs.Containers.{centre}
use Rattle.grid.proofs.InUse.{small, indices-are}
use Rattle.grid.proofs.container_center.Goals as goal

wide : {i : ℕ} → i ≤ 1024 → i ≤ 2 ^ 53
wide h = omega arith

pub middle-requires : goal.middle-requires
middle-requires c = wide
    (small c.args.ndim.n c.args.ndim.two_or_three c.args.ndiv c.args.key.0 c.requires.divisions c.requires.key_in_range
    c.pivot_indices-pivot.result c.pivot_indices-pivot.ensures).i

pub middle-requires-2 : goal.middle-requires-2
middle-requires-2 c =
    wide (small c.args.ndim.n c.args.ndim.two_or_three c.args.ndiv c.args.key.0 c.requires.divisions c.requires.key_in_range
    c.pivot_indices-pivot.result c.pivot_indices-pivot.ensures).j

pub middle-requires-3 : goal.middle-requires-3
middle-requires-3 c =
    wide (small c.args.ndim.n c.args.ndim.two_or_three c.args.ndiv c.args.key.0 c.requires.divisions c.requires.key_in_range
    c.pivot_indices-pivot.result c.pivot_indices-pivot.ensures).k

pub returns : goal.returns
unfolding centre zip_with
returns c =
    let a = c.args in
    rw (
      ← indices-are a.ndim.n c.args.ndim.two_or_three a.ndiv a.key.0 c.pivot_indices-pivot.result c.pivot_indices-pivot.ensures,
      ← take_zip (λ (x : Float) (i : ℕ). x ⊕ of_nat i ⊗ a.side_length ⊕ a.side_length ⊘ pow2 1) a.ndim.n
          (a.xmin.x ∷ a.xmin.y ∷ a.xmin.z ∷ [])
          (c.pivot_indices-pivot.result.i ∷ c.pivot_indices-pivot.result.j ∷ c.pivot_indices-pivot.result.k ∷ []),
      ← c.middle.ensures,
      ← c.middle-2.ensures,
      ← c.middle-3.ensures,
    )
    c.in_use.ensures
