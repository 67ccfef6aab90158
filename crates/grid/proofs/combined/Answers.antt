-- `grid::combined` meets its contract. Assumes nothing.
use Rattle.std.proofs.Common.{◌≡◌, true, ℕ, ◌≤◌, ◌<◌, arith}
use Rattle.basics.specs.Lists.{all}
use Rattle.grid.specs.declared.Divisions.{Divisions}
use Rattle.grid.specs.declared.Pivot.{Pivot}
use Rattle.grid.specs.Divisions.{counts, division}
use Rattle.grid.specs.Containers.{indices, InGrid}
use Rattle.grid.proofs.Bounds.{bounds, two-small, three_small}
use Rattle.grid.proofs.Flat.{key-is}
use Rattle.grid.proofs.combined.Goals as goal

-- each index is below 1,024
record Small (ndiv : Divisions) (pivot : Pivot) : Type 0 where
  i : pivot.i ≤ 1024
  j : pivot.j ≤ 1024
  k : pivot.k ≤ 1024
  x : ndiv.x ≤ 1024
  y : ndiv.y ≤ 1024

small : (ndiv : Divisions) (pivot : Pivot) → all division (counts 3 ndiv) ≡ true → InGrid (counts 3 ndiv) (indices 3 pivot) → Small ndiv pivot
small ndiv pivot h p =
    let d = bounds ndiv h in
    record { i = below p.0 d.x.most; j = below p.1.0 d.y.most; k = below p.1.1.0 d.z.most; x = d.x.most; y = d.y.most }
  where
    below : {i n : ℕ} → i < n → n ≤ 1024 → i ≤ 1024
    below h k = omega arith

pub overflow_mul-result : goal.overflow_mul-result
overflow_mul-result c = let b = small c.args.ndiv c.args.pivot c.requires.divisions c.requires.in_grid in omega (arith, two-small b.j b.x)

pub overflow_add-result : goal.overflow_add-result
overflow_add-result c = let b = small c.args.ndiv c.args.pivot c.requires.divisions c.requires.in_grid in omega (arith, two-small b.j b.x, b.i)

pub overflow_mul-result-2 : goal.overflow_mul-result-2
overflow_mul-result-2 c = let b = small c.args.ndiv c.args.pivot c.requires.divisions c.requires.in_grid in omega (arith, two-small b.k b.x)

pub overflow_mul-result-3 : goal.overflow_mul-result-3
overflow_mul-result-3 c = let b = small c.args.ndiv c.args.pivot c.requires.divisions c.requires.in_grid in omega (arith, three_small b.k b.x b.y)

pub overflow_add-result-2 : goal.overflow_add-result-2
overflow_add-result-2 c = let b = small c.args.ndiv c.args.pivot c.requires.divisions c.requires.in_grid in omega (arith, three_small b.k b.x b.y, two-small b.j b.x, b.i)

pub returns : goal.returns
returns c =
    let a = c.args in
    key-is a.ndiv.x a.ndiv.y a.ndiv.z a.pivot.i a.pivot.j a.pivot.k
