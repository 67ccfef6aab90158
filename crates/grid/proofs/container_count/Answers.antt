-- `grid::container_count` meets its contract. Assumes nothing.
use Rattle.std.proofs.Common.{arith, mul-one, mul_assoc}
use Rattle.grid.specs.Containers.{containers}
use Rattle.grid.proofs.Bounds.{two-small, three_small}
use Rattle.grid.proofs.InUse.{sized, containers-are}
use Rattle.grid.proofs.container_count.Goals as goal

pub overflow_mul-result : goal.overflow_mul-result
overflow_mul-result c = let b = sized c.args.ndim.n c.args.ndim.two_or_three c.args.ndiv c.in_use-n.result c.in_use-n.ensures c.requires.divisions in omega (arith, two-small b.x.most b.y.most)

pub overflow_mul-result-2 : goal.overflow_mul-result-2
overflow_mul-result-2 c = let b =
    sized c.args.ndim.n c.args.ndim.two_or_three c.args.ndiv c.in_use-n.result c.in_use-n.ensures c.requires.divisions
    in omega (arith, three_small b.x.most b.y.most b.z.most)

pub returns : goal.returns
unfolding containers
returns c = rw (← containers-are c.args.ndim.n c.args.ndim.two_or_three c.args.ndiv c.in_use-n.result c.in_use-n.ensures, mul-one, mul_assoc)
