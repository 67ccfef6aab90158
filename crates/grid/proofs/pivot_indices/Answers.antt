-- `grid::pivot_indices` meets its contract. Assumes nothing.
use Rattle.std.proofs.Common.{mul-pos, arith}
use Rattle.grid.specs.Containers.{pivots}
use Rattle.grid.proofs.Bounds.{two-small}
use Rattle.grid.proofs.InUse.{sized, containers-are, pivots-are}
use Rattle.grid.proofs.Flat.{second-index, third-index}
use Rattle.grid.proofs.pivot_indices.Goals as goal

pub overflow_mul-n : goal.overflow_mul-n
overflow_mul-n c = let d = sized c.args.ndim.n c.args.ndim.two_or_three c.args.ndiv c.in_use-d.result c.in_use-d.ensures c.requires.divisions in omega (arith, two-small d.x.most d.y.most)

pub returns : goal.returns
unfolding pivots
returns c =
    let d = sized c.args.ndim.n c.args.ndim.two_or_three c.args.ndiv c.in_use-d.result c.in_use-d.ensures c.requires.divisions in
    let key = c.args.key.0 in
    let below = rw (← containers-are c.args.ndim.n c.args.ndim.two_or_three c.args.ndiv c.in_use-d.result c.in_use-d.ensures) at c.requires.key_in_range in
    rw (
      ← pivots-are c.args.ndim.n c.args.ndim.two_or_three c.args.ndiv c.in_use-d.result c.in_use-d.ensures key,
      second-index c.in_use-d.result.x c.in_use-d.result.y key d.x.least d.y.least,
      third-index c.in_use-d.result.x c.in_use-d.result.y c.in_use-d.result.z key d.x.least d.y.least below,
    )

pub nonzero_rem-result : goal.nonzero_rem-result
nonzero_rem-result c = (sized c.args.ndim.n c.args.ndim.two_or_three c.args.ndiv c.in_use-d.result c.in_use-d.ensures c.requires.divisions).x.least

pub nonzero_rem-result-2 : goal.nonzero_rem-result-2
nonzero_rem-result-2 c = let d = sized c.args.ndim.n c.args.ndim.two_or_three c.args.ndiv c.in_use-d.result c.in_use-d.ensures c.requires.divisions in mul-pos d.x.least d.y.least

pub nonzero_div-result : goal.nonzero_div-result
nonzero_div-result c = (sized c.args.ndim.n c.args.ndim.two_or_three c.args.ndiv c.in_use-d.result c.in_use-d.ensures c.requires.divisions).x.least

pub nonzero_div-result-2 : goal.nonzero_div-result-2
nonzero_div-result-2 c = let d = sized c.args.ndim.n c.args.ndim.two_or_three c.args.ndiv c.in_use-d.result c.in_use-d.ensures c.requires.divisions in mul-pos d.x.least d.y.least
