-- `cell_search::write_zeta` meets its contract. Assumes nothing.
use Rattle.std.proofs.Common.{ℕ, ◌+◌, ◌∷◌, [], ◌++◌, drop, sym, ap, ap₂, arith}
use lib.Seq.{length-take-le}
use Rattle.basics.specs.Lists.{over}
use Rattle.geometry.proofs.Axes.{few-axes}
use Rattle.cell_search.proofs.write_zeta.Goals as goal

pub returns : goal.returns
unfolding over
returns c =
    let z = c.args.z in
    let n = c.args.ndim.n + 1 in
    let long = length-take-le n (z.0 ∷ z.1 ∷ z.2 ∷ z.3 ∷ []) (omega (arith, few-axes c.args.ndim.n c.args.ndim.two_or_three)) in
    ap₂ ◌++◌ c.copy_from_slice.ensures.after (ap (λ (k : ℕ). drop k c.args.zeta.now) (sym long))
