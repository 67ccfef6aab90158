-- `grid::inner` meets its contract. Assumes nothing.
use Rattle.std.proofs.Common.{ℕ, ◌≤◌, ◌<◌, arith, ◌≡◌, eq-eqb, ne_eqb}
use Rattle.grid.specs.Containers.{inner}
use Rattle.grid.proofs.inner.Goals as goal

other : (n r : ℕ) → r < n → r ≡ n → ⊥
other n r h e = omega arith

last : (n r : ℕ) → n ≤ r → r ≤ n → r ≡ n
last n r h k = omega arith

pub returns-then-ratio-n : goal.returns-then-ratio-n
unfolding inner
returns-then-ratio-n c = record { value = rw (ne_eqb c.args.ratio c.args.n (other _ _ c.if-ratio-n.true)); in_range = c.if-ratio-n.true }

pub returns-else-ratio-n : goal.returns-else-ratio-n
unfolding inner
returns-else-ratio-n c =
    let a = c.args in
    let e = last a.n a.ratio c.if-ratio-n.false c.requires.within in record { value = rw (eq-eqb a.ratio a.n e, e); in_range = omega arith }
