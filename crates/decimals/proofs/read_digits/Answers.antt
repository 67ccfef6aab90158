use Rattle.std.proofs.Common.{arith, ◌^◌, ◌<◌, sym, ◌∙◌, ⊎_elim, get_or, eqb-true, rules}
use Rattle.decimals.proofs.Digits.{digits_empty, digits_long, digit_small, walk_start, walk-room, walk_stop, walk-next, walk_end}
use Rattle.decimals.proofs.read_digits.Goals as goal

pub returns-then-is_empty : goal.returns-then-is_empty
returns-then-is_empty c = sym (⊎_elim (λ e. digits_empty _ _ (eqb-true _ _ (sym c.is_empty.ensures ∙ e))) (λ e. digits_long _ _ e.1) c.then-is_empty.either)

pub loop-byte-init : goal.loop-byte-init
loop-byte-init c = walk_start _

pub overflow_mul-n : goal.overflow_mul-n
overflow_mul-n c = let room : c.loop-byte.n < 10 ^ 18 = walk-room _ _ _ c.loop-byte.invariant c.loop-byte-test.true (search rules) in omega arith

pub returns-in_err-n : goal.returns-in_err-n
returns-in_err-n c = rw c.from_residual.ensures (walk_stop _ _ _ c.loop-byte.invariant _ c.loop-byte-test.true c.in_err-n.ensures)

pub overflow_add-n : goal.overflow_add-n
overflow_add-n c =
    let room : c.loop-byte.n < 10 ^ 18 = walk-room _ _ _ c.loop-byte.invariant c.loop-byte-test.true (search rules) in
    omega (arith, digit_small (get_or c.args.field.now c.loop-byte.byte-index 0) c.in_ok-n.ensures)

pub loop-byte-preserved : goal.loop-byte-preserved
loop-byte-preserved c = walk-next _ _ _ c.loop-byte.invariant _ c.loop-byte-test.true c.in_ok-n.ensures

pub returns : goal.returns
returns c = walk_end _ _ _ c.loop-byte.invariant _ (search rules) c.if-field-most.false c.loop-byte-test.false
