-- Laws of numbers that the kit lacks.
-- Assumes nothing.
use Prim.Native.Nat.{ℕ, suc, ◌≤◌, ◌<◌}
use native.Mathlib.Omega.{arith}
use mathlib.Core.Path.{◌≡◌, refl, sym}
use mathlib.Core.Logic.{◌⊎◌, inl, inr}
use mathlib.Core.Bool.{Bool, true, false, cond, ◌&&◌, ◌||◌}
use lib.Dec.{ltb, leb, eqb}
use borrow.Author.Tests.{ltb-true, ltb-false, eqb-true, eqb-false, le-leb, lt-leb}
use Rattle.basics.proofs.Bools.{by_test}

less : (a b : ℕ) → b ≤ a → (a ≡ b → ⊥) → b < a
less a b h n = omega arith

pub trichotomy : (a b : ℕ) → (a < b) ⊎ ((a ≡ b) ⊎ (b < a))
trichotomy a b =
    by_test (ltb a b) (λ e. inl (ltb-true a b e))
    (λ e. inr (by_test (eqb a b) (λ g. inl (eqb-true a b g)) (λ g. inr (less a b (ltb-false a b e) (eqb-false a b g)))))

-- at most is below or equal
pub at_most : (a b : ℕ) → (ltb a b || (eqb a b && true)) ≡ leb a b
at_most a b =
    by_test (ltb a b) (λ l. rw l (sym (le-leb a b (omega (arith, ltb-true a b l)))))
    (λ l. by_test (eqb a b) (λ e. rw (l, e) (sym (le-leb a b (omega (arith, eqb-true a b e)))))
    (λ e. rw (l, e) (sym (lt-leb a b (less a b (ltb-false a b l) (eqb-false a b e))))))

pub suc_cond : (b : Bool) (m n : ℕ) → suc (cond b m n) ≡ cond b (suc m) (suc n)
suc_cond true m n = refl
suc_cond false m n = refl
