-- What is known of a number that no dimension is made of. Assumes nothing.
use Rattle.std.proofs.Common.{ℕ, ◌≡◌, sym, false, not, [], ◌∷◌, Result, Ok, Err, is_ok}
use Rattle.basics.specs.declared.Refusal.{Refusal}
use Rattle.basics.specs.Answers.{fault_in}
use Rattle.std.proofs.Math.Option.{Option, none, some}
use Rattle.basics.proofs.Bools.{by_test}
use Rattle.basics.specs.Refusals.{refuse, fault}
use Rattle.geometry.specs.Axes.{dimension}

pub no_axes-told : (n k : ℕ) → some k ≡ fault (refuse 1 (not (dimension n)) ∷ []) → (dimension n ≡ false) × (k ≡ 1)
unfolding fault
no_axes-told n k e = by_test (dimension n) (λ h. never (rw h at e)) (λ h. (h, one (rw h at e)))
  where
    never : {A : Type 0} → some k ≡ none → A
    never e = cc

    one : some k ≡ some 1 → k ≡ 1
    one e = cc

-- a dimension is made exactly where there are 2 or 3 axes
pub made-axes : {A : Type 0} (n : ℕ) (r : Result A Refusal) → fault_in r ≡ fault (refuse 1 (not (dimension n)) ∷ []) → is_ok r ≡ dimension n
unfolding fault
made-axes n (Ok a) e = by_test (dimension n) (λ h. sym h) (λ h. never (rw h at e))
  where
    never : {B : Type 0} → ◌≡◌ {A = Option ℕ} none (some 1) → B
    never e = cc
made-axes n (Err k) e = sym (no_axes-told n _ e).0
