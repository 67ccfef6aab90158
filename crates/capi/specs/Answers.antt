-- An answer as C has it: document 01's number or 0, and a result that is written, or left as it was where the call is refused.
-- Assumes nothing.
use Rattle.std.specs.Prelude.{ℕ, ◌≡◌}
use Rattle.std.specs.Prelude.{Result, Ok, Err}
use Rattle.basics.specs.Refusals.{Answer, refused, success}
use Rattle.basics.specs.declared.Refusal.{Refusal}
use Rattle.basics.specs.Answers.{refusal_number}

abbrev pub number : {A : Type 0} → Answer A → ℕ
number (refused n) = n
number (success a) = 0

-- the same of a result of the code
abbrev pub number_in : {A : Type 0} → Result A Refusal → ℕ
number_in (Ok a) = 0
number_in (Err e) = refusal_number e

-- a result's new content, from its old one
abbrev pub written : {A : Type 0} → Answer A → A → A
written (refused n) old = old
written (success a) old = a

-- what a call with one result gives to C: the number r, and the result's new content
pub record Told {A : Type 0} (x : Answer A) (r : ℕ) (old new : A) : Type 0 where
  pub returned : r ≡ number x
  pub result : new ≡ written x old
