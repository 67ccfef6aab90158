-- Laws of what a result of the code answers: of an error that `?` hands on, and of a fault that came before.
-- Assumes nothing.
use Rattle.std.proofs.Common.{ℕ, ◌≡◌, ap, ◌∙◌, Result, Ok, Err}
use Rattle.std.specs.Prelude.{IsErr, IsErrAnd}
use Rattle.std.proofs.Math.Option.{Option, some}
use Rattle.basics.specs.Refusals.{refused, answer}
use Rattle.basics.specs.declared.Refusal.{Refusal}
use Rattle.basics.specs.Answers.{refusal_number, answered, fault_in}

-- what `?` says of the result that it gives back for an error
abbrev pub Raised : {A : Type 0} → Refusal → Result A Refusal → Type 0
Raised e r = IsErr r × IsErrAnd r (λ (d : Refusal). d ≡ e)

pub raised_answer : {A B : Type 0} (f : A → B) (e : Refusal) (r : Result A Refusal) → Raised e r → answered f r ≡ refused (refusal_number e)
raised_answer f e (Ok a) h = absurd h.1
raised_answer f e (Err d) h = ap (λ (x : Refusal). refused (refusal_number x)) h.1

pub raised_fault : {A : Type 0} (e : Refusal) (r : Result A Refusal) → Raised e r → fault_in r ≡ some (refusal_number e)
raised_fault e (Ok a) h = absurd h.1
raised_fault e (Err d) h = ap (λ (x : Refusal). some (refusal_number x)) h.1

-- an error of a test that comes first is the answer
pub answer_raised : {A B : Type 0} (f : A → B) (o : Option ℕ) (b : B) (e : Refusal) (r : Result A Refusal)
    → some (refusal_number e) ≡ o → Raised e r → answered f r ≡ answer o b
unfolding answer
answer_raised f o b e r k h = raised_answer f e r h ∙ ap (λ p. answer p b) k
