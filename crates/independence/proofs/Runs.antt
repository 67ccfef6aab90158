-- One more call of a run: a change that is accepted, one that is refused, and what every accepted change keeps.
use Prim.Native.Nat.{ℕ}
use mathlib.Core.Path.{◌≡◌, refl, sym, ◌∙◌, ap, subst}
use mathlib.Core.Bool.{true, not}
use mathlib.Core.Option.{Option, none, some}
use mathlib.Core.List.{List, [], ◌∷◌, ◌++◌}
use lib.Dec.{eqb}
use borrow.Author.Tests.{not-true}
use Rattle.basics.proofs.Bools.{and_both}
use Rattle.basics.specs.Lists.{all}
use Rattle.basics.specs.Refusals.{fault}
use Rattle.basics.proofs.Refusals.{fault_stop}
use Rattle.grid_search.specs.declared.GridSearch.{GridSearch}
use Rattle.independence.specs.Holdings.{Holding, holding_tests}
use Rattle.independence.specs.Run.{Change, Call, change, search, list, Reply, step, run, replies}
use Rattle.independence.specs.Histories.{whose, history, other, others}
use Rattle.independence.proofs.Changes.{change_tests, own_tests, changed, step_done, step-refused}
use Rattle.independence.proofs.Added.{history_kept}

module _ (s : GridSearch) (l : Holding) (c : Change) (calls : List Call) where
  module _ (e : fault (change_tests s l c) ≡ none) where
    pub run_done : run s l (change c ∷ calls) ≡ run s (changed s l c) calls
    unfolding run
    run_done = ap (λ (m : Holding). run s m calls) (step_done s l c e).0

    pub replies_done : replies s l (change c ∷ calls) ≡ (step s l (change c)).reply ∷ replies s (changed s l c) calls
    unfolding replies
    replies_done = ap (λ (m : Holding). (step s l (change c)).reply ∷ replies s m calls) (step_done s l c e).0

  module _ (n : ℕ) (e : fault (change_tests s l c) ≡ some n) where
    pub run_kept : run s l (change c ∷ calls) ≡ run s l calls
    unfolding run
    run_kept = ap (λ (m : Holding). run s m calls) (step-refused s l c n e).0

-- what holds at first, and is kept by each change that is accepted, holds after every run
pub kept : (s : GridSearch) (P : Holding → Type 0) → ((l : Holding) (c : Change) → fault (change_tests s l c) ≡ none → P l → P (changed s l c))
    → (calls : List Call) (l : Holding) → P l → P (run s l calls)
unfolding run step
kept s P keep [] l p = p
kept s P keep (search x ∷ calls) l p = kept s P keep calls l p
kept s P keep (list q f lent ∷ calls) l p = kept s P keep calls l p
kept s P keep (change c ∷ calls) l p = go (kept s P keep calls) (fault (change_tests s l c)) refl
  where
    go : ((m : Holding) → P m → P (run s m calls)) → (o : Option ℕ) → fault (change_tests s l c) ≡ o → P (run s l (change c ∷ calls))
    go ih none e = subst P (sym (run_done s l c calls e)) (ih (changed s l c) (keep l c e p))
    go ih (some n) e = subst P (sym (run_kept s l c calls n e)) (ih l p)

-- a library that its own tests refuse stays as it is, and no id has a history
pub stays : (s : GridSearch) (l : Holding) (n : ℕ) → fault (holding_tests s l) ≡ some n → (calls : List Call) → (run s l calls ≡ l) × ((i : ℕ) → history i s l calls ≡ [])
unfolding run history step change_tests
stays s l n u [] = (refl, λ i. refl)
stays s l n u (search x ∷ calls) = stays s l n u calls
stays s l n u (list p f lent ∷ calls) = stays s l n u calls
stays s l n u (change c ∷ calls) =
    let e = fault_stop (holding_tests s l) (own_tests s l c) n u in
    let ih = stays s l n u calls in
    (run_kept s l c calls n e ∙ ih.0, λ i. history_kept s l c calls n e i ∙ ih.1 i)

-- calls of other ids make no history
pub no_history : (i : ℕ) (s : GridSearch) (calls : List Call) (l : Holding) → others i calls ≡ true → history i s l calls ≡ []
unfolding history others other all
no_history i s [] l e = refl
no_history i s (search x ∷ calls) l e = no_history i s calls l e
no_history i s (list p f lent ∷ calls) l e = no_history i s calls l e
no_history i s (change c ∷ calls) l e = let d = and_both (not (eqb (whose c) i)) (others i calls) e in rw (not-true (eqb (whose c) i) d.0) (no_history i s calls (step s l (change c)).holding d.1)

-- a run in two parts
pub run-two : (s : GridSearch) (before after : List Call) (l : Holding) → run s l (before ++ after) ≡ run s (run s l before) after
unfolding run
run-two s [] after l = refl
run-two s (c ∷ before) after l = run-two s before after (step s l c).holding

pub replies-two : (s : GridSearch) (before after : List Call) (l : Holding) → replies s l (before ++ after) ≡ replies s l before ++ replies s (run s l before) after
unfolding run replies
replies-two s [] after l = refl
replies-two s (c ∷ before) after l = ap (λ (rs : List Reply). (step s l c).reply ∷ rs) (replies-two s before after (step s l c).holding)
