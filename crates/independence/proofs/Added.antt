-- What a change adds to a history: itself where it is accepted, and nothing where it is refused.
use Prim.Native.Nat.{ℕ}
use mathlib.Core.Path.{◌≡◌, ◌∙◌, ap}
use mathlib.Core.Bool.{Bool, true, false, cond, ◌&&◌, and-false}
use mathlib.Core.Option.{Option, none, some}
use mathlib.Core.List.{List, ◌∷◌}
use lib.Dec.{eqb}
use Rattle.basics.specs.Refusals.{fault, is_none}
use Rattle.grid_search.specs.declared.GridSearch.{GridSearch}
use Rattle.independence.specs.Holdings.{Holding}
use Rattle.independence.specs.Run.{Change, Call, change, step, accepted}
use Rattle.independence.specs.Histories.{whose, history}
use Rattle.independence.proofs.Changes.{change_tests, changed, step_done, step-refused}

module _ (s : GridSearch) (l : Holding) (c : Change) (calls : List Call) where
  module _ (e : fault (change_tests s l c) ≡ none) where
    pub history_done : (i : ℕ) → history i s l (change c ∷ calls) ≡ cond (eqb (whose c) i && true) (c ∷ history i s (changed s l c) calls) (history i s (changed s l c) calls)
    unfolding history accepted
    history_done i =
        ap (λ (m : Holding). cond (eqb (whose c) i && accepted (step s l (change c)).reply) (c ∷ history i s m calls) (history i s m calls)) (step_done s l c e).0
        ∙ ap (λ (o : Option ℕ). cond (eqb (whose c) i && is_none o) (c ∷ history i s (changed s l c) calls) (history i s (changed s l c) calls)) (step_done s l c e).1

    pub history-own : (i : ℕ) → eqb (whose c) i ≡ true → history i s l (change c ∷ calls) ≡ c ∷ history i s (changed s l c) calls
    history-own i f = history_done i ∙ rw f

    pub history-other : (i : ℕ) → eqb (whose c) i ≡ false → history i s l (change c ∷ calls) ≡ history i s (changed s l c) calls
    history-other i f = history_done i ∙ rw f

  module _ (n : ℕ) (e : fault (change_tests s l c) ≡ some n) where
    pub history_kept : (i : ℕ) → history i s l (change c ∷ calls) ≡ history i s l calls
    unfolding history accepted
    history_kept i =
        ap (λ (m : Holding). cond (eqb (whose c) i && accepted (step s l (change c)).reply) (c ∷ history i s m calls) (history i s m calls)) (step-refused s l c n e).0
        ∙ ap (λ (o : Option ℕ). cond (eqb (whose c) i && is_none o) (c ∷ history i s l calls) (history i s l calls)) (step-refused s l c n e).1
        ∙ ap (λ (b : Bool). cond b (c ∷ history i s l calls) (history i s l calls)) (and-false (eqb (whose c) i))
