-- An iterator that yields a list, one call of `next` after the other.
-- Assumes nothing.
use mathlib.Core.Path.{◌≡◌, refl}
use mathlib.Core.List.{List, [], ◌∷◌}
use Rattle.std.specs.Option.{MatchOption}
use Rattle.std.proofs.Common.{Option, Some, None}
use Rattle.std.proofs.lemmas.Iterator.{YieldsList}

-- what one call gives: the first of the list, and then the iterator yields the others
pub next-yields : {S A B : Type 0} {steps : S → Option A → S → Type 0} {v : A → B} {s t : S} (ys : List B) (r : Option A)
    → YieldsList steps v s ys → steps s r t → MatchOption r (ys ≡ []) (λ x. (zs : List B) × (ys ≡ v x ∷ zs) × YieldsList steps v t zs)
next-yields [] None e k = refl
next-yields {t = t} [] (Some x) e k = absurd (e.runs x t k)
next-yields {t = t} (y ∷ ys) None e k = absurd (e.runs.0 t k)
next-yields {t = t} (y ∷ ys) (Some x) e k = let m = e.runs.1 x t k in (ys, rw m.0, record { runs = m.1 })
