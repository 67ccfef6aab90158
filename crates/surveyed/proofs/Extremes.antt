-- The extreme of a list, by a walk over all but its first value.
-- Assumes nothing.
use Prim.Native.Nat.{ℕ, ◌+◌, ◌≤◌, ◌<◌}
use native.Mathlib.Numerals.{add-one}
use native.Mathlib.Omega.{arith}
use mathlib.Core.Path.{◌≡◌, refl, sym, ap, ◌∙◌}
use mathlib.Core.List.{List, [], ◌∷◌}
use lib.ListN.{length, drop, get_or, drop_of_length-le}
use lib.Seq.{drop-cons}
use lib.Ieee.{Float, nan}
use Rattle.basics.specs.Lists.{fold_from, fold_all}
use Rattle.floats.specs.Rounded.{zero_f}
use Rattle.surveyed.specs.Posts.{Chosen}

-- a is the extreme of the values up to the first i of the rest, by each function that the choice computes
pub record Upto (chooses : Float → Float → Float → Type 0) (values rest : List Float) (a : Float) (i : ℕ) : Type 0 where
  pub ahead : (f : Float → Float → Float) → ((x y z : Float) → chooses x y z → z ≡ f x y) → fold_all f zero_f values ≡ fold_from f a (drop i rest)

module _ (chooses : Float → Float → Float → Type 0) (values rest : List Float) where
  pub of_first : (first : Float) → values ≡ first ∷ rest → Upto chooses values rest first 0
  unfolding fold_all
  of_first first e = record { ahead = λ f h. rw e refl }

  pub next : (a b : Float) (i : ℕ) → i < length rest → chooses a (get_or rest i nan) b → Upto chooses values rest a i → Upto chooses values rest b (i + 1)
  unfolding fold_from
  next a b i l c u = record { ahead = λ f h. u.ahead f h ∙ ap (fold_from f a) (drop-cons rest i nan l) ∙ rw (h a (get_or rest i nan) b c, add-one) }

  pub of_all : (a : Float) (i : ℕ) → length rest ≤ i → Upto chooses values rest a i → Chosen chooses values a
  unfolding fold_from
  of_all a i l u f h = sym (u.ahead f h ∙ ap (fold_from f a) (drop_of_length-le rest {i = i} l))

-- of no values
pub of_none : (chooses : Float → Float → Float → Type 0) (values : List Float) → length values ≡ 0 → Chosen chooses values zero_f
unfolding fold_all
of_none chooses [] e f h = refl
of_none chooses (x ∷ values) e f h = absurd (omega arith)
