-- Lists: the work along the axes, which is one definition for any number of them, and the first entries of lent lists.
-- Assumes nothing.
use Rattle.std.specs.Prelude.{ℕ, zero, suc, Bool, true, false, cond, ◌&&◌, ◌||◌, ltb, eqb, length, drop}
use mathlib.Core.List.{List, [], ◌∷◌, ◌++◌}

module _ {A : Type 0} where
  unfoldable pub all : (A → Bool) → List A → Bool
  all p [] = true
  all p (x ∷ xs) = p x && all p xs

  unfoldable pub any : (A → Bool) → List A → Bool
  any p [] = false
  any p (x ∷ xs) = p x || any p xs

  -- those that pass, in their order
  unfoldable pub keep : (A → Bool) → List A → List A
  keep p [] = []
  keep p (x ∷ xs) = let rest = keep p xs in cond (p x) (x ∷ rest) rest

  -- f 0, f 1, .., f (n - 1)
  abbrev pub tab : ℕ → (ℕ → A) → List A
  tab zero f = []
  tab (suc n) f = f zero ∷ tab n (λ i. f (suc i))

  -- from the left: f (f (f a x) y) z
  unfoldable pub fold_from : (A → A → A) → A → List A → A
  fold_from f a [] = a
  fold_from f a (x ∷ xs) = fold_from f (f a x) xs

  -- the same with nothing in front of the first entry; d where there is none
  unfoldable pub fold_all : (A → A → A) → A → List A → A
  unfolding fold_from
  fold_all f d [] = d
  fold_all f d (x ∷ xs) = fold_from f x xs

  -- the new entries, and the old ones past them: what a lent list holds once its front is written
  unfoldable pub over : List A → List A → List A
  over new old = new ++ drop (length new) old

-- entry by entry, as far as both go
unfoldable pub zip_with : {A B C : Type 0} → (A → B → C) → List A → List B → List C
zip_with f [] ys = []
zip_with f (x ∷ xs) [] = []
zip_with f (x ∷ xs) (y ∷ ys) = f x y ∷ zip_with f xs ys

-- ---- lists of numbers

unfoldable pub has : ℕ → List ℕ → Bool
has i [] = false
has i (j ∷ js) = eqb j i || has i js

-- how many from the front are others than i: where the first i stands
unfoldable pub leading : ℕ → List ℕ → ℕ
leading i [] = 0
leading i (j ∷ js) = let rest = leading i js in cond (eqb j i) 0 (suc rest)

-- i in its place in an ascending list, once
unfoldable pub enter : ℕ → List ℕ → List ℕ
enter i [] = i ∷ []
enter i (j ∷ js) = let rest = enter i js in cond (ltb i j) (i ∷ j ∷ js) (cond (eqb j i) (j ∷ js) (j ∷ rest))
