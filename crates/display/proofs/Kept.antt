-- Laws of `all` and `keep`: a test of every entry by its index, and what passes of two lists, of one whose every entry passes, and of one of which none does.
-- Assumes nothing.
use Prim.Native.Nat.{ℕ, suc, ◌<◌, zero-le, suc-le-suc}
use mathlib.Core.Path.{◌≡◌, refl}
use mathlib.Core.Bool.{Bool, true, not}
use mathlib.Core.List.{List, [], ◌∷◌, ◌++◌}
use lib.ListN.{length, get_or}
use borrow.Author.Tests.{not-true}
use Rattle.basics.proofs.Bools.{by_test, both, and_left, and_right}
use Rattle.basics.specs.Lists.{all, keep}

module _ {A : Type 0} where
  pub all_by : (p : A → Bool) (l : List A) (d : A) → ((i : ℕ) → i < length l → p (get_or l i d) ≡ true) → all p l ≡ true
  unfolding all
  all_by p [] d h = refl
  all_by p (x ∷ l) d h = both (h 0 (suc-le-suc zero-le)) (all_by p l d λ i k. h (suc i) (suc-le-suc k))

  pub keep_append : (p : A → Bool) (a b : List A) → keep p (a ++ b) ≡ keep p a ++ keep p b
  unfolding keep
  keep_append p [] b = refl
  keep_append p (x ∷ a) b = by_test (p x) (λ e. rw (e, keep_append p a b)) λ e. rw (e, keep_append p a b)

  pub keep_all : (p : A → Bool) (l : List A) → all p l ≡ true → keep p l ≡ l
  unfolding keep all
  keep_all p [] e = refl
  keep_all p (x ∷ l) e = rw (and_left (p x) (all p l) e, keep_all p l (and_right (p x) (all p l) e))

  pub keep-none : (p : A → Bool) (l : List A) → all (λ (x : A). not (p x)) l ≡ true → keep p l ≡ []
  unfolding keep all
  keep-none p [] e = refl
  keep-none p (x ∷ l) e =
      let rest : Bool = all (λ (y : A). not (p y)) l in
      rw (not-true (p x) (and_left (not (p x)) rest e), keep-none p l (and_right (not (p x)) rest e))

  -- a weaker test
  pub all_weaker : (p q : A → Bool) (l : List A) → ((x : A) → p x ≡ true → q x ≡ true) → all p l ≡ true → all q l ≡ true
  unfolding all
  all_weaker p q [] w e = refl
  all_weaker p q (x ∷ l) w e = both (w x (and_left (p x) (all p l) e)) (all_weaker p q l w (and_right (p x) (all p l) e))
