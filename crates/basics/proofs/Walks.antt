-- Walks along a list that ask whether every entry passes a test.
-- Assumes nothing.
use Prim.Native.Nat.{ℕ, suc, ◌+◌, ◌≤◌, ◌<◌}
use native.Mathlib.Numerals.{add-one}
use mathlib.Core.Path.{◌≡◌, sym, ◌∙◌}
use mathlib.Core.Bool.{Bool, true, false, ◌&&◌, and-true, and_assoc}
use mathlib.Core.List.{List}
use lib.ListN.{length, get_or, drop, drop_of_length-le}
use lib.Seq.{drop-cons}
use Rattle.basics.specs.Lists.{all}

module _ {A : Type 0} where
  -- A walk that asks `all`. What it knows of the entries from i on: a turn that finds one that fails, a turn that does not, and the end.
  module _ (p : A → Bool) (xs : List A) (i : ℕ) (walk : all p xs ≡ all p (drop i xs)) where
    pub all_stop : (d : A) → i < length xs → p (get_or xs i d) ≡ false → all p xs ≡ false
    unfolding all
    all_stop d h f = walk ∙ rw (drop-cons xs i d h, f)

    pub all-next : (d : A) → i < length xs → p (get_or xs i d) ≡ true → all p xs ≡ all p (drop (i + 1) xs)
    unfolding all
    all-next d h f = walk ∙ rw (drop-cons xs i d h, f, add-one)

    pub all_end : length xs ≤ i → all p xs ≡ true
    unfolding all
    all_end h = walk ∙ rw (drop_of_length-le xs h)

  -- The same walk without a stop: whether all entries so far pass, joined to what is left.
  module _ (p : A → Bool) (xs : List A) (i : ℕ) (ok : Bool) (walk : all p xs ≡ (ok && all p (drop i xs))) where
    pub all_join : (d : A) → i < length xs → all p xs ≡ (ok && p (get_or xs i d) && all p (drop (i + 1) xs))
    unfolding all
    all_join d h = walk ∙ rw (drop-cons xs i d h, add-one) (sym (and_assoc ok (p (get_or xs i d)) (all p (drop (suc i) xs))))

    pub all-joined : length xs ≤ i → all p xs ≡ ok
    unfolding all
    all-joined h = walk ∙ rw (drop_of_length-le xs h) (and-true ok)
