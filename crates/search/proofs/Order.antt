-- The order in which near rows are chosen: it is transitive; and a row that is as near as one of a lower id does not come before it.
-- Assumes nothing.
use Prim.Native.Nat.{◌<◌}
use native.Mathlib.Omega.{arith}
use mathlib.Core.Path.{◌≡◌}
use mathlib.Core.Logic.{⊎_elim}
use mathlib.Core.Bool.{true, false, ◌&&◌}
use mathlib.Core.Option.{Option, none, some}
use mathlib.Core.List.{List}
use lib.Dec.{ltb}
use lib.Ieee.{Float, lt, le, eq, is_nan}
use borrow.Author.Tests.{ltb-true, lt-ltb}
use Rattle.basics.proofs.Bools.{by_test, clash, and_both, or_either, or-true}
use Rattle.floats.proofs.Order.{le_left, le_right, lt-le, le_join, eq-le, lt_not_le, not_le_lt, le-eq}
use Rattle.grid_search.specs.declared.GridSearch.{GridSearch}
use Rattle.table.specs.declared.Row.{Row}
use Rattle.table.specs.Rows.{id_in}
use Rattle.search.specs.Search.{away, chosen_before, nearer_of}

-- ---- which of two rows is chosen

module _ (s : GridSearch) (x : List Float) where
  by_less : (r t : Row) → lt (away s x r) (away s x t) ≡ true → chosen_before s x r t ≡ true
  unfolding chosen_before
  by_less r t h = rw h

  by_id : (r t : Row) → eq (away s x r) (away s x t) ≡ true → id_in r < id_in t → chosen_before s x r t ≡ true
  unfolding chosen_before
  by_id r t h k = or-true (lt (away s x r) (away s x t)) (rw (h, lt-ltb (id_in r) (id_in t) k))

  -- a row that is chosen before another is no farther; and where it is no nearer either, its id is lower
  pub no_farther : (r t : Row) → chosen_before s x r t ≡ true → le (away s x r) (away s x t) ≡ true
  unfolding chosen_before
  no_farther r t h =
      ⊎_elim (λ l. lt-le (away s x r) (away s x t) l) (λ e. eq-le (away s x r) (away s x t) (and_both (eq (away s x r) (away s x t)) (ltb (id_in r) (id_in t)) e).0)
      (or_either (lt (away s x r) (away s x t)) (eq (away s x r) (away s x t) && ltb (id_in r) (id_in t)) h)

  pub lower-id : (r t : Row) → chosen_before s x r t ≡ true → le (away s x t) (away s x r) ≡ true → id_in r < id_in t
  unfolding chosen_before
  lower-id r t h k =
      ⊎_elim (λ l. clash k (lt_not_le (away s x r) (away s x t) l)) (λ e. ltb-true (id_in r) (id_in t) (and_both (eq (away s x r) (away s x t)) (ltb (id_in r) (id_in t)) e).1)
      (or_either (lt (away s x r) (away s x t)) (eq (away s x r) (away s x t) && ltb (id_in r) (id_in t)) h)

  pub before_trans : (q r t : Row) → chosen_before s x q r ≡ true → chosen_before s x r t ≡ true → chosen_before s x q t ≡ true
  before_trans q r t h k =
      let f = no_farther q r h in
      let g = no_farther r t k in
      let m = le_join (away s x q) (away s x r) (away s x t) f g in
      by_test (le (away s x t) (away s x q))
      (λ e.
      let i = lower-id q r h (le_join (away s x r) (away s x t) (away s x q) g e) in
      let j = lower-id r t k (le_join (away s x t) (away s x q) (away s x r) e f) in
      by_id q t (le-eq (away s x q) (away s x t) m e) (omega arith))
      (λ e. by_less q t (not_le_lt (away s x q) (away s x t) (le_left (away s x q) (away s x t) m) (le_right (away s x q) (away s x t) m) e))

  not-before : (r t : Row) → (chosen_before s x r t ≡ true → ⊥) → chosen_before s x r t ≡ false
  not-before r t f = by_test (chosen_before s x r t) (λ e. absurd (f e)) (λ e. e)

  -- ---- of a row that was chosen so far and one of a higher id

  module _ (b r : Row) where
    -- a nearer one takes its place
    pub nearer_chosen : lt (away s x r) (away s x b) ≡ true → (o : Option Row) → nearer_of s x b (nearer_of s x r o) ≡ nearer_of s x r o
    unfolding nearer_of
    nearer_chosen h none = rw (not-before b r (λ e. clash (no_farther b r e) (lt_not_le (away s x r) (away s x b) h)))
    nearer_chosen h (some t) =
        by_test (chosen_before s x r t) (λ e. rw (e, not-before b r (λ g. clash (no_farther b r g) (lt_not_le (away s x r) (away s x b) h))))
        (λ e. rw (e, not-before b t (λ g. clash (before_trans r b t (by_less r b h) g) e)))

    -- another does not
    pub stays_chosen : chosen_before s x b r ≡ true → (o : Option Row) → nearer_of s x b (nearer_of s x r o) ≡ nearer_of s x b o
    unfolding nearer_of
    stays_chosen h none = rw h
    stays_chosen h (some t) = by_test (chosen_before s x r t) (λ e. rw (e, h, before_trans b r t h e)) (λ e. rw e)

    -- which is so where it is no nearer
    pub no_nearer : is_nan (away s x b) ≡ false → is_nan (away s x r) ≡ false → lt (away s x r) (away s x b) ≡ false → id_in b < id_in r → chosen_before s x b r ≡ true
    no_nearer m n h k =
        by_test (le (away s x r) (away s x b))
        (λ e. by_id b r (le-eq (away s x b) (away s x r) (by_test (le (away s x b) (away s x r)) (λ f. f) (λ f. clash (not_le_lt (away s x r) (away s x b) n m f) h)) e) k)
        (λ e. by_less b r (not_le_lt (away s x b) (away s x r) m n e))
