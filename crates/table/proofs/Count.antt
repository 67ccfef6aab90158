-- How many rows a mark's stores will make, found before anything is written.
-- Assumes nothing.
use Prim.Native.Nat.{ℕ, ◌+◌, ◌≤◌, ◌<◌}
use native.Mathlib.Numerals.{add-one}
use native.Mathlib.Omega.{arith}
use mathlib.Core.Path.{◌≡◌, refl, sym, ap, ◌∙◌, subst}
use mathlib.Core.Bool.{Bool, true, false, ◌||◌, cond, or-true, or-false, and-true}
use mathlib.Core.List.{List, [], ◌∷◌, map}
use lib.ListN.{length, get_or, take, length-map}
use lib.Seq.{take_all}
use lib.Dec.{eqb}
use borrow.Author.Tests.{eq-eqb}
use Rattle.basics.proofs.Bools.{by_test, clash, and_both}
use Rattle.std.specs.List.{list_any}
use Rattle.std.specs.Result.{is_ok}
use Rattle.std.specs.Prelude.{Result, Ok, Err}
use Rattle.basics.specs.Lists.{has}
use Rattle.geometry.specs.declared.Position.{Position}
use Rattle.table.specs.declared.Row.{Row}
use Rattle.table.specs.Rows.{Slot, slotted, slot_of, before, same, chain, sorted, held, row_in, put_row, put_in}
use Rattle.table.specs.Posts.{Finds, CountAfter}
use Rattle.table.proofs.Order.{before_trans, before_irrefl, before-total, same-eq, chain-sorted}
use Rattle.table.proofs.Stores.{length-put}
use Rattle.table.proofs.All.{all-next, sorted_all}

-- what `contains` answers of numbers
pub any-has : (v : ℕ) (s : List ℕ) → list_any (λ (j : ℕ). eqb j v) s ≡ has v s
unfolding has
any-has v [] = refl
any-has v (j ∷ s) = ap (λ (b : Bool). eqb j v || b) (any-has v s)

-- what a search that finds a slot, or its place, says of whether it is there
pub finds-held : (p : Slot) (slots : List Slot) (r : Result ℕ ℕ) → Finds p slots r → held p slots ≡ is_ok r
finds-held p slots (Ok at) f = f.1
finds-held p slots (Err at) f = f.1

unfoldable pub there : Slot → List Slot → Bool
there p [] = false
there p (q ∷ qs) = same q p || there p qs

-- nothing after q is at a slot before q
there_none : (p q : Slot) (qs : List Slot) → before p q ≡ true → chain q qs ≡ true → there p qs ≡ false
unfolding there chain
there_none p q [] b e = refl
there_none p q (s ∷ qs) b e =
    let d = and_both (before q s) (chain s qs) e in
    let t = before_trans p q s b d.0 in
    by_test (same s p) (λ g. clash (subst (λ (r : Slot). before p r ≡ true) (same-eq s p g) t) (before_irrefl p)) (λ g. rw g (there_none p s qs t d.1))

pub held_there : (p : Slot) (ps : List Slot) → sorted ps ≡ true → held p ps ≡ there p ps
unfolding held there sorted
held_there p [] e = refl
held_there p (q ∷ qs) e =
    by_test (before q p)
    (λ b. by_test (same q p) (λ g. clash (subst (λ (r : Slot). before q r ≡ true) (sym (same-eq q p g)) b) (before_irrefl q)) (λ g. rw (b, g) (held_there p qs (chain-sorted q qs e))))
    (λ b. by_test (same q p) (λ g. rw (b, g)) (λ g. rw (b, g, there_none p q qs (before-total q p b g) e)))

pub there_put : (p : Slot) (r : Row) (rows : List Row) → there p (map slot_of (put_row r rows)) ≡ (same (slot_of r) p || there p (map slot_of rows))
unfolding there put_row
there_put p r [] = refl
there_put p r (s ∷ rest) =
    by_test (before (slot_of s) (slot_of r))
    (λ b. by_test (same (slot_of s) p) (λ g. rw (b, g, or-true)) (λ g. rw (b, g) (there_put p r rest)))
    (λ b. by_test (same (slot_of s) (slot_of r))
    (λ g. by_test (same (slot_of r) p) (λ k. rw (b, g, k)) (λ k. rw (b, g, k, (subst (λ (q : Slot). same q p ≡ false) (sym (same-eq _ _ g)) k))))
    (λ g. rw (b, g)))

same_key : (id : ℕ) (at : Position) (k l : ℕ) → same (slot_of (row_in id at k)) (slot_of (row_in id at l)) ≡ eqb k l
unfolding same
same_key id at k l = rw (eq-eqb id id refl) (and-true (eqb k l))

pub there_all : (id : ℕ) (at : Position) (l : ℕ) (ks : List ℕ) (rows : List Row)
    → there (slot_of (row_in id at l)) (map slot_of (put_in id at ks rows)) ≡ (has l ks || there (slot_of (row_in id at l)) (map slot_of rows))
unfolding put_in has
there_all id at l [] rows = refl
there_all id at l (k ∷ ks) rows =
    there_all id at l ks (put_row (row_in id at k) rows)
    ∙ by_test (has l ks) (λ e. rw (e, or-true)) (λ e. rw (e, or-false, there_put (slot_of (row_in id at l)) (row_in id at k) rows, same_key id at k l))

-- one more store: one more row, unless the container came before in the list or has the id already
pub count_next : (id : ℕ) (at : Position) (ks : List ℕ) (i : ℕ) (rows : List Row) → sorted (map slot_of rows) ≡ true → i < length ks
    → length (put_in id at (take (i + 1) ks) rows)
    ≡ cond (has (get_or ks i 0) (take i ks) || held (slot_of (row_in id at (get_or ks i 0))) (map slot_of rows)) (length (put_in id at (take i ks) rows)) (length (put_in id at (take i ks) rows) + 1)
count_next id at ks i rows e h =
    ap length (all-next id at ks i rows h)
    ∙ length-put (row_in id at (get_or ks i 0)) (put_in id at (take i ks) rows)
    ∙ rw (held_there _ _ (sorted_all id at (take i ks) rows e), there_all, held_there _ _ e, add-one) refl

module _ (slots : List Slot) (id : ℕ) (into : List ℕ) where
  pub count-start : (n : ℕ) → length slots ≡ n → CountAfter slots id (take 0 into) n
  unfolding put_in
  count-start n m at rows q = sym m ∙ ap length (sym q) ∙ length-map rows slot_of

  module _ (i n : ℕ) (c : CountAfter slots id (take i into) n) where
    pub count_more : (m : ℕ) → sorted slots ≡ true → i < length into
        → m ≡ cond (has (get_or into i 0) (take i into) || held (slotted (get_or into i 0) id) slots) n (n + 1)
        → CountAfter slots id (take (i + 1) into) m
    count_more m o h e at rows q = e ∙ sym (count_next id at into i rows (ap sorted q ∙ o) h ∙ rw (← c at rows q, q))

    pub count_end : length into ≤ i → CountAfter slots id into n
    count_end h = rw (take_all i into h) at c

pub one_at_most : (b : Bool) (n : ℕ) → cond b n (n + 1) ≤ n + 1
one_at_most true n = omega arith
one_at_most false n = omega arith
