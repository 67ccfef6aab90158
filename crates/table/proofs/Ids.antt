-- Rows in strict order are known by the row of each slot. What is in the table after a mark's stores, and what they do to the rows of one id; the rows of the other ids.
-- Assumes nothing.
use Prim.Native.Nat.{ℕ, ◌+◌, ◌≤◌}
use native.Mathlib.Omega.{arith}
use mathlib.Core.Path.{◌≡◌, refl, sym, ap, ap₂, ◌∙◌, subst}
use mathlib.Core.Bool.{Bool, true, false, not, ◌&&◌, ◌||◌, cond, and-false}
use mathlib.Core.Logic.{⊎_elim}
use mathlib.Core.List.Memᴰ
use mathlib.Core.List.{List, [], ◌∷◌, map, Memᴰ}
use mathlib.Core.Option.{Option, none, some}
use lib.Dec.{eqb}
use lib.ListN.{length}
use borrow.Author.Tests.{eq-eqb, eqb-true}
use Rattle.basics.proofs.Bools.{by_test, clash, both, and_both}
use Rattle.basics.specs.Lists.{all, keep, has}
use Rattle.basics.proofs.Lists.{length-keep, all_keep, length_both, keep-keep, keep-within, keep_apart}
use Rattle.geometry.specs.declared.Position.{Position}
use Rattle.table.specs.declared.Row.{Row}
use Rattle.table.specs.Rows.{Slot, slot_of, before, same, chain, sorted, id_in, row_in, put_row, put_in, own, without, row_for}
use Rattle.table.proofs.Order.{before_trans, before_irrefl, before-total, same-eq, chain-sorted}
use Rattle.table.proofs.Meaning.{sorted-put, row_for-put}

pub same_self : (p : Slot) → same p p ≡ true
unfolding same
same_self p = rw (eq-eqb p.key p.key refl, eq-eqb p.id p.id refl)

after_not_same : (p q : Slot) → before p q ≡ true → same q p ≡ false
after_not_same p q b = by_test (same q p) (λ g. clash (subst (λ (r : Slot). before p r ≡ true) (same-eq q p g) b) (before_irrefl p)) (λ g. g)

chain-down : (p q : Slot) (qs : List Slot) → before p q ≡ true → chain q qs ≡ true → chain p qs ≡ true
unfolding chain
chain-down p q [] b e = refl
chain-down p q (s ∷ qs) b e = let d = and_both (before q s) (chain s qs) e in both (before_trans p q s b d.0) d.1

chain-none : (p : Slot) (rows : List Row) → chain p (map slot_of rows) ≡ true → row_for p rows ≡ none
unfolding chain row_for
chain-none p [] e = refl
chain-none p (s ∷ rest) e =
    let d = and_both (before p (slot_of s)) (chain (slot_of s) (map slot_of rest)) e in
    rw (after_not_same p (slot_of s) d.0) (chain-none p rest (chain-down p (slot_of s) (map slot_of rest) d.0 d.1))

here : (r : Row) (rest : List Row) → row_for (slot_of r) (r ∷ rest) ≡ some r
unfolding row_for
here r rest = rw (same_self (slot_of r))

empty : (p : Slot) → row_for p [] ≡ none
unfolding row_for
empty p = refl

none-some : {r : Row} {o : Option Row} → o ≡ none → o ≡ some r → ⊥
none-some e f = let z : ◌≡◌ {A = ℕ} 0 1 = cc in omega arith

-- a row in strict order is the only one of its slot
pub row_for-among : (r : Row) (rows : List Row) → sorted (map slot_of rows) ≡ true → Memᴰ r rows → row_for (slot_of r) rows ≡ some r
unfolding sorted row_for
row_for-among r [] o m = absurd (Memᴰ.not-nil m)
row_for-among r (s ∷ rest) o m =
    ⊎_elim (λ (e : r ≡ s). subst (λ (q : Row). row_for (slot_of q) (s ∷ rest) ≡ some q) (sym e) (here s rest))
    (λ (k : Memᴰ r rest).
    let found = row_for-among r rest (chain-sorted (slot_of s) (map slot_of rest) o) k in
    by_test (same (slot_of s) (slot_of r))
    (λ g. absurd (none-some (subst (λ (p : Slot). row_for p rest ≡ none) (same-eq (slot_of s) (slot_of r) g) (chain-none (slot_of s) rest o)) found))
    (λ g. rw g found))
    (Memᴰ.cases_cons m)

-- the rest has the same rows by slot, where the first row is the same
rest-same : (r : Row) (rs ss : List Row) → chain (slot_of r) (map slot_of rs) ≡ true → chain (slot_of r) (map slot_of ss) ≡ true
    → ((p : Slot) → row_for p (r ∷ rs) ≡ row_for p (r ∷ ss)) → (p : Slot) → row_for p rs ≡ row_for p ss
unfolding row_for
rest-same r rs ss d e h p =
    by_test (same (slot_of r) p)
    (λ g. let q = same-eq (slot_of r) p g in subst (λ (k : Slot). row_for k rs ≡ row_for k ss) q (chain-none (slot_of r) rs d ∙ sym (chain-none (slot_of r) ss e)))
    (λ g. rw g at (h p))

pub rows_ext : (rs ss : List Row) → sorted (map slot_of rs) ≡ true → sorted (map slot_of ss) ≡ true → ((p : Slot) → row_for p rs ≡ row_for p ss) → rs ≡ ss
unfolding sorted chain
rows_ext [] [] d e h = refl
rows_ext [] (s ∷ ss) d e h = absurd (none-some (empty (slot_of s)) (h (slot_of s) ∙ here s ss))
rows_ext (r ∷ rs) [] d e h = absurd (none-some (empty (slot_of r)) (sym (h (slot_of r)) ∙ here r rs))
rows_ext (r ∷ rs) (s ∷ ss) d e h =
    by_test (before (slot_of r) (slot_of s))
    (λ b. absurd (none-some (chain-none (slot_of r) (s ∷ ss) (both b e)) (sym (h (slot_of r)) ∙ here r rs)))
    (λ b. by_test (same (slot_of r) (slot_of s))
    (λ g.
    let k : some r ≡ some s = sym (here r rs) ∙ h (slot_of r) ∙ ap (λ (p : Slot). row_for p (s ∷ ss)) (same-eq _ _ g) ∙ here s ss in
    let q : r ≡ s = cc in
    let e' : chain (slot_of r) (map slot_of ss) ≡ true = rw q e in
    let h' : (p : Slot) → row_for p (r ∷ rs) ≡ row_for p (r ∷ ss) = λ p. h p ∙ ap (λ (t : Row). row_for p (t ∷ ss)) (sym q) in
    ap₂ (λ (t : Row) (l : List Row). t ∷ l) q (rows_ext rs ss (chain-sorted (slot_of r) (map slot_of rs) d) (chain-sorted (slot_of s) (map slot_of ss) e) (rest-same r rs ss d e' h')))
    (λ g. absurd (none-some (chain-none (slot_of s) (r ∷ rs) (both (before-total (slot_of r) (slot_of s) b g) d)) (h (slot_of s) ∙ here s ss))))

-- ---- what is in the table after a mark's stores

-- the slot is one of the mark's
abbrev pub marks : ℕ → List ℕ → Slot → Bool
marks id ks p = eqb id p.id && has p.key ks

choose : {A : Type 0} (e f h : Bool) (x y r : A) → (f ≡ true → y ≡ x) → cond (e && h) x (cond (f && e) y r) ≡ cond (e && (f || h)) x r
choose false false h x y r g = refl
choose false true h x y r g = refl
choose true false h x y r g = refl
choose true true false x y r g = g refl
choose true true true x y r g = refl

-- a mark's slot has the mark's row, and any other the row that it had
pub row_for-put_in : (id : ℕ) (at : Position) (ks : List ℕ) (rows : List Row) (p : Slot) → row_for p (put_in id at ks rows) ≡ cond (marks id ks p) (some (row_in id at p.key)) (row_for p rows)
unfolding put_in has same
row_for-put_in id at [] rows p = rw (and-false)
row_for-put_in id at (k ∷ ks) rows p =
    row_for-put_in id at ks (put_row (row_in id at k) rows) p
    ∙ ap (cond (marks id ks p) (some (row_in id at p.key))) (row_for-put p (row_in id at k) rows)
    ∙ choose (eqb id p.id) (eqb k p.key) (has p.key ks) (some (row_in id at p.key)) (some (row_in id at k)) (row_for p rows) (λ f. ap (λ (j : ℕ). some (row_in id at j)) (eqb-true k p.key f))

-- ---- a test that holds of each row

module _ (good : Row → Bool) where
  pub all-put : (r : Row) (rows : List Row) → good r ≡ true → all good rows ≡ true → all good (put_row r rows) ≡ true
  unfolding all put_row
  all-put r [] g a = both g refl
  all-put r (s ∷ rows) g a =
      let d = and_both (good s) (all good rows) a in
      by_test (before (slot_of s) (slot_of r)) (λ b. rw b (both d.0 (all-put r rows g d.1)))
      (λ b. by_test (same (slot_of s) (slot_of r)) (λ h. rw (b, h) (both g d.1)) (λ h. rw (b, h) (both g a)))

  pub all-put_in : (id : ℕ) (at : Position) (ks : List ℕ) (rows : List Row) → all (λ (k : ℕ). good (row_in id at k)) ks ≡ true → all good rows ≡ true → all good (put_in id at ks rows) ≡ true
  unfolding all put_in
  all-put_in id at [] rows g a = a
  all-put_in id at (k ∷ ks) rows g a =
      let d = and_both (good (row_in id at k)) (all (λ (j : ℕ). good (row_in id at j)) ks) g in
      all-put_in id at ks (put_row (row_in id at k) rows) d.1 (all-put (row_in id at k) rows d.0 a)

-- ---- the rows of the ids that pass a test

front : (r : Row) (rows : List Row) → chain (slot_of r) (map slot_of rows) ≡ true → put_row r rows ≡ r ∷ rows
unfolding chain put_row
front r [] e = refl
front r (s ∷ rows) e =
    let b = (and_both (before (slot_of r) (slot_of s)) (chain (slot_of s) (map slot_of rows)) e).0 in
    by_test (before (slot_of s) (slot_of r))
    (λ c. clash (before_trans (slot_of r) (slot_of s) (slot_of r) b c) (before_irrefl (slot_of r)))
    (λ c. rw (c, after_not_same (slot_of r) (slot_of s) b))

module _ (q : ℕ → Bool) where
  abbrev picked : List Row → List Row
  picked rows = keep (λ (r : Row). q (id_in r)) rows

  -- they stay in strict order
  chain_picked : (p : Slot) (rows : List Row) → chain p (map slot_of rows) ≡ true → chain p (map slot_of (picked rows)) ≡ true
  unfolding keep chain
  chain_picked p [] e = refl
  chain_picked p (s ∷ rows) e =
      let d = and_both (before p (slot_of s)) (chain (slot_of s) (map slot_of rows)) e in
      by_test (q (id_in s)) (λ f. rw f (both d.0 (chain_picked (slot_of s) rows d.1)))
      (λ f. rw f (chain_picked p rows (chain-down p (slot_of s) (map slot_of rows) d.0 d.1)))

  sorted_picked : (rows : List Row) → sorted (map slot_of rows) ≡ true → sorted (map slot_of (picked rows)) ≡ true
  unfolding keep sorted
  sorted_picked [] o = refl
  sorted_picked (s ∷ rows) o =
      by_test (q (id_in s)) (λ f. rw f (chain_picked (slot_of s) rows o))
      (λ f. rw f (sorted_picked rows (chain-sorted (slot_of s) (map slot_of rows) o)))

  -- a row of an id that does not pass changes nothing
  left_put : (r : Row) (rows : List Row) → q (id_in r) ≡ false → picked (put_row r rows) ≡ picked rows
  unfolding keep put_row
  left_put r [] e = rw e
  left_put r (s ∷ rows) e =
      by_test (before (slot_of s) (slot_of r)) (λ b. rw (b, left_put r rows e))
      (λ b. by_test (same (slot_of s) (slot_of r))
      (λ g. let f : q (id_in s) ≡ false = ap (λ (p : Slot). q p.id) (same-eq (slot_of s) (slot_of r) g) ∙ e in rw (b, g, e, f))
      (λ g. rw (b, g, e)))

  -- one of an id that passes goes among them
  picked_put : (r : Row) (rows : List Row) → q (id_in r) ≡ true → sorted (map slot_of rows) ≡ true → picked (put_row r rows) ≡ put_row r (picked rows)
  unfolding keep put_row sorted
  picked_put r [] e o = rw e
  picked_put r (s ∷ rows) e o =
      by_test (before (slot_of s) (slot_of r))
      (λ b.
      let ih = picked_put r rows e (chain-sorted (slot_of s) (map slot_of rows) o) in
      by_test (q (id_in s)) (λ f. rw (b, f, b, ih)) (λ f. rw (b, f, ih)))
      (λ b. by_test (same (slot_of s) (slot_of r))
      (λ g. let f : q (id_in s) ≡ true = ap (λ (p : Slot). q p.id) (same-eq (slot_of s) (slot_of r) g) ∙ e in rw (b, g, e, f, b, g))
      (λ g. rw (b, g, e) (sym (front r (picked (s ∷ rows)) (chain_picked (slot_of r) (s ∷ rows) (unfold chain in both (before-total (slot_of s) (slot_of r) b g) o))))))

  -- the same for all stores of a mark
  left_put_in : (id : ℕ) (at : Position) (ks : List ℕ) (rows : List Row) → q id ≡ false → picked (put_in id at ks rows) ≡ picked rows
  unfolding put_in
  left_put_in id at [] rows e = refl
  left_put_in id at (k ∷ ks) rows e = left_put_in id at ks (put_row (row_in id at k) rows) e ∙ left_put (row_in id at k) rows e

  picked_put_in : (id : ℕ) (at : Position) (ks : List ℕ) (rows : List Row) → q id ≡ true → sorted (map slot_of rows) ≡ true
      → picked (put_in id at ks rows) ≡ put_in id at ks (picked rows)
  unfolding put_in
  picked_put_in id at [] rows e o = refl
  picked_put_in id at (k ∷ ks) rows e o =
      picked_put_in id at ks (put_row (row_in id at k) rows) e (sorted-put (row_in id at k) rows o)
      ∙ ap (put_in id at ks) (picked_put (row_in id at k) rows e o)

  -- a slot has the row that it had, if its id passes, and else none
  row_for_picked : (p : Slot) (rows : List Row) → row_for p (picked rows) ≡ cond (q p.id) (row_for p rows) none
  unfolding row_for keep
  row_for_picked p [] = by_test (q p.id) (λ e. rw e) (λ e. rw e)
  row_for_picked p (r ∷ rows) =
      let ih = row_for_picked p rows in
      by_test (same (slot_of r) p)
      (λ g. let f : q (id_in r) ≡ q p.id = ap (λ (s : Slot). q s.id) (same-eq (slot_of r) p g) in by_test (q p.id) (λ e. rw (f, e, g)) (λ e. rw (f, e) (ih ∙ rw e)))
      (λ g. by_test (q (id_in r)) (λ e. rw (e, g) ih) (λ e. rw (e, g) ih))

-- ---- the rows of one id

module _ (i : ℕ) where
  pub length-own : (rows : List Row) → length (own i rows) ≤ length rows
  unfolding own
  length-own rows = length-keep (λ (r : Row). eqb (id_in r) i) rows

  -- a mark's stores leave the rows of other ids, and do to its own rows what they would do to them alone
  pub other-put_in : (id : ℕ) (at : Position) (ks : List ℕ) (rows : List Row) → eqb id i ≡ false → own i (put_in id at ks rows) ≡ own i rows
  unfolding own
  other-put_in id at ks rows e = left_put_in (λ (k : ℕ). eqb k i) id at ks rows e

  pub own-put_in : (id : ℕ) (at : Position) (ks : List ℕ) (rows : List Row) → eqb id i ≡ true → sorted (map slot_of rows) ≡ true → own i (put_in id at ks rows) ≡ put_in id at ks (own i rows)
  unfolding own
  own-put_in id at ks rows e o = picked_put_in (λ (k : ℕ). eqb k i) id at ks rows e o

  pub own-own : (rows : List Row) → own i (own i rows) ≡ own i rows
  unfolding own
  own-own rows = keep-within (λ (r : Row). eqb (id_in r) i) (λ (r : Row). eqb (id_in r) i) (λ r e. e) rows

  -- whether the id has a row is seen by its own rows
  pub has-own : (rows : List Row) → has i (map id_in rows) ≡ has i (map id_in (own i rows))
  unfolding has own keep
  has-own [] = refl
  has-own (r ∷ rows) = by_test (eqb (id_in r) i) (λ e. rw (e, e)) (λ e. rw e (has-own rows))

-- the row of a slot is one of the slot's id
pub row_for-own : (p : Slot) (rows : List Row) → row_for p rows ≡ row_for p (own p.id rows)
unfolding own
row_for-own p rows = sym (row_for_picked (λ (k : ℕ). eqb k p.id) p rows ∙ rw (eq-eqb p.id p.id refl))

-- ---- the rows of the other ids

module _ (i : ℕ) where
  abbrev is : Row → Bool
  is r = eqb (id_in r) i

  abbrev is_other : Row → Bool
  is_other r = not (eqb (id_in r) i)

  pub length_without : (rows : List Row) → length (without i rows) ≤ length rows
  unfolding without
  length_without rows = length-keep is_other rows

  -- they and those of the id are all there are
  pub length_parts : (rows : List Row) → length (own i rows) + length (without i rows) ≡ length rows
  unfolding own without
  length_parts rows = length_both is rows

  pub sorted-without : (rows : List Row) → sorted (map slot_of rows) ≡ true → sorted (map slot_of (without i rows)) ≡ true
  unfolding without
  sorted-without rows o = sorted_picked (λ (k : ℕ). not (eqb k i)) rows o

  pub all_without : (good : Row → Bool) (rows : List Row) → all good rows ≡ true → all good (without i rows) ≡ true
  unfolding without
  all_without good rows a = all_keep is_other good rows a

  -- none of the id is among them
  pub own_gone : (rows : List Row) → own i (without i rows) ≡ []
  unfolding own without
  own_gone rows = keep_apart is is_other (λ r e. ap not e) rows

  -- all of another id are
  pub other-without : (j : ℕ) (rows : List Row) → eqb i j ≡ false → own j (without i rows) ≡ own j rows
  unfolding own without
  other-without j rows e =
      keep-within (λ (r : Row). eqb (id_in r) j) is_other
      (λ r f. ap not (by_test (is r) (λ g. clash (eq-eqb i j (sym (eqb-true (id_in r) i g) ∙ eqb-true (id_in r) j f)) e) (λ g. g))) rows

  pub own-without : (j : ℕ) (rows : List Row) → own j (without i rows) ≡ without i (own j rows)
  unfolding own without
  own-without j rows = keep-keep (λ (r : Row). eqb (id_in r) j) is_other rows

  pub row_for-without : (p : Slot) (rows : List Row) → row_for p (without i rows) ≡ cond (eqb p.id i) none (row_for p rows)
  unfolding without
  row_for-without p rows = row_for_picked (λ (k : ℕ). not (eqb k i)) p rows ∙ by_test (eqb p.id i) (λ e. rw e) (λ e. rw e)

  -- the stores of another id do to them what they would do to them alone
  pub without-put_in : (id : ℕ) (at : Position) (ks : List ℕ) (rows : List Row) → eqb id i ≡ false → sorted (map slot_of rows) ≡ true
      → without i (put_in id at ks rows) ≡ put_in id at ks (without i rows)
  unfolding without
  without-put_in id at ks rows e o = picked_put_in (λ (k : ℕ). not (eqb k i)) id at ks rows (ap not e) o

-- ---- every id's rows

-- rows in strict order are known by the rows of each id
pub own_ext : (rows more : List Row) → sorted (map slot_of rows) ≡ true → sorted (map slot_of more) ≡ true → ((i : ℕ) → own i rows ≡ own i more) → rows ≡ more
own_ext rows more o o' h = rows_ext rows more o o' (λ p. row_for-own p rows ∙ ap (row_for p) (h p.id) ∙ sym (row_for-own p more))
