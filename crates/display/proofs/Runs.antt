-- Rows in order: the rows of one container stand together, so its line is made of a run of them.
-- Assumes nothing.
use Prim.Native.Nat.{ℕ, zero, suc, ◌+◌, ◌-◌, ◌<◌}
use native.Mathlib.Numerals.{add-one}
use native.Mathlib.Omega.{arith}
use mathlib.Core.Path.{◌≡◌, refl, sym, ap, ◌∙◌}
use mathlib.Core.Bool.{Bool, true, not}
use mathlib.Core.List.{List, [], ◌∷◌, ◌++◌, map, append-nil}
use lib.Dec.{ltb, eqb}
use lib.ListN.{length, get_or, length-append, get_or-append}
use lib.Seq.{take_all, get_or-append-add}
use lib.Arith.{lt_of_le-ne}
use borrow.Author.Tests.{lt-ltb, le-ltb, eq-eqb, ne_eqb, ltb-true, eqb-true, eqb-false}
use Rattle.std.specs.List.{IsChunkByPrefix}
use Rattle.basics.proofs.Bools.{by_test, both, and_left, and_right}
use Rattle.basics.specs.Lists.{all, keep, enter}
use Rattle.basics.proofs.Lists.{all-tab, tab-take, map-tab}
use Rattle.display.proofs.Kept.{all_weaker, keep_append, keep_all, keep-none}
use Rattle.table.specs.Rows.{Slot, slotted, slot_at, slots_of, before, chain, sorted}
use Rattle.table.specs.Posts.{Ordered}
use Rattle.table.proofs.Order.{chain-sorted}
use Rattle.table.proofs.First.{rise}
use Rattle.sorting.specs.Sorted.{distinct}
use Rattle.display.specs.Display.{keys_in, ids_in, in_container, line, lines_of}

-- ---- numbers ascending, once each

abbrev pub above : ℕ → ℕ → Bool
above v x = ltb v x

enter-least : (v : ℕ) (xs : List ℕ) → all (above v) xs ≡ true → enter v xs ≡ v ∷ xs
unfolding enter all
enter-least v [] e = refl
enter-least v (x ∷ xs) e = rw (and_left (ltb v x) (all (above v) xs) e)

enter_again : (v : ℕ) (xs : List ℕ) → enter v (v ∷ xs) ≡ v ∷ xs
unfolding enter
enter_again v xs = rw (le-ltb v v (omega arith), eq-eqb v v refl)

pub enter-above : (v x : ℕ) (xs : List ℕ) → ltb v x ≡ true → all (above v) xs ≡ true → all (above v) (enter x xs) ≡ true
unfolding enter all
enter-above v x [] h e = both h refl
enter-above v x (y ∷ ys) h e =
    let first = and_left (ltb v y) (all (above v) ys) e in
    let rest = enter-above v x ys h (and_right (ltb v y) (all (above v) ys) e) in
    by_test (ltb x y) (λ f. rw f (both h e)) λ f. by_test (eqb y x) (λ g. rw (f, g) e) λ g. rw (f, g) (both first rest)

distinct-above : (v : ℕ) (xs : List ℕ) → all (above v) xs ≡ true → all (above v) (distinct xs) ≡ true
unfolding distinct all
distinct-above v [] e = refl
distinct-above v (x ∷ xs) e =
    enter-above v x (distinct xs) (and_left (ltb v x) (all (above v) xs) e) (distinct-above v xs (and_right (ltb v x) (all (above v) xs) e))

-- ---- a run of slots of one key, and slots of higher keys after it

abbrev of_key : ℕ → Slot → Bool
of_key k p = eqb p.key k

abbrev past-key : ℕ → Slot → Bool
past-key k p = ltb k p.key

keys-above : (k : ℕ) (rest : List Slot) → all (past-key k) rest ≡ true → all (above k) (map (λ (p : Slot). p.key) rest) ≡ true
unfolding all
keys-above k [] e = refl
keys-above k (p ∷ rest) e = both (and_left (past-key k p) (all (past-key k) rest) e) (keys-above k rest (and_right (past-key k p) (all (past-key k) rest) e))

module _ (k : ℕ) (rest : List Slot) (higher : all (past-key k) rest ≡ true) where
  -- the run's key comes first
  keys-run : (p : Slot) (run : List Slot) → all (of_key k) (p ∷ run) ≡ true → keys_in ((p ∷ run) ++ rest) ≡ k ∷ keys_in rest
  unfolding keys_in distinct all
  keys-run p [] e =
      rw (eqb-true p.key k (and_left (of_key k p) true e))
      (enter-least k (keys_in rest) (distinct-above k (map (λ (q : Slot). q.key) rest) (keys-above k rest higher)))
  keys-run p (q ∷ run) e =
      rw (eqb-true p.key k (and_left (of_key k p) (all (of_key k) (q ∷ run)) e), keys-run q run (and_right (of_key k p) (all (of_key k) (q ∷ run)) e))
      (enter_again k (keys_in rest))

  -- the container of the run's key has the run
  container_run : (run : List Slot) → all (of_key k) run ≡ true → in_container k (run ++ rest) ≡ run
  unfolding in_container
  container_run run e =
      keep_append (of_key k) run rest
      ∙ rw (keep_all (of_key k) run e, keep-none (of_key k) rest (all_weaker (past-key k) (λ p. not (of_key k p)) rest other higher))
      (append-nil run)
    where
      other : (p : Slot) → past-key k p ≡ true → not (of_key k p) ≡ true
      other p e = rw (ne_eqb p.key k (λ f. absurd (omega (arith, ltb-true k p.key e))))

  -- another container has nothing of it
  container_rest : (l : ℕ) (run : List Slot) → k < l → all (of_key k) run ≡ true → in_container l (run ++ rest) ≡ in_container l rest
  unfolding in_container
  container_rest l run h e =
      keep_append (of_key l) run rest
      ∙ ap (λ (m : List Slot). m ++ keep (of_key l) rest) (keep-none (of_key l) run (all_weaker (of_key k) (λ p. not (of_key l p)) run other e))
    where
      other : (p : Slot) → of_key k p ≡ true → not (of_key l p) ≡ true
      other p f = rw (ne_eqb p.key l (λ g. absurd (omega (arith, eqb-true p.key k f))))

  lines_rest : (run : List Slot) (ks : List ℕ) → all (of_key k) run ≡ true → all (above k) ks ≡ true → lines_of (run ++ rest) ks ≡ lines_of rest ks
  unfolding lines_of all
  lines_rest run [] e f = refl
  lines_rest run (l ∷ ks) e f =
      rw (container_rest l run (ltb-true k l (and_left (ltb k l) (all (above k) ks) f)) e, lines_rest run ks e (and_right (ltb k l) (all (above k) ks) f))

ids-ascend : (p q : Slot) → before p q ≡ true → p.key ≡ q.key → ltb p.id q.id ≡ true
unfolding before
ids-ascend p q b e = rw (le-ltb p.key q.key (omega arith), eq-eqb p.key q.key e) at b

enter-first : (v x : ℕ) (xs : List ℕ) → ltb v x ≡ true → enter v (x ∷ xs) ≡ v ∷ x ∷ xs
unfolding enter
enter-first v x xs e = rw e

-- slots of one key in order: their ids ascend, once each
ids-run : (k : ℕ) (p : Slot) (ps : List Slot) → all (of_key k) (p ∷ ps) ≡ true → chain p ps ≡ true → ids_in (p ∷ ps) ≡ map (λ (q : Slot). q.id) (p ∷ ps)
unfolding ids_in distinct all chain
ids-run k p [] e c = one
  where
    one : enter p.id [] ≡ p.id ∷ []
    one = enter-least p.id [] refl
ids-run k p (q ∷ ps) e c =
    let others = and_right (of_key k p) (all (of_key k) (q ∷ ps)) e in
    let same : p.key ≡ q.key = eqb-true p.key k (and_left (of_key k p) (all (of_key k) (q ∷ ps)) e) ∙ sym (eqb-true q.key k (and_left (of_key k q) (all (of_key k) ps) others)) in
    rw (ids-run k q ps others (and_right (before p q) (chain q ps) c))
    (enter-first p.id q.id (map (λ (r : Slot). r.id) ps) (ids-ascend p q (and_left (before p q) (chain q ps) c) same))

lines_cons : (slots : List Slot) (k : ℕ) (ks : List ℕ) → lines_of slots (k ∷ ks) ≡ line k (ids_in (in_container k slots)) ++ lines_of slots ks
unfolding lines_of
lines_cons slots k ks = refl

above-keys : (k : ℕ) (rest : List Slot) → all (past-key k) rest ≡ true → all (above k) (keys_in rest) ≡ true
unfolding keys_in
above-keys k rest e = distinct-above k (map (λ (p : Slot). p.key) rest) (keys-above k rest e)

-- ---- the lines and the keys of a run and what follows it

module _ (k : ℕ) (p : Slot) (run rest : List Slot) (same : all (of_key k) (p ∷ run) ≡ true) (higher : all (past-key k) rest ≡ true) where
  pub run-keys : length (keys_in ((p ∷ run) ++ rest)) ≡ suc (length (keys_in rest))
  run-keys = ap length (keys-run k rest higher p run same)

  pub run-lines : chain p run ≡ true
      → lines_of ((p ∷ run) ++ rest) (keys_in ((p ∷ run) ++ rest)) ≡ line k (map (λ (q : Slot). q.id) (p ∷ run)) ++ lines_of rest (keys_in rest)
  run-lines c =
      rw (
        keys-run k rest higher p run same,
        lines_cons ((p ∷ run) ++ rest) k (keys_in rest),
        container_run k rest higher (p ∷ run) same,
        ids-run k p run same c,
        lines_rest k rest higher (p ∷ run) (keys_in rest) same (above-keys k rest higher),
      )

-- ---- keys and ids side by side

abbrev pub pairs : List ℕ → List ℕ → List Slot
pairs keys ids = slots_of keys ids (length keys)

pairs_append : (run front keys ids : List ℕ) → length front ≡ length run → pairs (run ++ keys) (front ++ ids) ≡ pairs run front ++ pairs keys ids
unfolding slots_of
pairs_append [] [] keys ids e = refl
pairs_append [] (i ∷ front) keys ids e = absurd (omega arith)
pairs_append (k ∷ run) [] keys ids e = absurd (omega arith)
pairs_append (k ∷ run) (i ∷ front) keys ids e = ap (λ (l : List Slot). slotted k i ∷ l) (pairs_append run front keys ids (omega arith))

pub pairs_ids : (keys ids : List ℕ) → length keys ≡ length ids → map (λ (q : Slot). q.id) (pairs keys ids) ≡ ids
unfolding slots_of
pairs_ids keys ids e =
    map-tab (λ (q : Slot). q.id) (length keys) (slot_at keys ids) ∙ tab-take (length keys) ids 0 (omega arith) ∙ take_all (length keys) ids (omega arith)

-- a test of each key is one of each slot
pairs_all : (p : Slot → Bool) (keys ids : List ℕ) → ((j : ℕ) → j < length keys → p (slot_at keys ids j) ≡ true) → all p (pairs keys ids) ≡ true
unfolding slots_of
pairs_all p keys ids h = all-tab p (length keys) (slot_at keys ids) h

-- ---- the front and the back of slots in order

sorted_tail : (p : Slot) (l : List Slot) → sorted (p ∷ l) ≡ true → sorted l ≡ true
unfolding sorted
sorted_tail p l e = chain-sorted p l e

sorted_after : (a b : List Slot) → sorted (a ++ b) ≡ true → sorted b ≡ true
sorted_after [] b e = e
sorted_after (p ∷ a) b e = sorted_after a b (sorted_tail p (a ++ b) e)

chain-front : (p : Slot) (a b : List Slot) → chain p (a ++ b) ≡ true → chain p a ≡ true
unfolding chain
chain-front p [] b e = refl
chain-front p (q ∷ a) b e = both (and_left (before p q) (chain q (a ++ b)) e) (chain-front q a b (and_right (before p q) (chain q (a ++ b)) e))

-- ---- keys of one container, and what follows them

module _ (k : ℕ) (run keys : List ℕ) (i : ℕ) (front ids : List ℕ) (e : length front ≡ length run)
    (o : Ordered ((k ∷ run) ++ keys) ((i ∷ front) ++ ids) (length ((k ∷ run) ++ keys))) (p : IsChunkByPrefix eqb ((k ∷ run) ++ keys) (suc (length run))) where
  abbrev all_keys : List ℕ
  all_keys = (k ∷ run) ++ keys

  parts : pairs all_keys ((i ∷ front) ++ ids) ≡ (slotted k i ∷ pairs run front) ++ pairs keys ids
  unfolding slots_of
  parts = pairs_append (k ∷ run) (i ∷ front) keys ids (omega arith)

  -- the keys of the run are one key
  one_key : (j : ℕ) → j < suc (length run) → get_or all_keys j 0 ≡ k
  one_key zero h = refl
  one_key (suc j) h =
      let next : get_or all_keys j 0 ≡ get_or all_keys (j + 1) 0 = eqb-true (get_or all_keys j 0) (get_or all_keys (j + 1) 0) (p.0 j 0 (omega arith)) in
      ap (λ (n : ℕ). get_or all_keys n 0) (sym (add-one j)) ∙ sym next ∙ one_key j (omega arith)

  of_one : all (of_key k) (slotted k i ∷ pairs run front) ≡ true
  unfolding all
  of_one = both (eq-eqb k k refl) (pairs_all (of_key k) run front (λ j h. eq-eqb (get_or run j 0) k (sym (get_or-append run keys 0 j h) ∙ one_key (suc j) (omega arith))))

  -- those that follow are higher
  past_one : all (past-key k) (pairs keys ids) ≡ true
  past_one = pairs_all (past-key k) keys ids (λ j h. lt-ltb k (get_or keys j 0) (omega (arith, higher j h)))
    where
      long : length all_keys ≡ suc (length run) + length keys
      long = length-append (k ∷ run) keys

      higher : (j : ℕ) → j < length keys → k < get_or keys j 0
      higher j h =
          let n : ℕ = suc (length run) in
          let last : get_or all_keys (n - 1) 0 ≡ k = one_key (n - 1) (omega arith) in
          let other = eqb-false (get_or all_keys (n - 1) 0) (get_or all_keys n 0) (p.1 (omega (arith, long)) 0) in
          let up = rise o (n - 1) n (omega arith) (omega (arith, long)) in
          let on = rise o n (n + j) (omega arith) (omega (arith, long)) in
          let there : get_or all_keys (n + j) 0 ≡ get_or keys j 0 = get_or-append-add (k ∷ run) keys j 0 in
          omega (arith, lt_of_le-ne up other)

  in_order : sorted ((slotted k i ∷ pairs run front) ++ pairs keys ids) ≡ true
  in_order = rw (← parts) o.order

  chained : chain (slotted k i) (pairs run front) ≡ true
  chained = chain-front (slotted k i) (pairs run front) (pairs keys ids) (unfold sorted in in_order)

  ids_are : map (λ (q : Slot). q.id) (slotted k i ∷ pairs run front) ≡ i ∷ front
  ids_are = ap (λ (l : List ℕ). i ∷ l) (pairs_ids run front (sym e))

  pub lines_turn : lines_of (pairs all_keys ((i ∷ front) ++ ids)) (keys_in (pairs all_keys ((i ∷ front) ++ ids))) ≡ line k (i ∷ front) ++ lines_of (pairs keys ids) (keys_in (pairs keys ids))
  lines_turn = rw (parts, run-lines k (slotted k i) (pairs run front) (pairs keys ids) of_one past_one chained, ids_are)

  pub keys_turn : length (keys_in (pairs all_keys ((i ∷ front) ++ ids))) ≡ suc (length (keys_in (pairs keys ids)))
  keys_turn = rw parts (run-keys k (slotted k i) (pairs run front) (pairs keys ids) of_one past_one)

  pub others : Ordered keys ids (length keys)
  others = record {
    in_keys = omega arith;
    in_ids = omega (arith, o.in_ids, length-append (k ∷ run) keys, length-append (i ∷ front) ids);
    order = sorted_after (slotted k i ∷ pairs run front) (pairs keys ids) in_order;
  }
