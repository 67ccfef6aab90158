-- The rows of a container stand together: from the first slot of its key up to the first of the next. And one list of cells after another.
-- Assumes nothing.
use Prim.Native.Nat.{ℕ, suc, ◌+◌, ◌-◌, ◌≤◌, ◌<◌, zero-le, suc-le-suc}
use native.Mathlib.Numerals.{add-one}
use native.Mathlib.Omega.{arith}
use mathlib.Core.Path.{◌≡◌, refl, sym, ap, ◌∙◌}
use mathlib.Core.Logic.{inl, ⊎_elim}
use mathlib.Core.Bool.{Bool, true, false}
use mathlib.Core.Option as math
use Rattle.std.specs.Prelude.{Option, Some, None, slice_range}
use Rattle.std.proofs.lemmas.Slice.{between_is}
use mathlib.Core.List.{List, [], ◌∷◌, ◌++◌, map}
use lib.Dec.{eqb, ltb, leb}
use lib.ListN.{length, get_or, take, drop, length-take, length-drop}
use lib.Seq.{take-take, get_or-take, get_or-drop}
use lib.Ieee.{Float}
use borrow.Author.Tests.{ltb-true, lt-ltb, eqb-true, eqb-false, ne_eqb, leb-true, leb-false}
use Rattle.basics.proofs.Bools.{by_test, clash, and_both}
use Rattle.basics.specs.Lists.{keep}
use Rattle.basics.proofs.Lists.{length-tab, map-tab, map-take, map-drop, tab-take}
use Rattle.floats.specs.Rounded.{zero_f}
use Rattle.mesh.specs.Mesh.{Mesh}
use Rattle.mesh.specs.Cell.{contains}
use Rattle.table.specs.Rows.{Slot, slotted, before, chain, sorted, lower, lead, slot_at, slots_of}
use Rattle.table.specs.Posts.{Ordered}
use Rattle.table.proofs.Order.{Lex, before_lex, lex_before, chain-sorted, lower-le}
use Rattle.table.proofs.First.{key-le, lead-lower}
use Rattle.cell_index.specs.Steps.{Numbers}
use Rattle.cell_search.specs.declared.Found.{Found}
use Rattle.cell_search.specs.Search.{first_cell}
use Rattle.cell_search.specs.Steps.{found_of, first_found}

-- ---- the order of slots, by their keys

-- p stands before the first slot of a key exactly if its own key is lower
module _ (p : Slot) (key : ℕ) where
  lower-key : before p (slotted key 0) ≡ true → p.key < key
  unfolding Lex
  lower-key b = ⊎_elim (λ h. h) (λ h. absurd (omega arith)) (before_lex p (slotted key 0) b)

  key-lower : p.key < key → before p (slotted key 0) ≡ true
  unfolding Lex
  key-lower h = lex_before p (slotted key 0) (inl h)

  key_not_lower : key ≤ p.key → before p (slotted key 0) ≡ false
  key_not_lower h = by_test (before p (slotted key 0)) (λ e. absurd (no (lower-key e))) (λ e. e)
    where
      no : p.key < key → ⊥
      no k = omega arith

-- ---- the rows of a container

module _ (key : ℕ) where
  abbrev of_key : Slot → Bool
  of_key p = eqb p.key key

  none_kept : keep of_key [] ≡ []
  unfolding keep
  none_kept = refl

  pass : (p : Slot) (ps : List Slot) → p.key < key → keep of_key (p ∷ ps) ≡ keep of_key ps
  unfolding keep
  pass p ps l = rw (ne_eqb p.key key (λ e. omega arith))

  chain_parts : (p r : Slot) (rs : List Slot) → chain p (r ∷ rs) ≡ true → (before p r ≡ true) × (chain r rs ≡ true)
  unfolding chain
  chain_parts p r rs o = and_both (before p r) (chain r rs) o

  -- after a row of a higher key there is none
  keep-none : (q : Slot) (ps : List Slot) → chain q ps ≡ true → key < q.key → keep of_key ps ≡ []
  unfolding keep
  keep-none q [] o h = refl
  keep-none q (p ∷ ps) o h =
      let d = chain_parts q p ps o in
      let l = key-le q p d.0 in
      let k : key < p.key = omega arith in
      rw (ne_eqb p.key key (λ e. omega arith)) (keep-none p ps d.1 k)

  -- from a row of the key or a higher one on, those up to the next key
  keep-step : (p : Slot) (ps : List Slot) → chain p ps ≡ true → key ≤ p.key → keep of_key ps ≡ take (lower (slotted (suc key) 0) ps) ps
      → keep of_key (p ∷ ps) ≡ take (lower (slotted (suc key) 0) (p ∷ ps)) (p ∷ ps)
  unfolding keep lower
  keep-step p ps o k ih =
      by_test (eqb p.key key)
      (λ e. let f = eqb-true p.key key e in rw (e, key-lower p (suc key) (omega arith)) (ap (λ (r : List Slot). p ∷ r) ih))
      (λ e. let f = above p.key k (eqb-false p.key key e) in rw (e, key_not_lower p (suc key) f) (keep-none p ps o f))
    where
      above : (n : ℕ) → key ≤ n → (n ≡ key → ⊥) → key < n
      above n h f = omega arith

  keep-from : (p : Slot) (ps : List Slot) → chain p ps ≡ true → key ≤ p.key → keep of_key (p ∷ ps) ≡ take (lower (slotted (suc key) 0) (p ∷ ps)) (p ∷ ps)
  unfolding lower
  keep-from p [] o k = keep-step p [] o k none_kept
  keep-from p (r ∷ rs) o k =
      let d = chain_parts p r rs o in
      let l = key-le p r d.0 in
      keep-step p (r ∷ rs) o k (keep-from r rs d.1 (omega arith))

  keep_part : (ps : List Slot) → sorted ps ≡ true → keep of_key ps ≡ drop (lower (slotted key 0) ps) (take (lower (slotted (suc key) 0) ps) ps)
  unfolding sorted lower
  keep_part [] o = none_kept
  keep_part (p ∷ ps) o =
      by_test (before p (slotted key 0))
      (λ b. let l = lower-key p key b in rw (b, key-lower p (suc key) (omega arith)) (passed l ∙ keep_part ps (chain-sorted p ps o)))
      (λ b. rw b (keep-from p ps o (at_least b)))
    where
      at_least : before p (slotted key 0) ≡ false → key ≤ p.key
      at_least b = by_test (leb key p.key) (λ e. leb-true key p.key e) (λ e. clash (key-lower p key (leb-false key p.key e)) b)

      passed : p.key < key → keep of_key (p ∷ ps) ≡ keep of_key ps
      passed l = pass p ps l

-- rows of a key end at or after their beginning
pub lead-le : (a b : ℕ) (ks : List ℕ) → a ≤ b → lead a ks ≤ lead b ks
unfolding lead
lead-le a b [] h = omega arith
lead-le a b (k ∷ ks) h =
    by_test (ltb k a) (λ e. let l = ltb-true k a e in rw (e, lt-ltb k b (omega arith)) (suc-le-suc (lead-le a b ks h))) (λ e. rw e zero-le)

-- the same in the two lists
module _ (keys cells : List ℕ) (used key : ℕ) {from to : ℕ} (o : Ordered keys cells used) (f : from ≡ lead key (take used keys)) (t : to ≡ lead (key + 1) (take used keys)) where
  abbrev rows : List Slot
  rows = slots_of keys cells used

  lower-from : from ≡ lower (slotted key 0) rows
  lower-from = f ∙ lead-lower keys cells used key o.in_keys

  lower-to : to ≡ lower (slotted (key + 1) 0) rows
  lower-to = t ∙ lead-lower keys cells used (key + 1) o.in_keys

  pub part_end : to ≤ used
  unfolding slots_of
  part_end = omega (arith, lower-to, lower-le (slotted (key + 1) 0) rows, length-tab used (slot_at keys cells))

  pub part_cells : slice_range cells from to ≡ map (λ (p : Slot). p.id) (keep (λ (p : Slot). eqb p.key key) rows)
  unfolding slots_of
  part_cells =
      let id : Slot → ℕ = λ (p : Slot). p.id in
      let kept : keep (λ (p : Slot). eqb p.key key) rows ≡ drop from (take to rows) = keep_part key rows o.order ∙ rw (lower-from, lower-to, add-one) in
      let ids : map id rows ≡ take used cells = map-tab id used (slot_at keys cells) ∙ tab-take used cells 0 o.in_ids in
      between_is cells from to
      ∙ ap (drop from) (sym (take-take to used cells part_end) ∙ ap (take to) (sym ids) ∙ sym (map-take id to rows))
      ∙ sym (map-drop id from (take to rows))
      ∙ ap (map id) (sym kept)

-- a part of numbers of cells has such
pub part_numbers : (n : ℕ) (m : Mesh) (cells : List ℕ) (used from to : ℕ) → to ≤ used → Numbers n m (take used cells) → Numbers n m (slice_range cells from to)
part_numbers n m cells used from to h below i k =
    let long : i < to - from = omega (arith, rw (length-take, length-drop) at k) in
    let within : from + i < length cells = omega (arith, rw (length-take, length-drop) at k) in
    let e : get_or (slice_range cells from to) i 0 ≡ get_or (take used cells) (from + i) 0 =
    get_or-take (to - from) (drop from cells) i 0 long ∙ get_or-drop from cells i 0
    ∙ sym (get_or-take used cells (from + i) 0 (omega arith)) in
    rw e (below (from + i) (omega (arith, length-take used cells)))

-- ---- one list after another

module _ (p : ℕ → Bool) where
  first_left : (a b : List ℕ) (c : ℕ) → first_cell p a ≡ math.some c → first_cell p (a ++ b) ≡ math.some c
  unfolding first_cell
  first_left [] b c e = absurd (math.some-ne-none c (sym e))
  first_left (i ∷ a) b c e = by_test (p i) (λ f. rw f (rw f at e)) (λ f. rw f (first_left a b c (rw f at e)))

  first-right : (a b : List ℕ) → first_cell p a ≡ math.none → first_cell p (a ++ b) ≡ first_cell p b
  unfolding first_cell
  first-right [] b e = refl
  first-right (i ∷ a) b e = by_test (p i) (λ f. absurd (math.some-ne-none i (rw f at e))) (λ f. rw f (first-right a b (rw f at e)))

module _ (n : ℕ) (m : Mesh) (x : List Float) (a b : List ℕ) {r : Option Found} (e : r ≡ first_found n m x a) where
  abbrev p : ℕ → Bool
  p = contains n m zero_f x

  -- a cell of the first list contains the position
  pub found_first : (r ≡ None → ⊥) → r ≡ first_found n m x (a ++ b)
  unfolding first_found found_of
  found_first h = go (first_cell p a) refl
    where
      go : (o : math.Option ℕ) → first_cell p a ≡ o → r ≡ found_of n m x (first_cell p (a ++ b))
      go math.none f = absurd (h (e ∙ ap (found_of n m x) f))
      go (math.some c) f = e ∙ ap (found_of n m x) (f ∙ sym (first_left p a b c f))

  -- none does
  pub found-second : r ≡ None → {s : Option Found} → s ≡ first_found n m x b → s ≡ first_found n m x (a ++ b)
  unfolding first_found found_of
  found-second h {s} g = go (first_cell p a) refl
    where
      never : {q : Found} → None ≡ Some q → ⊥
      never f = cc

      go : (o : math.Option ℕ) → first_cell p a ≡ o → s ≡ found_of n m x (first_cell p (a ++ b))
      go math.none f = g ∙ ap (found_of n m x) (sym (first-right p a b f))
      go (math.some c) f = absurd (never (sym h ∙ e ∙ ap (found_of n m x) f))
