-- Keys that do not descend: where those of a container begin, what one of them says of it, and the turns of the search for it.
-- Assumes nothing.
use Prim.Native.Nat.{min, ℕ, zero, suc, ◌+◌, ◌-◌, ◌*◌, ◌≤◌, ◌<◌, zero-le, suc-le-suc}
use native.Mathlib.Omega.{arith}
use native.Mathlib.Nat.{le_of_suc-le-suc, not-suc-le-zero, eq-or-lt_of_le}
use mathlib.Core.Path.{◌≡◌, refl, sym, ap, ◌∙◌, subst}
use mathlib.Core.Logic.{⊎_elim}
use mathlib.Core.Bool.{true, and-false, or-false}
use mathlib.Core.List.{List, [], ◌∷◌, map}
use lib.Dec.{ltb}
use lib.ListN.{length, get_or, take}
use lib.Seq.{length-take-le, get_or-take}
use borrow.Author.Tests.{ltb-true, ltb-false, le-ltb, lt-ltb}
use Rattle.basics.proofs.Bools.{by_test}
use Rattle.basics.proofs.Lists.{map-tab, tab-take, get_or-any}
use Rattle.table.specs.Rows.{Slot, slotted, slot_at, slots_of, before, lower, lead}
use Rattle.table.specs.Posts.{Ordered}
use Rattle.std.specs.List.Sorted.{IsNonDecreasing}
use mir.Val.{bool_byte}
use Rattle.table.proofs.Order.{Lex, before_lex, sorted_at}

-- ---- the keys of slots in strict order do not descend

pub key-le : (p q : Slot) → before p q ≡ true → p.key ≤ q.key
unfolding Lex
key-le p q b = ⊎_elim (λ h. omega arith) (λ h. omega arith) (before_lex p q b)

pub rise : {keys ids : List ℕ} {used : ℕ} → Ordered keys ids used → (i j : ℕ) → i ≤ j → j < used → get_or keys i 0 ≤ get_or keys j 0
unfolding slots_of
rise {keys} {ids} {used} o i j h k =
    ⊎_elim (λ e. subst (λ (m : ℕ). get_or keys i 0 ≤ get_or keys m 0) e (omega arith))
    (λ l. key-le (slot_at keys ids i) (slot_at keys ids j) (sorted_at used (slot_at keys ids) o.order i j l k))
    (eq-or-lt_of_le h)

-- the first n of keys that do not descend as far as there
pub take-rising : (keys : List ℕ) (n : ℕ) → n ≤ length keys → ((i j : ℕ) → i ≤ j → j < n → get_or keys i 0 ≤ get_or keys j 0) → IsNonDecreasing (take n keys)
take-rising keys n h rise i j d g k =
    let e : length (take n keys) ≡ n = length-take-le n keys h in
    let m : j < n = omega arith in
    let l : i < n = omega arith in
    rw (get_or-take n keys i d l, get_or-take n keys j d m, get_or-any keys i d 0 (omega arith), get_or-any keys j d 0 (omega arith)) (rise i j g m)

pub rising : {keys ids : List ℕ} {used : ℕ} → Ordered keys ids used → IsNonDecreasing (take used keys)
rising {keys} {ids} {used} o = take-rising keys used o.in_keys (rise o)

-- ---- where the keys of a container begin

pub lead-most : (key : ℕ) (ks : List ℕ) → lead key ks ≤ length ks
unfolding lead
lead-most key [] = zero-le
lead-most key (k ∷ ks) = by_test (ltb k key) (λ e. rw e (suc-le-suc (lead-most key ks))) (λ e. rw e zero-le)

lead_low : (key : ℕ) (ks : List ℕ) (i : ℕ) → i < lead key ks → get_or ks i 0 < key
unfolding lead
lead_low key [] i h = absurd (not-suc-le-zero h)
lead_low key (k ∷ ks) zero h = by_test (ltb k key) (λ e. ltb-true k key e) (λ e. absurd (not-suc-le-zero (rw e at h)))
lead_low key (k ∷ ks) (suc i) h = by_test (ltb k key) (λ e. lead_low key ks i (le_of_suc-le-suc (rw e at h))) (λ e. absurd (not-suc-le-zero (rw e at h)))

lead_here : (key : ℕ) (ks : List ℕ) → lead key ks < length ks → key ≤ get_or ks (lead key ks) 0
unfolding lead
lead_here key [] h = absurd (not-suc-le-zero h)
lead_here key (k ∷ ks) h = by_test (ltb k key) (λ e. rw e (lead_here key ks (le_of_suc-le-suc (rw e at h)))) (λ e. rw e (ltb-false k key e))

-- it is where the slots that stand before (key, 0) end
lead_slots : (key : ℕ) (ps : List Slot) → lead key (map (λ (p : Slot). p.key) ps) ≡ lower (slotted key 0) ps
unfolding lead lower before
lead_slots key [] = refl
lead_slots key (p ∷ ps) = rw (le-ltb p.id 0 zero-le, and-false, or-false, lead_slots key ps)

pub lead-lower : (keys ids : List ℕ) (used key : ℕ) → used ≤ length keys → lead key (take used keys) ≡ lower (slotted key 0) (slots_of keys ids used)
unfolding slots_of
lead-lower keys ids used key h =
    ap (lead key) (sym (map-tab (λ (p : Slot). p.key) used (slot_at keys ids) ∙ tab-take used keys 0 h)) ∙ lead_slots key (slots_of keys ids used)

module _ (keys : List ℕ) (o : IsNonDecreasing keys) (key : ℕ) where
  abbrev first : ℕ
  first = lead key keys

  pub first-most : first ≤ length keys
  first-most = lead-most key keys

  -- the keys before it are lower, and those from it on are not
  pub below-first : (j : ℕ) → j < first → get_or keys j 0 < key
  below-first j h = lead_low key keys j h

  pub from_first : (j : ℕ) → first ≤ j → j < length keys → key ≤ get_or keys j 0
  from_first j h k = let l : first < length keys = omega arith in omega (arith, o first j 0 h k, lead_here key keys l)

  pub lower-first : (j : ℕ) → j < length keys → ltb (get_or keys j 0) key ≡ ltb j first
  lower-first j h =
      by_test (ltb j first) (λ e. lt-ltb _ _ (below-first j (ltb-true j first e)) ∙ sym e)
      (λ e. le-ltb _ _ (from_first j (ltb-false j first e) h) ∙ sym e)

  -- as far as the keys that were looked at go
  pub lower-next : (i : ℕ) → i < length keys → min first i + bool_byte (ltb (get_or keys i 0) key) ≡ min first (i + 1)
  lower-next i h = rw (lower-first i h) (by_test (ltb i first) (λ e. rw e (omega (arith, ltb-true i first e))) (λ e. rw e (omega (arith, ltb-false i first e))))

-- ---- the turns of the search

-- place p stands from `from` on, and no farther than n after it
pub record Window (p from n long : ℕ) : Type 0 where
  pub least : from ≤ p
  pub most : p ≤ from + n
  pub room : from + n ≤ long

-- how many of the three rows before the parts from the second on stand before it
abbrev pub part : ℕ → ℕ → ℕ → ℕ
part p from q = bool_byte (ltb (from + q - 1) p) + bool_byte (ltb (from + 2 * q - 1) p) + bool_byte (ltb (from + 3 * q - 1) p)

pub part_left : {p from n long : ℕ} (q : ℕ) → 4 * q ≤ n → 1 ≤ q → Window p from n long → Window p (from + part p from q * q) (n - 3 * q) long
part_left {p} {from} {n} {long} q h k w =
    by_test (ltb (from + q - 1) p)
    (λ a. by_test (ltb (from + 2 * q - 1) p)
    (λ b. by_test (ltb (from + 3 * q - 1) p)
    (λ c. let l = ltb-true _ _ c in rw (a, b, c) (record { least = omega arith; most = omega (arith, w.most); room = omega (arith, w.room) }))
    (λ c.
    let l = ltb-true _ _ b in
    let m = ltb-false _ _ c in
    rw (a, b, c) (record { least = omega arith; most = omega arith; room = omega (arith, w.room) })))
    (λ b.
    let l = ltb-true _ _ a in
    let m = ltb-false _ _ b in
    let third = le-ltb (from + 3 * q - 1) p (omega arith) in
    rw (a, b, third) (record { least = omega arith; most = omega arith; room = omega (arith, w.room) })))
    (λ a.
    let m = ltb-false _ _ a in
    let second = le-ltb (from + 2 * q - 1) p (omega arith) in
    let third = le-ltb (from + 3 * q - 1) p (omega arith) in
    rw (a, second, third) (record { least = omega (arith, w.least); most = omega arith; room = omega (arith, w.room) }))
