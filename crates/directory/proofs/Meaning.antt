-- What the entries of rows in order say: keys ascend, and each entry has the first row and the number of rows of its key.
-- Assumes nothing.
use Prim.Native.Nat.{ℕ, zero, suc, ◌+◌, ◌≤◌, ◌<◌}
use native.Mathlib.Nat.{zero-add, not-suc-le-zero, le_of_suc-le-suc}
use native.Mathlib.Omega.{arith}
use mathlib.Core.Path.{◌≡◌, refl, sym, ap, ◌∙◌, subst}
use mathlib.Core.Bool.{Bool, true, false, ◌&&◌}
use mathlib.Core.List.{List, [], ◌∷◌, map}
use lib.Dec.{ltb, leb, eqb}
use lib.ListN.{length, get_or}
use borrow.Author.Tests.{ltb-true, leb-true, le-leb, lt-ltb, le-ltb, eqb-true, eqb-false, eq-eqb, ne_eqb}
use Rattle.basics.specs.Lists.{all, keep, has}
use Rattle.basics.proofs.Bools.{by_test, both, and_both, or-true}
use Rattle.sorting.specs.Ascent.{ascending}
use Rattle.table.specs.declared.Row.{Row}
use Rattle.table.specs.Rows.{slot_of, before, chain, sorted, key_in}
use Rattle.table.proofs.First.{key-le}
use Rattle.directory.specs.declared.Entry.{Entry}
use Rattle.directory.specs.Entries.{entry, key_of, join, entries_from, directory_of}
use Rattle.directory.specs.Claims.{lower_rows, rows_within, right}
use Rattle.directory.proofs.Entries.{join-same, join-other, entries-front}

-- ---- keys that do not descend

abbrev Climbs : List ℕ → Type 0
Climbs [] = Unit {0}
Climbs (k ∷ ks) = (all (leb k) ks ≡ true) × Climbs ks

least : (i j : ℕ) (ks : List ℕ) → i ≤ j → all (leb j) ks ≡ true → all (leb i) ks ≡ true
unfolding all
least i j [] h e = refl
least i j (k ∷ ks) h e =
    let a = and_both (leb j k) _ e in
    both (le-leb i k (omega (arith, leb-true j k a.0))) (least i j ks h a.1)

climbs_behind : (r : Row) (rows : List Row) → chain (slot_of r) (map slot_of rows) ≡ true → Climbs (key_in r ∷ map key_in rows)
unfolding chain all
climbs_behind r [] e = (refl, tt)
climbs_behind r (q ∷ rows) e =
    let a = and_both (before (slot_of r) (slot_of q)) _ e in
    let ih = climbs_behind q rows a.1 in
    let h : key_in r ≤ key_in q = key-le (slot_of r) (slot_of q) a.0 in
    (both (le-leb (key_in r) (key_in q) h) (least (key_in r) (key_in q) (map key_in rows) h ih.0), ih)

climbs : (rows : List Row) → sorted (map slot_of rows) ≡ true → Climbs (map key_in rows)
unfolding sorted
climbs [] e = tt
climbs (r ∷ rows) e = climbs_behind r rows e

-- ---- how many keys are lower, and how many are the same

abbrev lower_in : ℕ → List ℕ → ℕ
lower_in key ks = length (keep (λ (k : ℕ). ltb k key) ks)

abbrev within_in : ℕ → List ℕ → ℕ
within_in key ks = length (keep (λ (k : ℕ). eqb k key) ks)

none-lower : (k : ℕ) (ks : List ℕ) → all (leb k) ks ≡ true → lower_in k ks ≡ 0
unfolding all keep
none-lower k [] e = refl
none-lower k (j ∷ ks) e = let a = and_both (leb k j) _ e in rw (le-ltb j k (leb-true k j a.0)) (none-lower k ks a.1)

none_within : (k i : ℕ) (ks : List ℕ) → k < i → all (leb i) ks ≡ true → within_in k ks ≡ 0
unfolding all keep
none_within k i [] h e = refl
none_within k i (j ∷ ks) h e =
    let a = and_both (leb i j) _ e in
    let n : j ≡ k → ⊥ = λ q. omega (arith, leb-true i j a.0) in
    rw (ne_eqb j k n) (none_within k i ks h a.1)

-- ---- entries of rows whose first is row n

unfoldable right_from : ℕ → List ℕ → Entry → Bool
unfolding keep
right_from n ks e = eqb e.first (n + lower_in e.key ks) && (eqb e.count (within_in e.key ks) && ltb 0 e.count)

record Good (n : ℕ) (ks : List ℕ) (es : List Entry) : Type 0 where
  pub ascend : ascending (map key_of es) ≡ true
  pub rights : all (right_from n ks) es ≡ true

-- an entry of a higher key is right with a row more in front
one-other : (n k : ℕ) (ks : List ℕ) (e : Entry) → k < e.key → right_from (suc n) ks e ≡ right_from n (k ∷ ks) e
unfolding right_from keep
one-other n k ks e h =
    let far : suc n + lower_in e.key ks ≡ n + suc (lower_in e.key ks) = omega arith in
    let o : k ≡ e.key → ⊥ = λ q. omega arith in
    rw (lt-ltb k e.key h, ne_eqb k e.key o, far)

others : (n k : ℕ) (ks : List ℕ) (es : List Entry) → all (λ (e : Entry). ltb k e.key) es ≡ true → all (right_from (suc n) ks) es ≡ true → all (right_from n (k ∷ ks)) es ≡ true
unfolding all
others n k ks [] h r = refl
others n k ks (e ∷ es) h r =
    let a = and_both (ltb k e.key) _ h in
    let b = and_both (right_from (suc n) ks e) _ r in
    both (sym (one-other n k ks e (ltb-true k e.key a.0)) ∙ b.0) (others n k ks es a.1 b.1)

ascend-from : (i j : ℕ) (js : List ℕ) → i < j → ascending (j ∷ js) ≡ true → ascending (i ∷ js) ≡ true
unfolding ascending
ascend-from i j [] h e = refl
ascend-from i j (k ∷ js) h e =
    let a = and_both (ltb j k) (ascending (k ∷ js)) e in
    both (lt-ltb i k (omega (arith, ltb-true j k a.0))) a.1

-- the keys behind the first are higher
higher : (k : ℕ) (es : List Entry) → ascending (k ∷ map key_of es) ≡ true → all (λ (e : Entry). ltb k e.key) es ≡ true
unfolding ascending all
higher k [] h = refl
higher k (e ∷ es) h =
    let a = and_both (ltb k e.key) (ascending (e.key ∷ map key_of es)) h in
    both a.0 (higher k es (ascend-from k e.key (map key_of es) (ltb-true k e.key a.0) a.1))

-- the entry of the first row, which is right where it counts the rows of its key
first-right : (n k c : ℕ) (ks : List ℕ) → all (leb k) ks ≡ true → c ≡ within_in k ks → right_from n (k ∷ ks) (entry k n (suc c)) ≡ true
unfolding right_from keep
first-right n k c ks h e =
    let z : n ≡ n + lower_in k ks = omega (arith, none-lower k ks h) in
    let s : suc c ≡ suc (within_in k ks) = ap suc e in
    rw (le-ltb k k (omega arith), eq-eqb k k refl)
    (both (eq-eqb n (n + lower_in k ks) z) (both (eq-eqb (suc c) (suc (within_in k ks)) s) (lt-ltb 0 (suc c) (omega arith))))

apart : {a b : ℕ} → a ≤ b → (a ≡ b → ⊥) → a < b
apart h n = omega arith

right-count : (n : ℕ) (ks : List ℕ) (e : Entry) → right_from n ks e ≡ true → e.count ≡ within_in e.key ks
unfolding right_from
right-count n ks e r =
    let a = and_both (eqb e.first (n + lower_in e.key ks)) _ r in
    eqb-true e.count (within_in e.key ks) (and_both (eqb e.count (within_in e.key ks)) _ a.1).0

good-join : (n k i : ℕ) (ks : List ℕ) (e : Entry) (es : List Entry) → Climbs (k ∷ i ∷ ks) → e.key ≡ i → Good (suc n) (i ∷ ks) (e ∷ es) → Good n (k ∷ i ∷ ks) (join n k (e ∷ es))
unfolding ascending all
good-join n k i ks e es c q g = by_test (eqb e.key k) same other
  where
    parts : (right_from (suc n) (i ∷ ks) e ≡ true) × (all (right_from (suc n) (i ∷ ks)) es ≡ true)
    parts = and_both (right_from (suc n) (i ∷ ks) e) _ g.rights

    same : eqb e.key k ≡ true → Good n (k ∷ i ∷ ks) (join n k (e ∷ es))
    same h =
        let z : e.key ≡ k = eqb-true e.key k h in
        let up : ascending (k ∷ map key_of es) ≡ true = subst (λ (m : ℕ). ascending (m ∷ map key_of es) ≡ true) z g.ascend in
        let counted : e.count ≡ within_in k (i ∷ ks) = right-count (suc n) (i ∷ ks) e parts.0 ∙ ap (λ (m : ℕ). within_in m (i ∷ ks)) z in
        rw (join-same n k e es h)
        record { ascend = up; rights = both (first-right n k e.count (i ∷ ks) c.0 counted) (others n k (i ∷ ks) es (higher k es up) parts.1) }

    other : eqb e.key k ≡ false → Good n (k ∷ i ∷ ks) (join n k (e ∷ es))
    other h =
        let m : k ≤ i = leb-true k i (and_both (leb k i) _ c.0).0 in
        let o : e.key ≡ k → ⊥ = eqb-false e.key k h in
        let l : k < i = apart m (λ z. o (q ∙ sym z)) in
        let up : ascending (k ∷ map key_of (e ∷ es)) ≡ true = both (lt-ltb k e.key (omega arith)) g.ascend in
        let alone : within_in k (i ∷ ks) ≡ 0 = none_within k i (i ∷ ks) l (both (le-leb i i (omega arith)) c.1.0) in
        rw (join-other n k e es h)
        record { ascend = up; rights = both (first-right n k 0 (i ∷ ks) c.0 (sym alone)) (others n k (i ∷ ks) (e ∷ es) (higher k (e ∷ es) up) g.rights) }

good : (n : ℕ) (ks : List ℕ) → Climbs ks → Good n ks (entries_from n ks)
unfolding entries_from ascending all
good n [] c = record { ascend = refl; rights = refl }
good n (k ∷ []) c = record { ascend = unfold join in refl; rights = unfold join keep in both (first-right n k 0 [] refl refl) refl }
good n (k ∷ i ∷ ks) c =
    let f = entries-front (suc n) i ks in
    subst (λ (es : List Entry). Good n (k ∷ i ∷ ks) (join n k es)) (sym f)
    (good-join n k i ks _ _ c refl (subst (λ (es : List Entry). Good (suc n) (i ∷ ks) es) f (good (suc n) (i ∷ ks) c.1)))

-- ---- of rows

keep-map : (p : ℕ → Bool) (rows : List Row) → length (keep p (map key_in rows)) ≡ length (keep (λ (r : Row). p (key_in r)) rows)
unfolding keep
keep-map p [] = refl
keep-map p (r ∷ rows) = let ih = keep-map p rows in by_test (p (key_in r)) (λ e. rw e (ap suc ih)) (λ e. rw e ih)

right_is : (rows : List Row) (e : Entry) → right_from 0 (map key_in rows) e ≡ right rows e
unfolding right_from right lower_rows rows_within
right_is rows e = rw (zero-add, keep-map (λ (k : ℕ). ltb k e.key) rows, keep-map (λ (k : ℕ). eqb k e.key) rows)

same_test : (p q : Entry → Bool) → ((e : Entry) → p e ≡ q e) → (es : List Entry) → all p es ≡ all q es
unfolding all
same_test p q h [] = refl
same_test p q h (e ∷ es) = rw (h e, same_test p q h es)

module _ (rows : List Row) (o : sorted (map slot_of rows) ≡ true) where
  pub keys-ascend : ascending (map key_of (directory_of rows)) ≡ true
  unfolding directory_of
  keys-ascend = (good 0 (map key_in rows) (climbs rows o)).ascend

  pub all_right : all (right rows) (directory_of rows) ≡ true
  unfolding directory_of
  all_right = sym (same_test (right_from 0 (map key_in rows)) (right rows) (right_is rows) (directory_of rows)) ∙ (good 0 (map key_in rows) (climbs rows o)).rights

-- a test that each key of the rows passes
pub all-keys : (p : ℕ → Bool) (rows : List Row) → ((k : ℕ) → has k (map key_in rows) ≡ true → p k ≡ true) → all (λ (r : Row). p (key_in r)) rows ≡ true
unfolding all has
all-keys p [] h = refl
all-keys p (r ∷ rows) h =
    both (h (key_in r) (rw (eq-eqb (key_in r) (key_in r) refl))) (all-keys p rows (λ k e. h k (or-true (eqb (key_in r) k) e)))

-- ---- keys that ascend, by their places

pub ascend_at : (js : List ℕ) → ascending js ≡ true → (a b : ℕ) → a < b → b < length js → get_or js a 0 < get_or js b 0
unfolding ascending
ascend_at [] e a b h l = absurd (not-suc-le-zero l)
ascend_at (j ∷ []) e a zero h l = absurd (not-suc-le-zero h)
ascend_at (j ∷ []) e a (suc b) h l = absurd (omega arith)
ascend_at (j ∷ k ∷ js) e a zero h l = absurd (not-suc-le-zero h)
ascend_at (j ∷ k ∷ js) e zero (suc zero) h l = ltb-true j k (and_both (ltb j k) (ascending (k ∷ js)) e).0
ascend_at (j ∷ k ∷ js) e zero (suc (suc b)) h l =
    let d = and_both (ltb j k) (ascending (k ∷ js)) e in
    let ih = ascend_at (k ∷ js) d.1 zero (suc b) (omega arith) (le_of_suc-le-suc l) in
    omega (arith, ltb-true j k d.0, ih)
ascend_at (j ∷ k ∷ js) e (suc a) (suc b) h l = ascend_at (k ∷ js) (and_both (ltb j k) (ascending (k ∷ js)) e).1 a b (le_of_suc-le-suc h) (le_of_suc-le-suc l)
