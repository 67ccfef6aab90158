-- The entries that are left, once the rows of an id are gone, are those of the rows that are left.
-- Assumes nothing.
use Prim.Native.Nat.{ℕ, suc, ◌+◌, ◌≤◌, ◌<◌}
use native.Mathlib.Omega.{arith}
use mathlib.Core.Path.{◌≡◌, refl, sym, ap, ◌∙◌, subst}
use mathlib.Core.Bool.{true, cond}
use mathlib.Core.List.{List, [], ◌∷◌, ◌++◌, map}
use lib.Dec.{eqb}
use lib.ListN.{length, take, drop}
use borrow.Author.Tests.{eqb-true, eqb-false, ne_eqb}
use Rattle.basics.proofs.Bools.{by_test, and_both}
use Rattle.basics.specs.Lists.{keep}
use Rattle.table.specs.declared.Row.{Row}
use Rattle.table.specs.Rows.{slot_of, key_in, id_in, before, chain, sorted, without}
use Rattle.table.proofs.Order.{chain-sorted}
use Rattle.table.proofs.First.{key-le}
use Rattle.directory.specs.declared.Entry.{Entry}
use Rattle.directory.specs.Entries.{entry, join, entries_from}
use Rattle.directory.proofs.Entries.{join-same, join-other, entries-front}
use Rattle.directory_strike.specs.Posts.{others, thinned, total}

-- ---- entries whose keys ascend

-- each key is above k
abbrev pub Above : ℕ → List Entry → Type 0
Above k [] = Unit {0}
Above k (e ∷ es) = (k < e.key) × Above k es

-- each key is above those before it
abbrev pub Rise : List Entry → Type 0
Rise [] = Unit {0}
Rise (e ∷ es) = Above e.key es × Rise es

above_lower : (j k : ℕ) (es : List Entry) → j ≤ k → Above k es → Above j es
above_lower j k [] h a = tt
above_lower j k (e ∷ es) h a = (omega arith, above_lower j k es h a.1)

-- a row of a lower key has an entry of its own
join-above : (n k : ℕ) (es : List Entry) → Above k es → join n k es ≡ entry k n 1 ∷ es
join-above n k [] a = unfold join in refl
join-above n k (e ∷ es) a = join-other n k e es (ne_eqb e.key k (λ q. absurd (omega arith)))

join-rise : (n k : ℕ) (e : Entry) (es : List Entry) → k ≤ e.key → Rise (e ∷ es) → Rise (join n k (e ∷ es))
join-rise n k e es h u =
    by_test (eqb e.key k) (λ q. rw (join-same n k e es q) (subst (λ (j : ℕ). Above j es) (eqb-true e.key k q) u.0, u.1))
    (λ q. let ne = eqb-false e.key k q in rw (join-other n k e es q) ((omega arith, above_lower k e.key es h u.0), u))

-- so are those of rows in order
entries-rise : (n : ℕ) (rows : List Row) → sorted (map slot_of rows) ≡ true → Rise (entries_from n (map key_in rows))
unfolding entries_from sorted chain
entries-rise n [] o = tt
entries-rise n (r ∷ []) o = unfold join in (tt, tt)
entries-rise n (r ∷ s ∷ rows) o =
    let d = and_both (before (slot_of r) (slot_of s)) (chain (slot_of s) (map slot_of rows)) o in
    let front = entries-front (suc n) (key_in s) (map key_in rows) in
    subst (λ (es : List Entry). Rise (join n (key_in r) es)) (sym front)
    (join-rise n (key_in r) _ _ (key-le (slot_of r) (slot_of s) d.0) (subst Rise front (entries-rise (suc n) (s ∷ rows) d.1)))

-- ---- the entries that are left

thinned-above : (id n k : ℕ) (es : List Entry) (ids : List ℕ) → Above k es → Above k (thinned id n es ids)
unfolding thinned
thinned-above id n k [] ids a = tt
thinned-above id n k (e ∷ es) ids a =
    let left = others id (take e.count ids) in
    let ih = thinned-above id (n + left) k es (drop e.count ids) a.1 in
    by_test (eqb left 0) (λ q. rw q ih) (λ q. rw q (a.0, ih))

-- no more than there were
pub thinned-length : (id n : ℕ) (es : List Entry) (ids : List ℕ) → length (thinned id n es ids) ≤ length es
unfolding thinned
thinned-length id n [] ids = omega arith
thinned-length id n (e ∷ es) ids =
    let left = others id (take e.count ids) in
    let ih = thinned-length id (n + left) es (drop e.count ids) in
    by_test (eqb left 0) (λ q. rw q (omega arith)) (λ q. rw q (omega arith))

-- the first row of an entry, which another follows or not: it goes, or joins the entries that are left
module _ (id m n k i : ℕ) (ids : List ℕ) where
  abbrev Goes : List Entry → Type 0
  Goes es = thinned id m (join n k es) (i ∷ ids) ≡ cond (eqb i id) (thinned id m es ids) (join m k (thinned id (suc m) es ids))

  goes_alone : (es : List Entry) → Above k es → Goes es
  unfolding thinned others
  goes_alone es a =
      let zero_more : m + 0 ≡ m = omega arith in
      let one_more : m + 1 ≡ suc m = omega arith in
      by_test (eqb i id) (λ q. rw (join-above n k es a, q, zero_more))
      (λ q. rw (join-above n k es a, q, one_more)
      (sym (join-above m k (thinned id (suc m) es ids) (thinned-above id (suc m) k es ids a))))

  goes_along : (e : Entry) (es : List Entry) → eqb e.key k ≡ true → Above k es → Goes (e ∷ es)
  unfolding thinned others
  goes_along e es q a =
      let left = others id (take e.count ids) in
      let rest : ℕ → List Entry = λ j. thinned id j es (drop e.count ids) in
      by_test (eqb i id) (λ f. rw (join-same n k e es q, f, eqb-true e.key k q))
      (λ f. rw (join-same n k e es q, f, ne_eqb (suc left) 0 (λ z. absurd (omega arith))) (kept left rest (thinned-above id (suc m + left) k es (drop e.count ids) a)))
    where
      kept : (left : ℕ) (rest : ℕ → List Entry) → Above k (rest (suc m + left))
          → entry k m (suc left) ∷ rest (m + suc left) ≡ join m k (cond (eqb left 0) (rest (suc m + left)) (entry e.key (suc m) left ∷ rest (suc m + left)))
      kept left rest b =
          let far : m + suc left ≡ suc m + left = omega arith in
          by_test (eqb left 0) (λ z. rw (z, far) (ap (λ (c : ℕ). entry k m (suc c) ∷ rest (suc m + left)) (eqb-true left 0 z) ∙ sym (join-above m k (rest (suc m + left)) b)))
          (λ z. rw (z, far) (sym (join-same m k (entry e.key (suc m) left) (rest (suc m + left)) q)))

-- the entries begin at key k or above it
abbrev From : ℕ → List Entry → Type 0
From k [] = Unit {0}
From k (e ∷ es) = k ≤ e.key

goes : (id m n k i : ℕ) (ids : List ℕ) (es : List Entry) → From k es → Rise es → Goes id m n k i ids es
goes id m n k i ids [] h u = goes_alone id m n k i ids [] tt
goes id m n k i ids (e ∷ es) h u =
    by_test (eqb e.key k) (λ q. goes_along id m n k i ids e es q (subst (λ (j : ℕ). Above j es) (eqb-true e.key k q) u.0))
    (λ q. let ne = eqb-false e.key k q in goes_alone id m n k i ids (e ∷ es) (omega arith, above_lower k e.key es h u.0))

entries_from_lem : (n : ℕ) (r : Row) (rows : List Row) → chain (slot_of r) (map slot_of rows) ≡ true → From (key_in r) (entries_from n (map key_in rows))
unfolding chain
entries_from_lem n r [] o = unfold entries_from in tt
entries_from_lem n r (s ∷ rows) o =
    let d = and_both (before (slot_of r) (slot_of s)) (chain (slot_of s) (map slot_of rows)) o in
    subst (From (key_in r)) (sym (entries-front n (key_in s) (map key_in rows))) (key-le (slot_of r) (slot_of s) d.0)

-- The entries of rows in order, once those of an id are gone, are those of the other rows. More ids may stand behind those of the rows.
pub thinned-rows : (id m n : ℕ) (rows : List Row) (more : List ℕ) → sorted (map slot_of rows) ≡ true
    → thinned id m (entries_from n (map key_in rows)) (map id_in rows ++ more) ≡ entries_from m (map key_in (without id rows))
unfolding without keep sorted entries_from
thinned-rows id m n [] more o = unfold thinned in refl
thinned-rows id m n (r ∷ rows) more o =
    let below = chain-sorted (slot_of r) (map slot_of rows) o in
    let step = goes id m n (key_in r) (id_in r) (map id_in rows ++ more) (entries_from (suc n) (map key_in rows)) (entries_from_lem (suc n) r rows o) (entries-rise (suc n) rows below) in
    step
    ∙ by_test (eqb (id_in r) id) (λ e. rw e (thinned-rows id m (suc n) rows more below)) (λ e. rw e (ap (join m (key_in r)) (thinned-rows id (suc m) (suc n) rows more below)))

-- ---- how many rows entries count

total-join : (n k : ℕ) (es : List Entry) → total (join n k es) ≡ suc (total es)
unfolding total
total-join n k [] = unfold join in refl
total-join n k (e ∷ es) = by_test (eqb e.key k) (λ q. rw (join-same n k e es q) (omega arith)) (λ q. rw (join-other n k e es q) (omega arith))

pub total-rows : (n : ℕ) (ks : List ℕ) → total (entries_from n ks) ≡ length ks
unfolding total entries_from
total-rows n [] = refl
total-rows n (k ∷ ks) = total-join n k (entries_from (suc n) ks) ∙ ap suc (total-rows (suc n) ks)
