-- One more row in a directory: the directory of the rows with one put in, its keys, and how many places it has.
-- Assumes nothing.
use Prim.Native.Nat.{ℕ, suc, ◌+◌, ◌≤◌, ◌<◌}
use native.Mathlib.Nat.{eq-or-lt_of_le}
use native.Mathlib.Omega.{arith}
use mathlib.Core.Path.{◌≡◌, refl, sym, ap, ap₂, ◌∙◌, subst}
use mathlib.Core.Logic.{⊎_elim}
use mathlib.Core.Bool.{Bool, true, false, cond, ◌&&◌, ◌||◌, or-true}
use mathlib.Core.List.{List, [], ◌∷◌, map}
use lib.Dec.{ltb, leb, eqb}
use lib.ListN.{length, get_or, length-map}
use borrow.Author.Tests.{ltb-true, ltb-false, lt-ltb, le-ltb, leb-true, le-leb, eqb-true, eqb-false, eq-eqb, ne_eqb}
use Rattle.basics.proofs.Bools.{by_test, clash, both, and_both}
use Rattle.basics.specs.Lists.{all, has}
use Rattle.basics.proofs.Numbers.{suc_cond}
use Rattle.table.specs.declared.Row.{Row}
use Rattle.table.specs.Rows.{Slot, slot_of, before, same, chain, sorted, held, key_in, put_row}
use Rattle.table.proofs.Order.{before-total, same-eq, chain-sorted}
use Rattle.table.proofs.First.{key-le}
use Rattle.directory.specs.declared.Entry.{Entry}
use Rattle.directory.specs.Entries.{entry, key_of, join, entries_from, directory_of}
use Rattle.directory.proofs.Entries.{entries-front}
use Rattle.directory.proofs.Meaning.{keys-ascend, ascend_at}
use Rattle.directory_insert.specs.Posts.{later, entered, found}

-- ---- a key put into a list of keys, before the first that is not lower

unfoldable put_key : ℕ → List ℕ → List ℕ
put_key k [] = k ∷ []
put_key k (j ∷ ks) = let rest = put_key k ks in cond (ltb j k) (j ∷ rest) (k ∷ j ∷ ks)

-- before keys that are not lower it goes to the front
put_front : (r : Row) (p : Slot) (rows : List Row) → key_in r ≡ p.key → chain p (map slot_of rows) ≡ true → put_key (key_in r) (map key_in rows) ≡ key_in r ∷ map key_in rows
unfolding put_key chain
put_front r p [] q e = refl
put_front r p (s ∷ rest) q e =
    let d = and_both (before p (slot_of s)) (chain (slot_of s) (map slot_of rest)) e in
    rw (le-ltb (key_in s) (key_in r) (omega (arith, key-le p (slot_of s) d.0)))

-- the keys of rows in order with a new one put in
keys_new : (r : Row) (rows : List Row) → sorted (map slot_of rows) ≡ true → held (slot_of r) (map slot_of rows) ≡ false → map key_in (put_row r rows) ≡ put_key (key_in r) (map key_in rows)
unfolding put_row put_key held sorted
keys_new r [] o h = refl
keys_new r (s ∷ rest) o h =
    by_test (before (slot_of s) (slot_of r))
    (λ b.
    let ih = keys_new r rest (chain-sorted (slot_of s) (map slot_of rest) o) (rw b at h) in
    by_test (ltb (key_in s) (key_in r)) (λ l. rw (b, l) (ap (λ (ks : List ℕ). key_in s ∷ ks) ih))
    (λ l.
    let q : key_in r ≡ key_in s = omega (arith, ltb-false (key_in s) (key_in r) l, key-le (slot_of s) (slot_of r) b) in
    rw (b, l) (ap₂ (λ (k : ℕ) (ks : List ℕ). k ∷ ks) (sym q) (ih ∙ put_front r (slot_of s) rest q o ∙ ap (λ (k : ℕ). k ∷ map key_in rest) q))))
    (λ b.
    let g : same (slot_of s) (slot_of r) ≡ false = rw b at h in
    rw (b, g, le-ltb (key_in s) (key_in r) (key-le (slot_of r) (slot_of s) (before-total (slot_of s) (slot_of r) b g))))

-- and with one stored over another
keys_old : (r : Row) (rows : List Row) → held (slot_of r) (map slot_of rows) ≡ true → map key_in (put_row r rows) ≡ map key_in rows
unfolding put_row held
keys_old r [] h = clash h refl
keys_old r (s ∷ rest) h =
    by_test (before (slot_of s) (slot_of r)) (λ b. rw b (ap (λ (ks : List ℕ). key_in s ∷ ks) (keys_old r rest (rw b at h))))
    (λ b.
    let g : same (slot_of s) (slot_of r) ≡ true = rw b at h in
    rw (b, g) (ap (λ (p : Slot). p.key ∷ map key_in rest) (sym (same-eq (slot_of s) (slot_of r) g))))

-- ---- rows that begin one later

join-later : (n k : ℕ) (es : List Entry) → join (suc n) k (map later es) ≡ map later (join n k es)
unfolding join
join-later n k [] = refl
join-later n k (e ∷ es) = by_test (eqb e.key k) (λ h. rw h) (λ h. rw h)

from-later : (n : ℕ) (ks : List ℕ) → entries_from (suc n) ks ≡ map later (entries_from n ks)
unfolding entries_from
from-later n [] = refl
from-later n (k ∷ ks) = ap (join (suc n) k) (from-later (suc n) ks) ∙ join-later n k (entries_from (suc n) ks)

-- ---- one more row of a key, entry by entry

-- a row of a lower key stands before it
join-entered : (m j k n : ℕ) (es : List Entry) → ltb j k ≡ true → join m j (entered k n es) ≡ entered k n (join m j es)
unfolding join entered
join-entered m j k n [] h = let q = ltb-true j k h in rw (h, ne_eqb k j (λ e. omega arith))
join-entered m j k n (e ∷ es) h =
    let q = ltb-true j k h in
    by_test (eqb e.key j)
    (λ g. let same_key = eqb-true e.key j g in rw (lt-ltb e.key k (omega arith), g, h))
    (λ g.
    by_test (ltb e.key k) (λ l. rw (l, g, h, l))
    (λ l. by_test (eqb e.key k) (λ u. rw (l, u, g, ne_eqb k j (λ z. omega arith), h, l, u)) (λ u. rw (l, u, g, ne_eqb k j (λ z. omega arith), h, l, u))))

-- a row that stands before all others, none of which has a lower key
before-all : (m j c k n : ℕ) (es : List Entry) → ltb j k ≡ false → join m k (map later (entry j m c ∷ es)) ≡ entered k n (entry j m c ∷ es)
unfolding join entered
before-all m j c k n es h = by_test (eqb j k) (λ g. rw (h, g)) (λ g. rw (h, g))

-- a key put in, whatever the order of the others
entries-put : (m k : ℕ) (ks : List ℕ) → entries_from m (put_key k ks) ≡ entered k (m + length ks) (entries_from m ks)
unfolding entries_from put_key
entries-put m k [] = unfold join entered in (let z : m + 0 ≡ m = omega arith in rw z)
entries-put m k (j ∷ ks) =
    by_test (ltb j k)
    (λ h.
    let far : suc m + length ks ≡ m + suc (length ks) = omega arith in
    rw h (ap (join m j) (entries-put (suc m) k ks) ∙ join-entered m j k (suc m + length ks) (entries_from (suc m) ks) h
    ∙ ap (λ (n : ℕ). entered k n (join m j (entries_from (suc m) ks))) far))
    (λ h.
    rw h (ap (join m k) (from-later m (j ∷ ks))
    ∙ subst (λ (es : List Entry). join m k (map later es) ≡ entered k (m + suc (length ks)) es) (sym (entries-front m j ks)) (before-all m j _ k (m + suc (length ks)) _ h)))

-- ---- the directory of rows with one put in

module _ (r : Row) (rows : List Row) where
  pub directory_new : sorted (map slot_of rows) ≡ true → held (slot_of r) (map slot_of rows) ≡ false → directory_of (put_row r rows) ≡ entered (key_in r) (length rows) (directory_of rows)
  unfolding directory_of
  directory_new o h =
      let m : 0 + length (map key_in rows) ≡ length rows = omega (arith, length-map rows key_in) in
      ap (entries_from 0) (keys_new r rows o h) ∙ entries-put 0 (key_in r) (map key_in rows) ∙ ap (λ (n : ℕ). entered (key_in r) n (entries_from 0 (map key_in rows))) m

  pub directory_old : held (slot_of r) (map slot_of rows) ≡ true → directory_of (put_row r rows) ≡ directory_of rows
  unfolding directory_of
  directory_old h = ap (entries_from 0) (keys_old r rows h)

-- ---- which keys have a place

found-join : (key m k : ℕ) (es : List Entry) → found key (map key_of (join m k es)) ≡ cond (ltb k key) (found key (map key_of es)) (eqb k key)
unfolding found join
found-join key m k [] = refl
found-join key m k (e ∷ es) =
    by_test (eqb e.key k)
    (λ h.
    by_test (ltb k key) (λ l. let g : ltb e.key key ≡ true = ap (λ (i : ℕ). ltb i key) (eqb-true e.key k h) ∙ l in rw (h, l, g)) (λ l. rw (h, l)))
    (λ h. rw h)

found-entries : (key m : ℕ) (ks : List ℕ) → found key (map key_of (entries_from m ks)) ≡ found key ks
unfolding found entries_from
found-entries key m [] = refl
found-entries key m (k ∷ ks) = found-join key m k (entries_from (suc m) ks) ∙ rw (found-entries key (suc m) ks)

-- rows in order have none of a key that is lower than the first
has-none : (key : ℕ) (p : Slot) (rows : List Row) → key < p.key → chain p (map slot_of rows) ≡ true → has key (map key_in rows) ≡ false
unfolding has chain
has-none key p [] h e = refl
has-none key p (s ∷ rest) h e =
    let d = and_both (before p (slot_of s)) (chain (slot_of s) (map slot_of rest)) e in
    let g : key < key_in s = omega (arith, key-le p (slot_of s) d.0) in
    rw (ne_eqb (key_in s) key (λ z. omega arith)) (has-none key (slot_of s) rest g d.1)

found-has : (key : ℕ) (rows : List Row) → sorted (map slot_of rows) ≡ true → found key (map key_in rows) ≡ has key (map key_in rows)
unfolding found has sorted
found-has key [] o = refl
found-has key (s ∷ rest) o =
    by_test (ltb (key_in s) key)
    (λ l. let q = ltb-true (key_in s) key l in rw (l, ne_eqb (key_in s) key (λ z. omega arith)) (found-has key rest (chain-sorted (slot_of s) (map slot_of rest) o)))
    (λ l.
    by_test (eqb (key_in s) key) (λ g. rw (l, g))
    (λ g. rw (l, g, has-none key (slot_of s) rest (high (key_in s) key l g) o)))
  where
    high : (k j : ℕ) → ltb k j ≡ false → eqb k j ≡ false → j < k
    high k j l g = omega (arith, ltb-false k j l, eqb-false k j g)

-- a key has a place in the directory of rows in order exactly if a row has it
pub found-directory : (key : ℕ) (rows : List Row) → sorted (map slot_of rows) ≡ true → found key (map key_of (directory_of rows)) ≡ has key (map key_in rows)
unfolding directory_of
found-directory key rows o = found-entries key 0 (map key_in rows) ∙ found-has key rows o

pub has-put : (key : ℕ) (r : Row) (rows : List Row) → has key (map key_in (put_row r rows)) ≡ (eqb (key_in r) key || has key (map key_in rows))
unfolding has put_row
has-put key r [] = refl
has-put key r (s ∷ rest) =
    by_test (before (slot_of s) (slot_of r))
    (λ b. by_test (eqb (key_in s) key) (λ g. rw (b, g, or-true)) (λ g. rw (b, g) (has-put key r rest)))
    (λ b.
    by_test (same (slot_of s) (slot_of r))
    (λ g.
    let q : key_in s ≡ key_in r = ap (λ (p : Slot). p.key) (same-eq (slot_of s) (slot_of r) g) in
    rw (b, g, q) (by_test (eqb (key_in r) key) (λ k. rw k) (λ k. rw k)))
    (λ g. rw (b, g)))

-- ---- how many places there are

pub length-entered : (k n : ℕ) (es : List Entry) → length (entered k n es) ≡ cond (found k (map key_of es)) (length es) (suc (length es))
unfolding entered found
length-entered k n [] = refl
length-entered k n (e ∷ es) =
    by_test (ltb e.key k) (λ h. rw h (ap suc (length-entered k n es) ∙ suc_cond (found k (map key_of es)) (length es) (suc (length es))))
    (λ h. by_test (eqb e.key k) (λ g. rw (h, g) (ap suc (length-map es later))) (λ g. rw (h, g) (ap (λ (i : ℕ). suc (suc i)) (length-map es later))))

pub length-directory : (r : Row) (rows : List Row) → sorted (map slot_of rows) ≡ true
    → length (directory_of (put_row r rows)) ≡ cond (has (key_in r) (map key_in rows)) (length (directory_of rows)) (suc (length (directory_of rows)))
unfolding has
length-directory r rows o =
    by_test (held (slot_of r) (map slot_of rows))
    (λ h.
    let one : (eqb (key_in r) (key_in r) || has (key_in r) (map key_in rows)) ≡ true = rw (eq-eqb (key_in r) (key_in r) refl) in
    let here : has (key_in r) (map key_in rows) ≡ true = sym (ap (has (key_in r)) (keys_old r rows h)) ∙ has-put (key_in r) r rows ∙ one in
    ap length (directory_old r rows h) ∙ rw here)
    (λ h. ap length (directory_new r rows o h) ∙ length-entered (key_in r) (length rows) (directory_of rows) ∙ rw (found-directory (key_in r) rows o))

pub directory-longer : (r : Row) (rows : List Row) → sorted (map slot_of rows) ≡ true → length (directory_of rows) ≤ length (directory_of (put_row r rows))
directory-longer r rows o =
    by_test (has (key_in r) (map key_in rows)) (λ e. omega (arith, rw e at (length-directory r rows o))) (λ e. omega (arith, rw e at (length-directory r rows o)))

-- ---- keys do not descend

pub directory_rises : (rows : List Row) → sorted (map slot_of rows) ≡ true → (i j : ℕ) → i ≤ j → j < length (directory_of rows)
    → get_or (map key_of (directory_of rows)) i 0 ≤ get_or (map key_of (directory_of rows)) j 0
directory_rises rows o i j h k =
    let js = map key_of (directory_of rows) in
    ⊎_elim (λ (e : i ≡ j). subst (λ (m : ℕ). get_or js i 0 ≤ get_or js m 0) e (omega arith))
    (λ (l : i < j). omega (arith, ascend_at js (keys-ascend rows o) i j l (omega (arith, length-map (directory_of rows) key_of)))) (eq-or-lt_of_le h)

-- ---- firsts and counts are not above the number of rows

abbrev pub within : ℕ → ℕ → Entry → Bool
within m n e = leb e.first m && leb e.count n

within-join : (m k a b : ℕ) (es : List Entry) → m ≤ a → all (within a b) es ≡ true → all (within a (suc b)) (join m k es) ≡ true
unfolding join all
within-join m k a b [] h e = both (both (le-leb m a h) (le-leb 1 (suc b) (omega arith))) refl
within-join m k a b (x ∷ es) h e =
    let d = and_both (within a b x) (all (within a b) es) e in
    let x-in = and_both (leb x.first a) (leb x.count b) d.0 in
    let c = leb-true x.count b x-in.1 in
    by_test (eqb x.key k)
    (λ g. rw g (both (both (le-leb m a h) (le-leb (suc x.count) (suc b) (omega arith))) (wider a b es d.1)))
    (λ g. rw g (both (both (le-leb m a h) (le-leb 1 (suc b) (omega arith))) (both (both x-in.0 (le-leb x.count (suc b) (omega arith))) (wider a b es d.1))))
  where
    wider : (a b : ℕ) (es : List Entry) → all (within a b) es ≡ true → all (within a (suc b)) es ≡ true
    wider a b [] e = refl
    wider a b (x ∷ es) e =
        let d = and_both (within a b x) (all (within a b) es) e in
        let y = and_both (leb x.first a) (leb x.count b) d.0 in
        both (both y.0 (le-leb x.count (suc b) (omega (arith, leb-true x.count b y.1)))) (wider a b es d.1)

within-entries : (m a : ℕ) (ks : List ℕ) → m + length ks ≤ a → all (within a (length ks)) (entries_from m ks) ≡ true
unfolding entries_from all
within-entries m a [] h = refl
within-entries m a (k ∷ ks) h = within-join m k a (length ks) (entries_from (suc m) ks) (omega arith) (within-entries (suc m) a ks (omega arith))

pub directory-within : (rows : List Row) → all (within (length rows) (length rows)) (directory_of rows) ≡ true
unfolding directory_of
directory-within rows =
    subst (λ (n : ℕ). all (within n n) (entries_from 0 (map key_in rows)) ≡ true) (length-map rows key_in) (within-entries 0 (length (map key_in rows)) (map key_in rows) (omega arith))
