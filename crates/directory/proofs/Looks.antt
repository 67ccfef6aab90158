-- The look_up of a key, read by read.
-- Assumes nothing.
use Prim.Native.Nat.{ℕ, zero, suc, ◌+◌, ◌-◌, ◌/◌, ◌^◌, ◌≤◌, ◌<◌, zero-le, suc-le-suc}
use native.Mathlib.Nat.{not-suc-le-zero, le_of_suc-le-suc, add-zero, zero-add, pow-suc}
use native.Mathlib.Numerals.{add-one}
use native.Mathlib.Omega.{arith}
use mathlib.Core.Path.{◌≡◌, refl, sym, ap, ◌∙◌}
use mathlib.Core.Logic.{◌⊎◌, inl, inr}
use mathlib.Core.Bool.{Bool, true, false, cond}
use mathlib.Core.Option.{none, some, some-ne-none, some-injective}
use mathlib.Core.List.{List, [], ◌∷◌}
use lib.Dec.{ltb, eqb}
use lib.ListN.{length, get_or}
use borrow.Author.Tests.{ltb-true, ltb-false, eqb-true, eqb-false, eq-eqb, ne_eqb, lt-ltb, le-ltb}
use Rattle.basics.specs.Lists.{has}
use Rattle.basics.specs.Refusals.{is_none}
use Rattle.basics.proofs.Bools.{by_test, clash, or-true}
use Rattle.basics.proofs.Numbers.{trichotomy}
use Rattle.directory.specs.Entries.{Looked, one_more, look_among}

-- so many places fewer are left
fewer : (up : Bool) (n : ℕ) → cond up (n - n / 2) (n / 2) ≤ n
fewer true n = omega arith
fewer false n = omega arith

-- turns enough are all alike
pub turns_enough : (t u key : ℕ) (keys : List ℕ) (at n : ℕ) → n ≤ t → n ≤ u → look_among t key keys at n ≡ look_among u key keys at n
unfolding look_among
turns_enough zero zero key keys at n h k = refl
turns_enough zero (suc u) key keys at zero h k = refl
turns_enough zero (suc u) key keys at (suc n) h k = absurd (not-suc-le-zero h)
turns_enough (suc t) zero key keys at zero h k = refl
turns_enough (suc t) zero key keys at (suc n) h k = absurd (not-suc-le-zero k)
turns_enough (suc t) (suc u) key keys at zero h k = refl
turns_enough (suc t) (suc u) key keys at (suc n) h k =
    let middle = at + n / 2 in
    let up = ltb (get_or keys middle 0) key in
    let left = cond up (n - n / 2) (n / 2) in
    ap (λ (l : Looked). cond (eqb (get_or keys middle 0) key) (record { place = some middle; reads = 1 }) (one_more l))
    (turns_enough t u key keys (cond up (suc middle) at) left (omega (arith, fewer up n)) (omega (arith, fewer up n)))

-- ---- one read

-- the look_up among n places from `at` on
unfoldable pub looked : ℕ → List ℕ → ℕ → ℕ → Looked
unfolding look_among
looked key keys at n = look_among n key keys at n

module _ (key : ℕ) (keys : List ℕ) (at m : ℕ) where
  abbrev middle : ℕ
  middle = at + m / 2

  read : look_among (suc m) key keys at (suc m) ≡ cond (eqb (get_or keys middle 0) key) (record { place = some middle; reads = 1 })
      (one_more (cond (ltb (get_or keys middle 0) key) (looked key keys (suc middle) (m - m / 2)) (looked key keys at (m / 2))))
  unfolding look_among looked
  read =
      ap (λ (l : Looked). cond (eqb (get_or keys middle 0) key) (record { place = some middle; reads = 1 }) (one_more l)) (by_test (ltb (get_or keys middle 0) key) up down)
    where
      up : ltb (get_or keys middle 0) key ≡ true
          → look_among m key keys (cond (ltb (get_or keys middle 0) key) (suc middle) at) (cond (ltb (get_or keys middle 0) key) (m - m / 2) (m / 2))
          ≡ cond (ltb (get_or keys middle 0) key) (looked key keys (suc middle) (m - m / 2)) (looked key keys at (m / 2))
      up e = rw e (turns_enough m (m - m / 2) key keys (suc middle) (m - m / 2) (omega arith) (omega arith))

      down : ltb (get_or keys middle 0) key ≡ false
          → look_among m key keys (cond (ltb (get_or keys middle 0) key) (suc middle) at) (cond (ltb (get_or keys middle 0) key) (m - m / 2) (m / 2))
          ≡ cond (ltb (get_or keys middle 0) key) (looked key keys (suc middle) (m - m / 2)) (looked key keys at (m / 2))
      down e = rw e (turns_enough m (m / 2) key keys at (m / 2) (omega arith) (omega arith))

-- the middle one of n places that are left, as the code has it
abbrev pub middle_of : ℕ → ℕ → ℕ
middle_of at n = at + (n - 1) / 2

module _ (key : ℕ) (keys : List ℕ) (at : ℕ) where
  none_left : looked key keys at 0 ≡ record { place = none; reads = 0 }
  unfolding looked
  none_left = refl

  read_found : (n : ℕ) → 0 < n → get_or keys (middle_of at n) 0 ≡ key → looked key keys at n ≡ record { place = some (middle_of at n); reads = 1 }
  unfolding looked
  read_found zero h e = absurd (not-suc-le-zero h)
  read_found (suc m) h e = let q : suc m - 1 ≡ m = omega arith in rw q (read key keys at m ∙ rw (eq-eqb (get_or keys (at + m / 2) 0) key (rw q at e)))

  read_up : (n : ℕ) → 0 < n → (get_or keys (middle_of at n) 0 ≡ key → ⊥) → get_or keys (middle_of at n) 0 < key
      → looked key keys at n ≡ one_more (looked key keys (middle_of at n + 1) (n - 1 - (n - 1) / 2))
  unfolding looked
  read_up zero h e l = absurd (not-suc-le-zero h)
  read_up (suc m) h e l =
      let q : suc m - 1 ≡ m = omega arith in
      rw (q, add-one) (read key keys at m ∙ rw (ne_eqb (get_or keys (at + m / 2) 0) key (rw q at e), lt-ltb (get_or keys (at + m / 2) 0) key (rw q at l)))

  read_down : (n : ℕ) → 0 < n → (get_or keys (middle_of at n) 0 ≡ key → ⊥) → key ≤ get_or keys (middle_of at n) 0
      → looked key keys at n ≡ one_more (looked key keys at ((n - 1) / 2))
  unfolding looked
  read_down zero h e l = absurd (not-suc-le-zero h)
  read_down (suc m) h e l =
      let q : suc m - 1 ≡ m = omega arith in
      rw q (read key keys at m ∙ rw (ne_eqb (get_or keys (at + m / 2) 0) key (rw q at e), le-ltb (get_or keys (at + m / 2) 0) key (rw q at l)))

-- ---- the look_up in the code

-- so many places more were read
abbrev pub plus : ℕ → Looked → Looked
plus n l = record { place = l.place; reads = n + l.reads }

plus_one : (n : ℕ) (l : Looked) → plus n (one_more l) ≡ plus (n + 1) l
unfolding one_more
plus_one n l = let e : n + suc l.reads ≡ n + 1 + l.reads = omega arith in rw e

module _ (key : ℕ) (list : List ℕ) where
  abbrev whole : Looked
  whole = look_among (length list) key list 0 (length list)

  -- so many places were read, and n from `at` on are left
  pub record Looking (at n reads : ℕ) : Type 0 where
    pub room : at + n ≤ length list
    pub few : reads + n ≤ length list
    pub same_left : whole ≡ plus reads (looked key list at n)

  pub look-start : Looking 0 (length list) 0
  unfolding looked
  look-start = record { room = omega arith; few = omega arith; same_left = rw zero-add }

  module _ {at n reads : ℕ} (w : Looking at n reads) where
    pub look_end : n ≤ 0 → record { place = none; reads = reads } ≡ whole
    look_end h =
        let z : n ≡ 0 = omega arith in
        sym (w.same_left ∙ ap (λ (m : ℕ). plus reads (looked key list at m)) z ∙ ap (plus reads) (none_left key list at) ∙ rw add-zero)

    module _ (h : 0 < n) where
      pub look-found : get_or list (middle_of at n) 0 ≡ key → record { place = some (middle_of at n); reads = reads + 1 } ≡ whole
      look-found e = sym (w.same_left ∙ ap (plus reads) (read_found key list at n h e))

      module _ (o : get_or list (middle_of at n) 0 ≡ key → ⊥) where
        pub look_up_lem : get_or list (middle_of at n) 0 < key → Looking (middle_of at n + 1) (n - 1 - (n - 1) / 2) (reads + 1)
        look_up_lem l = record {
          room = omega (arith, w.room);
          few = omega (arith, w.few);
          same_left = w.same_left ∙ ap (plus reads) (read_up key list at n h o l) ∙ plus_one reads _;
        }

        pub look-down : key ≤ get_or list (middle_of at n) 0 → Looking at ((n - 1) / 2) (reads + 1)
        look-down l = record {
          room = omega (arith, w.room);
          few = omega (arith, w.few);
          same_left = w.same_left ∙ ap (plus reads) (read_down key list at n h o l) ∙ plus_one reads _;
        }

-- ---- how many reads

-- fewer than 2 ^ b places take at most b reads
pub few-reads : (b t key : ℕ) (keys : List ℕ) (at n : ℕ) → n < 2 ^ b → (look_among t key keys at n).reads ≤ b
unfolding look_among one_more
few-reads b zero key keys at n h = zero-le
few-reads b (suc t) key keys at zero h = zero-le
few-reads zero (suc t) key keys at (suc n) h = absurd (omega arith)
few-reads (suc b) (suc t) key keys at (suc n) h =
    let middle = at + n / 2 in
    let up = ltb (get_or keys middle 0) key in
    let ih = few-reads b t key keys (cond up (suc middle) at) (cond up (n - n / 2) (n / 2)) (half up) in
    by_test (eqb (get_or keys middle 0) key) (λ e. rw e (suc-le-suc zero-le)) (λ e. rw e (suc-le-suc ih))
  where
    half : (up : Bool) → cond up (n - n / 2) (n / 2) < 2 ^ b
    half true = omega (arith, pow-suc 2 b)
    half false = omega (arith, pow-suc 2 b)

-- ---- what is found

-- a place among the n from `at` on, that has the key
pub record FoundIn (key : ℕ) (keys : List ℕ) (at n p : ℕ) : Type 0 where
  pub least : at ≤ p
  pub most : p < at + n
  pub key-is : get_or keys p 0 ≡ key

-- the places that are left are among those that were left before
from_left : (up : Bool) (at n : ℕ) → (at ≤ cond up (suc (at + n / 2)) at) × (cond up (suc (at + n / 2)) at + cond up (n - n / 2) (n / 2) ≤ at + suc n)
from_left true at n = (omega arith, omega arith)
from_left false at n = (omega arith, omega arith)

pub found-has : (t key : ℕ) (keys : List ℕ) (at n p : ℕ) → (look_among t key keys at n).place ≡ some p → FoundIn key keys at n p
unfolding look_among one_more
found-has zero key keys at n p h = absurd (some-ne-none p (sym h))
found-has (suc t) key keys at zero p h = absurd (some-ne-none p (sym h))
found-has (suc t) key keys at (suc n) p h =
    let middle = at + n / 2 in
    let up = ltb (get_or keys middle 0) key in
    let ih = found-has t key keys (cond up (suc middle) at) (cond up (n - n / 2) (n / 2)) p in
    by_test (eqb (get_or keys middle 0) key) (λ e. here e (some-injective (at + n / 2) p (rw e at h))) (λ e. there (ih (rw e at h)))
  where
    here : eqb (get_or keys (at + n / 2) 0) key ≡ true → at + n / 2 ≡ p → FoundIn key keys at (suc n) p
    here e q = record { least = omega arith; most = omega arith; key-is = ap (λ (i : ℕ). get_or keys i 0) (sym q) ∙ eqb-true _ _ e }

    there : FoundIn key keys (cond (ltb (get_or keys (at + n / 2) 0) key) (suc (at + n / 2)) at) (cond (ltb (get_or keys (at + n / 2) 0) key) (n - n / 2) (n / 2)) p → FoundIn key keys at (suc n) p
    there f =
        let b = from_left (ltb (get_or keys (at + n / 2) 0) key) at n in
        record { least = omega (arith, f.least, b.0); most = omega (arith, f.most, b.1); key-is = f.key-is }

-- keys that ascend, by their places
abbrev pub Ascends : List ℕ → Type 0
Ascends keys = (a b : ℕ) → a < b → b < length keys → get_or keys a 0 < get_or keys b 0

-- where the middle key is lower than one that stands at i, i is past the middle, and where it is higher, before it
module _ (keys : List ℕ) (o : Ascends keys) (i middle : ℕ) (h : i < length keys) (k : middle < length keys) where
  past_middle : get_or keys middle 0 < get_or keys i 0 → middle < i
  past_middle l = go (trichotomy i middle)
    where
      go : (i < middle) ⊎ ((i ≡ middle) ⊎ (middle < i)) → middle < i
      go (inl g) = absurd (omega (arith, o i middle g k))
      go (inr (inl g)) = absurd (omega (arith, ap (λ (j : ℕ). get_or keys j 0) g))
      go (inr (inr g)) = g

pub is_found : (t key : ℕ) (keys : List ℕ) (at n : ℕ) → n ≤ t → Ascends keys → at + n ≤ length keys → (i : ℕ) → at ≤ i → i < at + n → get_or keys i 0 ≡ key
    → is_none (look_among t key keys at n).place ≡ false
unfolding look_among one_more is_none
is_found zero key keys at n h o r i l m q = absurd (omega arith)
is_found (suc t) key keys at zero h o r i l m q = absurd (omega arith)
is_found (suc t) key keys at (suc n) h o r i l m q =
    let middle = at + n / 2 in
    let above = is_found t key keys (suc middle) (n - n / 2) (omega arith) o (omega arith) i in
    let below = is_found t key keys at (n / 2) (omega arith) o (omega arith) i l in
    by_test (eqb (get_or keys middle 0) key) (λ e. rw e)
    (λ e. by_test (ltb (get_or keys middle 0) key) (λ u. rw (e, u) (above (up (ltb-true _ key u)) (omega arith) q))
    (λ u. rw (e, u) (below (down (ltb-false _ key u) (eqb-false _ key e)) q)))
  where
    up : get_or keys (at + n / 2) 0 < key → suc (at + n / 2) ≤ i
    up u = past_middle keys o i (at + n / 2) (omega arith) (omega arith) (omega arith)

    down : key ≤ get_or keys (at + n / 2) 0 → (get_or keys (at + n / 2) 0 ≡ key → ⊥) → i < at + n / 2
    down u d = past_middle keys o (at + n / 2) i (omega arith) (omega arith) (omega arith)

-- ---- a key of a list, by its place

pub record Index (key : ℕ) (keys : List ℕ) : Type 0 where
  pub at : ℕ
  pub within : at < length keys
  pub key-is : get_or keys at 0 ≡ key

pub has-index : (key : ℕ) (keys : List ℕ) → has key keys ≡ true → Index key keys
unfolding has
has-index key [] h = clash h refl
has-index key (k ∷ keys) h =
    let ih = has-index key keys in
    by_test (eqb k key) (λ e. record { at = 0; within = suc-le-suc zero-le; key-is = eqb-true k key e })
    (λ e. let r = ih (rw e at h) in record { at = suc r.at; within = suc-le-suc r.within; key-is = r.key-is })

pub index-has : (keys : List ℕ) (i : ℕ) → i < length keys → has (get_or keys i 0) keys ≡ true
unfolding has
index-has [] i h = absurd (not-suc-le-zero h)
index-has (k ∷ keys) zero h = rw (eq-eqb k k refl)
index-has (k ∷ keys) (suc i) h = or-true (eqb k (get_or keys i 0)) (index-has keys i (le_of_suc-le-suc h))
