-- How long a library's text can be: at most 69 bytes for each row and 148 more.
-- Assumes nothing.
use Prim.Native.Nat.{ℕ, zero, suc, ◌+◌, ◌*◌, ◌^◌, ◌≤◌, ◌<◌}
use native.Mathlib.Omega.{arith}
use mathlib.Core.Path.{◌≡◌, refl}
use mathlib.Core.Bool.{Bool, true, cond, ◌&&◌}
use mathlib.Core.List.{List, [], ◌∷◌, map}
use lib.Dec.{ltb, eqb}
use lib.Arith.{lt_of_le-ne}
use lib.ListN.{length, get_or, length-append, length-map}
use borrow.Author.Tests.{lt-ltb, ne_eqb, ltb-true, ltb-false, eqb-true, eqb-false}
use Rattle.std.proofs.Common.{Fits, w64}
use Rattle.basics.proofs.Bools.{by_test, both, and_left, and_right}
use Rattle.basics.specs.Lists.{all, keep, enter}
use Rattle.basics.proofs.Lists.{length-tab, all-tab}
use Rattle.display.proofs.Kept.{all_by, all_weaker}
use Rattle.table.specs.Rows.{Slot, slot_at, slots_of}
use Rattle.sorting.specs.Sorted.{distinct}
use Rattle.text.specs.Text.{ascii, decimal, entry_text, entries, list_text}
use Rattle.text.proofs.Laws.{decimal_20, list_length}
use Rattle.display.specs.Display.{keys_in, ids_in, in_container, line, lines_of, summary, slots_text, most_bytes}
use Rattle.display.proofs.Texts.{line_length, named_length, summary_length, whole_length}
use Rattle.display.proofs.Runs.{above, enter-above}

-- ---- numbers ascending, once each

length-enter : (v : ℕ) (xs : List ℕ) → length (enter v xs) ≤ suc (length xs)
unfolding enter
length-enter v [] = omega arith
length-enter v (x ∷ xs) =
    let rest = length-enter v xs in
    by_test (ltb v x) (λ e. rw e (omega arith)) λ e. by_test (eqb x v) (λ f. rw (e, f) (omega arith)) λ f. rw (e, f) (omega arith)

length-distinct : (xs : List ℕ) → length (distinct xs) ≤ length xs
unfolding distinct
length-distinct [] = omega arith
length-distinct (x ∷ xs) = omega (arith, length-enter x (distinct xs), length-distinct xs)

all-enter : (p : ℕ → Bool) (v : ℕ) (xs : List ℕ) → p v ≡ true → all p xs ≡ true → all p (enter v xs) ≡ true
unfolding enter all
all-enter p v [] h e = both h refl
all-enter p v (x ∷ xs) h e =
    let rest = all-enter p v xs h (and_right (p x) (all p xs) e) in
    by_test (ltb v x) (λ f. rw f (both h e)) λ f. by_test (eqb x v) (λ g. rw (f, g) e) λ g. rw (f, g) (both (and_left (p x) (all p xs) e) rest)

all-distinct : (p : ℕ → Bool) (xs : List ℕ) → all p xs ≡ true → all p (distinct xs) ≡ true
unfolding distinct all
all-distinct p [] e = refl
all-distinct p (x ∷ xs) e = all-enter p x (distinct xs) (and_left (p x) (all p xs) e) (all-distinct p xs (and_right (p x) (all p xs) e))

unfoldable ascends : List ℕ → Bool
ascends [] = true
ascends (x ∷ xs) = all (above x) xs && ascends xs

enter_ascends : (v : ℕ) (xs : List ℕ) → ascends xs ≡ true → ascends (enter v xs) ≡ true
unfolding enter ascends all
enter_ascends v [] e = refl
enter_ascends v (x ∷ xs) e =
    let rest = enter_ascends v xs (and_right (all (above x) xs) (ascends xs) e) in
    by_test (ltb v x)
    (λ f. rw f (both (both f (all_weaker (above x) (above v) xs (λ y g. lt-ltb v y (omega (arith, ltb-true v x f, ltb-true x y g))) (and_left (all (above x) xs) (ascends xs) e))) e))
    λ f. by_test (eqb x v) (λ g. rw (f, g) e) λ g. rw (f, g)
    (both (enter-above x v xs (lt-ltb x v (lt_of_le-ne (ltb-false v x f) (eqb-false x v g))) (and_left (all (above x) xs) (ascends xs) e)) rest)

distinct_ascends : (xs : List ℕ) → ascends (distinct xs) ≡ true
unfolding distinct ascends
distinct_ascends [] = refl
distinct_ascends (x ∷ xs) = enter_ascends x (distinct xs) (distinct_ascends xs)

-- how often a number stands in a list: once at most where the list ascends
unfoldable times : ℕ → List ℕ → ℕ
times v [] = 0
times v (x ∷ xs) = let rest = times v xs in cond (eqb v x) (suc rest) rest

times_none : (v : ℕ) (xs : List ℕ) → all (above v) xs ≡ true → times v xs ≡ 0
unfolding times all
times_none v [] e = refl
times_none v (x ∷ xs) e =
    rw (ne_eqb v x (λ f. absurd (omega (arith, ltb-true v x (and_left (above v x) (all (above v) xs) e))))) (times_none v xs (and_right (above v x) (all (above v) xs) e))

times_one : (v : ℕ) (xs : List ℕ) → ascends xs ≡ true → times v xs ≤ 1
unfolding times ascends
times_one v [] e = omega arith
times_one v (x ∷ xs) e =
    by_test (eqb v x)
    (λ f. rw f (omega (arith, none f)))
    λ f. rw f (times_one v xs (and_right (all (above x) xs) (ascends xs) e))
  where
    none : eqb v x ≡ true → times v xs ≡ 0
    none f = times_none v xs (rw (eqb-true v x f) (and_left (all (above x) xs) (ascends xs) e))

-- ---- rows by containers

-- how many rows these containers have
unfoldable weigh : List Slot → List ℕ → ℕ
weigh slots [] = 0
weigh slots (k ∷ ks) = length (in_container k slots) + weigh slots ks

weigh_none : (ks : List ℕ) → weigh [] ks ≡ 0
unfolding weigh in_container keep
weigh_none [] = refl
weigh_none (k ∷ ks) = rw (weigh_none ks) (omega arith)

weigh_more : (p : Slot) (slots : List Slot) (ks : List ℕ) → weigh (p ∷ slots) ks ≡ times p.key ks + weigh slots ks
unfolding weigh in_container keep times
weigh_more p slots [] = refl
weigh_more p slots (k ∷ ks) =
    let rest = weigh_more p slots ks in
    by_test (eqb p.key k) (λ e. rw e (omega arith)) λ e. rw e (omega arith)

weigh_all : (slots : List Slot) (ks : List ℕ) → ascends ks ≡ true → weigh slots ks ≤ length slots
weigh_all [] ks e = omega (arith, weigh_none ks)
weigh_all (p ∷ slots) ks e = omega (arith, weigh_more p slots ks, times_one p.key ks e, weigh_all slots ks e)

-- ---- texts

-- a u64
abbrev pub word : ℕ → Bool
word n = ltb n (2 ^ 64)

entry_length : (i n : ℕ) → n < 2 ^ 64 → length (entry_text (ascii ", ") i n) ≤ 22
unfolding entry_text
entry_length zero n h = omega (arith, decimal_20 n h)
entry_length (suc i) n h = omega (arith, decimal_20 n h)

entries-length : (i : ℕ) (ns : List ℕ) → all word ns ≡ true → length (entries (ascii ", ") i ns) ≤ 22 * length ns
unfolding entries all
entries-length i [] e = omega arith
entries-length i (n ∷ ns) e =
    omega (
      arith,
      length-append (entry_text (ascii ", ") i n) (entries (ascii ", ") (suc i) ns),
      entry_length i n (ltb-true n (2 ^ 64) (and_left (word n) (all word ns) e)),
      entries-length (suc i) ns (and_right (word n) (all word ns) e),
    )

list_bound : (ns : List ℕ) → all word ns ≡ true → length (list_text ns) ≤ 22 * length ns + 2
list_bound ns e = omega (arith, list_length ns, entries-length 0 ns e)

-- a slot of two such numbers
abbrev pub words : Slot → Bool
words p = word p.key && word p.id

ids_words : (slots : List Slot) → all words slots ≡ true → all word (map (λ (p : Slot). p.id) slots) ≡ true
unfolding all
ids_words [] e = refl
ids_words (p ∷ slots) e =
    both (and_right (word p.key) (word p.id) (and_left (words p) (all words slots) e)) (ids_words slots (and_right (words p) (all words slots) e))

keys_words : (slots : List Slot) → all words slots ≡ true → all word (map (λ (p : Slot). p.key) slots) ≡ true
unfolding all
keys_words [] e = refl
keys_words (p ∷ slots) e =
    both (and_left (word p.key) (word p.id) (and_left (words p) (all words slots) e)) (keys_words slots (and_right (words p) (all words slots) e))

container_words : (k : ℕ) (slots : List Slot) → all words slots ≡ true → all words (in_container k slots) ≡ true
unfolding in_container keep all
container_words k [] e = refl
container_words k (p ∷ slots) e =
    let rest = container_words k slots (and_right (words p) (all words slots) e) in
    by_test (eqb p.key k) (λ f. rw f (both (and_left (words p) (all words slots) e) rest)) λ f. rw f rest

-- the ids of some slots are at most as many
ids-length : (slots : List Slot) → length (ids_in slots) ≤ length slots
unfolding ids_in
ids-length slots = omega (arith, length-distinct (map (λ (p : Slot). p.id) slots), length-map slots (λ (p : Slot). p.id))

pub keys_length : (slots : List Slot) → length (keys_in slots) ≤ length slots
unfolding keys_in
keys_length slots = omega (arith, length-distinct (map (λ (p : Slot). p.key) slots), length-map slots (λ (p : Slot). p.key))

ids_in_words : (slots : List Slot) → all words slots ≡ true → all word (ids_in slots) ≡ true
unfolding ids_in
ids_in_words slots e = all-distinct word (map (λ (p : Slot). p.id) slots) (ids_words slots e)

keys_in_words : (slots : List Slot) → all words slots ≡ true → all word (keys_in slots) ≡ true
unfolding keys_in
keys_in_words slots e = all-distinct word (map (λ (p : Slot). p.key) slots) (keys_words slots e)

keys-ascend : (slots : List Slot) → ascends (keys_in slots) ≡ true
unfolding keys_in
keys-ascend slots = distinct_ascends (map (λ (p : Slot). p.key) slots)

ids_bound : (slots : List Slot) → all words slots ≡ true → length (list_text (ids_in slots)) ≤ 22 * length slots + 2
ids_bound slots e = omega (arith, list_bound (ids_in slots) (ids_in_words slots e), ids-length slots)

module _ (slots : List Slot) (good : all words slots ≡ true) where
  lines_bound : (ks : List ℕ) → all word ks ≡ true → length (lines_of slots ks) ≤ 25 * length ks + 22 * weigh slots ks
  unfolding lines_of weigh all
  lines_bound [] e = omega arith
  lines_bound (k ∷ ks) e =
      omega (
        arith,
        length-append (line k (ids_in (in_container k slots))) (lines_of slots ks),
        line_length k (ids_in (in_container k slots)),
        decimal_20 k (ltb-true k (2 ^ 64) (and_left (word k) (all word ks) e)),
        ids_bound (in_container k slots) (container_words k slots good),
        lines_bound ks (and_right (word k) (all word ks) e),
      )

  lines-most : length (lines_of slots (keys_in slots)) ≤ 47 * length slots
  lines-most = omega (arith, lines_bound (keys_in slots) (keys_in_words slots good), keys_length slots, weigh_all slots (keys_in slots) (keys-ascend slots))

  summary-most : (divisions : List ℕ) → all word divisions ≡ true → length divisions ≤ 3 → length slots < 2 ^ 64
      → length (summary slots divisions) ≤ 22 * length slots + 148
  summary-most divisions e h l =
      omega (
        arith,
        summary_length slots divisions,
        named_length (ascii "ids") (list_text (ids_in slots)),
        named_length (ascii "nitem") (decimal (length (ids_in slots))),
        named_length (ascii "ncontainer") (decimal (length (keys_in slots))),
        named_length (ascii "ndiv") (list_text divisions),
        ids_bound slots good,
        decimal_20 (length (ids_in slots)) (omega (arith, ids-length slots)),
        decimal_20 (length (keys_in slots)) (omega (arith, keys_length slots)),
        list_bound divisions e,
      )

-- ---- the whole text

slots_words : (keys ids : List ℕ) (used : ℕ) → ((i : ℕ) → Fits w64 (get_or keys i 0)) → ((i : ℕ) → Fits w64 (get_or ids i 0)) → all words (slots_of keys ids used) ≡ true
unfolding slots_of
slots_words keys ids used h k = all-tab words used (slot_at keys ids) (λ i l. both (lt-ltb (get_or keys i 0) (2 ^ 64) (h i).fits) (lt-ltb (get_or ids i 0) (2 ^ 64) (k i).fits))

length_slots : (keys ids : List ℕ) (used : ℕ) → length (slots_of keys ids used) ≡ used
unfolding slots_of
length_slots keys ids used = length-tab used (slot_at keys ids)

-- of any few divisions, and of so many of the rows that the lists hold
pub whole_most : (divisions keys ids : List ℕ) (used : ℕ) → all word divisions ≡ true → ((i : ℕ) → Fits w64 (get_or keys i 0)) → ((i : ℕ) → Fits w64 (get_or ids i 0))
    → length divisions ≤ 3 → used ≤ 65536 → length (slots_text divisions (slots_of keys ids used)) ≤ most_bytes used
whole_most divisions keys ids used numbers h k e u =
    let slots = slots_of keys ids used in
    let good = slots_words keys ids used h k in
    let long = length_slots keys ids used in
    omega (arith, whole_length divisions slots, lines-most slots good, summary-most slots good divisions numbers e (omega (arith, long)), long)

-- of all rows
pub whole_room : (divisions keys ids : List ℕ) → ((i : ℕ) → Fits w64 (get_or divisions i 0)) → ((i : ℕ) → Fits w64 (get_or keys i 0)) → ((i : ℕ) → Fits w64 (get_or ids i 0))
    → length divisions ≤ 3 → length keys ≤ 65536 → length (slots_text divisions (slots_of keys ids (length keys))) ≤ most_bytes (length keys)
whole_room divisions keys ids w h k e u =
    whole_most divisions keys ids (length keys) (all_by word divisions 0 (λ i l. lt-ltb (get_or divisions i 0) (2 ^ 64) (w i).fits)) h k e u
