-- A test of each entry, and of each with the next, in one walk: rows, and numbers of cells.
-- Assumes nothing.
use Prim.Native.Nat.{ℕ, zero, suc, ◌+◌, ◌-◌, ◌≤◌, ◌<◌}
use native.Mathlib.Numerals.{add-one}
use native.Mathlib.Omega.{arith}
use mathlib.Core.Path.{◌≡◌, refl, sym, ap, ap₂, ◌∙◌}
use mathlib.Core.Bool.{Bool, true, false, ◌&&◌, and-true, and_assoc}
use mathlib.Core.List.{List, [], ◌∷◌}
use lib.Dec.{ltb}
use lib.ListN.{length, get_or, take, drop, drop_of_length-le}
use lib.Seq.{get_or-take, take-length}
use Rattle.std.specs.Prelude.{None}
use Rattle.std.specs.List.{slice_get}
use Rattle.std.proofs.lemmas.Option.{slice_get-get_or}
use Rattle.basics.specs.Lists.{all, tab}
use Rattle.basics.proofs.Lists.{length-tab, drop-tab, tab-take}
use Rattle.table.specs.Rows.{Slot, slotted, slot_at, before, chain, slots_of, sorted}
use Rattle.sorting.specs.Ascent.{ascending}
use Rattle.cell_index.specs.Index.{good_rows, good_numbers}

-- ---- with a flag that holds what was passed

module _ {A : Type 0} (p : A → Bool) (r : A → A → Bool) where
  unfoldable pub linked : List A → Bool
  linked [] = true
  linked (x ∷ []) = p x
  linked (x ∷ y ∷ l) = (p x && r x y) && linked (y ∷ l)

  linked_step : (n : ℕ) (f : ℕ → A) (i : ℕ) → i + 1 < n → linked (drop i (tab n f)) ≡ ((p (f i) && r (f i) (f (i + 1))) && linked (drop (i + 1) (tab n f)))
  unfolding linked
  linked_step n f i h = rw (add-one, drop-tab n f i (omega arith), drop-tab n f (suc i) (omega arith))

  pub linked_turn : (n : ℕ) (f : ℕ → A) (i : ℕ) (ok : Bool) → i + 1 < n → (ok && linked (drop i (tab n f))) ≡ ((ok && (p (f i) && r (f i) (f (i + 1)))) && linked (drop (i + 1) (tab n f)))
  linked_turn n f i ok h = rw (linked_step n f i h) (sym (and_assoc ok (p (f i) && r (f i) (f (i + 1))) (linked (drop (i + 1) (tab n f)))))

  pub linked_end : (n : ℕ) (f : ℕ → A) (i : ℕ) (ok : Bool) → i < n → n ≤ i + 1 → (ok && linked (drop i (tab n f))) ≡ (ok && p (f i))
  unfolding linked
  linked_end n f i ok h k =
      let e : length (tab n f) ≤ suc i = omega (arith, length-tab n f) in
      rw (drop-tab n f i h, drop_of_length-le (tab n f) e)

  -- such a walk judges each entry, and an order that is judged on neighbours
  pub linked_is : (s : List A → Bool) → s [] ≡ true → ((x : A) → s (x ∷ []) ≡ true) → ((x y : A) (l : List A) → s (x ∷ y ∷ l) ≡ (r x y && s (y ∷ l)))
      → (l : List A) → (all p l && s l) ≡ linked l
  unfolding linked all
  linked_is s a b c [] = rw a
  linked_is s a b c (x ∷ []) = rw (b x, and-true, and-true)
  linked_is s a b c (x ∷ y ∷ l) = rw (c x y l) (turned (p x) (r x y) (all p (y ∷ l)) (s (y ∷ l)) ∙ ap (λ (t : Bool). (p x && r x y) && t) (linked_is s a b c (y ∷ l)))
    where
      turned : (a b c d : Bool) → ((a && c) && (b && d)) ≡ ((a && b) && (c && d))
      turned false b c d = refl
      turned true false false d = refl
      turned true false true d = refl
      turned true true c d = refl

-- ---- rows

abbrev pub good_slot : ℕ → ℕ → Slot → Bool
good_slot count ncell p = ltb p.key count && ltb p.id ncell

pub rows_linked : (count ncell : ℕ) (rows : List Slot) → good_rows count ncell rows ≡ linked (good_slot count ncell) before rows
unfolding good_rows sorted chain
rows_linked count ncell rows = linked_is (good_slot count ncell) before sorted refl (λ q. refl) (λ p q l. refl) rows

pub no_rows : (count ncell : ℕ) (keys cells : List ℕ) → length keys ≡ 0 → true ≡ good_rows count ncell (slots_of keys cells (length keys))
unfolding good_rows slots_of sorted all
no_rows count ncell keys cells e = rw e

tab_same : {A : Type 0} (n : ℕ) (f g : ℕ → A) → ((i : ℕ) → i < n → f i ≡ g i) → tab n f ≡ tab n g
tab_same zero f g h = refl
tab_same (suc n) f g h = ap₂ ◌∷◌ (h 0 (omega arith)) (tab_same n (λ i. f (suc i)) (λ i. g (suc i)) (λ i k. h (suc i) (omega arith)))

-- the rows in use, as rows of lists that end with them
pub rows-used : (keys cells : List ℕ) (n : ℕ) → slots_of (take n keys) (take n cells) n ≡ slots_of keys cells n
unfolding slots_of
rows-used keys cells n = tab_same n (slot_at (take n keys) (take n cells)) (slot_at keys cells) (λ i h. ap₂ slotted (get_or-take n keys i 0 h) (get_or-take n cells i 0 h))

-- ---- numbers of cells

pub numbers_linked : (ncell : ℕ) (l : List ℕ) → good_numbers ncell l ≡ linked (λ (c : ℕ). ltb c ncell) ltb (tab (length l) (λ i. get_or l i 0))
unfolding good_numbers ascending
numbers_linked ncell l = rw (tab-take (length l) l 0 (omega arith), take-length l) (linked_is (λ (c : ℕ). ltb c ncell) ltb ascending refl (λ c. refl) (λ c d l. refl) l)

pub no_numbers : (ncell : ℕ) (l : List ℕ) → slice_get l (length l - 1) ≡ None → true ≡ good_numbers ncell l
unfolding good_numbers ascending all
no_numbers ncell [] e = refl
no_numbers ncell (c ∷ l) e =
    let f = sym (slice_get-get_or (c ∷ l) (length (c ∷ l) - 1) 0 (omega arith)) ∙ e in
    absurd (let z : ◌≡◌ {A = ℕ} 0 1 = cc in omega arith)
