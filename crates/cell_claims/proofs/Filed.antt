-- The rows and the large cells of an index that the build wrote: in order, with keys of its containers and cells of its mesh.
-- Assumes nothing.
use Prim.Native.Nat.{ℕ, zero, suc, ◌+◌, ◌/◌, ◌^◌, ◌≤◌, ◌<◌}
use native.Mathlib.Omega.{arith}
use mathlib.Core.Path.{◌≡◌, refl, sym, ap, ◌∙◌}
use mathlib.Core.Bool.{Bool, true, false, cond}
use mathlib.Core.List.{List, [], ◌∷◌, ◌++◌, map}
use lib.Dec.{ltb}
use lib.ListN.{length, drop}
use lib.Ieee.{Float}
use borrow.Author.Tests.{lt-ltb}
use Rattle.basics.proofs.Bools.{by_test, both, and_both, or_left, or_right}
use Rattle.basics.specs.Lists.{all, any, zip_with, tab, over}
use Rattle.geometry.specs.Position.{coords, box_corner}
use Rattle.grid.specs.Divisions.{counts, division}
use Rattle.grid.specs.Containers.{ratios, containers}
use Rattle.grid.proofs.Keys.{key_below}
use Rattle.mesh.specs.Mesh.{Box}
use Rattle.table.specs.Rows.{Slot, slotted, before, same, chain, sorted, slot_at, slots_of}
use Rattle.table.proofs.Order.{before-total}
use Rattle.cell_sizes.specs.Large.{numbered}
use Rattle.cell_rows.specs.declared.Containers.{Containers}
use Rattle.cell_rows.specs.Filing.{cell_key, cell_exceeds, box_corners, enter_slot, file_cell, file_cells, box_exceeds}
use Rattle.sorting.specs.Ascent.{ascending}
use Rattle.cell_claims.proofs.Boxes.{Each, Good}

-- ---- a slot entered among slots in order
enter-chain : (o p : Slot) (rows : List Slot) → before o p ≡ true → chain o rows ≡ true → chain o (enter_slot p rows) ≡ true
unfolding enter_slot chain
enter-chain o p [] h k = rw h
enter-chain o p (q ∷ qs) h k =
    let j = and_both (before o q) (chain q qs) k in
    let ih : before q p ≡ true → chain q (enter_slot p qs) ≡ true = λ e. enter-chain q p qs e j.1 in
    by_test (before q p) (λ e. rw (e, j.0, ih e))
    (λ e. by_test (same q p) (λ f. rw (e, f) k) (λ f. rw (e, f, h, before-total q p e f, j.1)))

enter-sorted : (p : Slot) (rows : List Slot) → sorted rows ≡ true → sorted (enter_slot p rows) ≡ true
unfolding enter_slot sorted chain
enter-sorted p [] k = refl
enter-sorted p (q ∷ qs) k =
    by_test (before q p) (λ e. rw e (enter-chain q p qs e k))
    (λ e. by_test (same q p) (λ f. rw (e, f) k) (λ f. rw (e, f, before-total q p e f) k))

module _ (g : Slot → Bool) where
  enter-all : (p : Slot) (rows : List Slot) → g p ≡ true → all g rows ≡ true → all g (enter_slot p rows) ≡ true
  unfolding enter_slot all
  enter-all p [] h k = rw h
  enter-all p (q ∷ qs) h k =
      let j = and_both (g q) (all g qs) k in
      let ih = enter-all p qs h j.1 in
      by_test (before q p) (λ e. rw (e, j.0) ih)
      (λ e. by_test (same q p) (λ f. rw (e, f) k) (λ f. rw (e, f, h) k))

-- ---- rows that are in order, and each of them good
pub record RowsGood (g : Slot → Bool) (rows : List Slot) : Type 0 where
  pub order : sorted rows ≡ true
  pub good : all g rows ≡ true

pub none_filed : (g : Slot → Bool) → RowsGood g []
unfolding sorted all
none_filed g = record { order = refl; good = refl }

module _ (g : Slot → Bool) (w : Containers) where
  cell_filed : (c : ℕ) (xs : List (List Float)) (rows : List Slot) → Each (λ (x : List Float). g (slotted (cell_key w x) c) ≡ true) xs → RowsGood g rows → RowsGood g (file_cell w c xs rows)
  unfolding file_cell
  cell_filed c [] rows h f = f
  cell_filed c (x ∷ xs) rows h f =
      cell_filed c xs (enter_slot (slotted (cell_key w x) c) rows) h.1
      (record { order = enter-sorted (slotted (cell_key w x) c) rows f.order; good = enter-all g (slotted (cell_key w x) c) rows h.0 f.good })

  pub cells_filed : (p : Box → Bool) (c : ℕ) (bs : List Box) (rows : List Slot)
      → ((i : ℕ) → c ≤ i → i < c + length bs → Each (λ (b : Box). p b ≡ true → Each (λ (x : List Float). g (slotted (cell_key w x) i) ≡ true) (box_corners b)) bs)
      → RowsGood g rows → RowsGood g (file_cells w p c bs rows)
  unfolding file_cells
  cells_filed p c [] rows h f = f
  cells_filed p c (b ∷ bs) rows h f =
      cells_filed p (suc c) bs (cond (p b) (file_cell w c (box_corners b) rows) rows) (λ i k l. (h i (omega arith) (omega arith)).1)
      (by_test (p b) (λ e. rw e (cell_filed c (box_corners b) rows ((h c (omega arith) (omega arith)).0 e) f)) (λ e. rw e f))

-- ---- the keys of a box's corners
pub any_none : {A : Type 0} (p : A → Bool) (xs : List A) → any p xs ≡ false → Each (λ (x : A). p x ≡ false) xs
unfolding any
any_none p [] h = tt
any_none p (x ∷ xs) h = (or_left (p x) (any p xs) h, any_none p xs (or_right (p x) (any p xs) h))

corner-length : (lo hi : List Float) (c : ℕ) → length hi ≡ length lo → length (box_corner lo hi c) ≡ length lo
unfolding box_corner
corner-length [] hi c e = refl
corner-length (a ∷ lo) [] c e = absurd (omega arith)
corner-length (a ∷ lo) (b ∷ hi) c e = ap suc (corner-length lo hi (c / 2) (omega arith))

zip_length : (f : Float → Float → ℕ) (x y : List Float) → length x ≡ length y → length (zip_with f x y) ≡ length x
unfolding zip_with
zip_length f [] y e = refl
zip_length f (a ∷ x) [] e = absurd (omega arith)
zip_length f (a ∷ x) (b ∷ y) e = ap suc (zip_length f x y (omega arith))

each_tab_with : {A : Type 0} (P Q : A → Type 0) (n : ℕ) (f : ℕ → A) → ((i : ℕ) → P (f i) → Q (f i)) → Each P (tab n f) → Each Q (tab n f)
each_tab_with P Q zero f g h = tt
each_tab_with P Q (suc n) f g h = (g 0 h.0, each_tab_with P Q n (λ i. f (suc i)) (λ i. g (suc i)) h.1)

pub corner-keys : (w : Containers) (b : Box) → Good w.ndim b → length (counts w.ndim w.ndiv) ≡ w.ndim → length (coords w.ndim w.xmin) ≡ w.ndim
    → all division (counts w.ndim w.ndiv) ≡ true → box_exceeds w b ≡ false
    → Each (λ (x : List Float). ltb (cell_key w x) (containers (counts w.ndim w.ndiv)) ≡ true) (box_corners b)
unfolding box_exceeds box_corners cell_key cell_exceeds ratios
corner-keys w b g cl xl d o =
    let n = w.ndim in
    let ns = counts n w.ndiv in
    let xmin = coords n w.xmin in
    each_tab_with (λ (x : List Float). cell_exceeds w x ≡ false) (λ (x : List Float). ltb (cell_key w x) (containers ns) ≡ true) (2 ^ length b.low) (box_corner b.low b.high)
    (λ i h.
    let x = box_corner b.low b.high i in
    let e : length x ≡ n = corner-length b.low b.high i (g.high.long ∙ sym g.low.long) ∙ g.low.long in
    lt-ltb (cell_key w x) (containers ns)
    (key_below ns w.side_length xmin x (zip_length _ x xmin (e ∙ sym xl) ∙ e ∙ sym cl) d h))
    (any_none (cell_exceeds w) (box_corners b) o)

-- ---- the large cells
abbrev Up : ℕ → List ℕ → Type 0
Up k [] = Unit {0}
Up k (j ∷ js) = (k ≤ j) × Up (suc j) js

up_from : (k : ℕ) (js : List ℕ) → Up (suc k) js → Up k js
up_from k [] h = tt
up_from k (j ∷ js) h = (omega (arith, h.0), h.1)

numbered-up : (p : Box → Bool) (i : ℕ) (bs : List Box) → Up i (numbered p i bs)
unfolding numbered
numbered-up p i [] = tt
numbered-up p i (b ∷ bs) = let rest = numbered-up p (suc i) bs in by_test (p b) (λ e. rw e (omega arith, rest)) (λ e. rw e (up_from i (numbered p (suc i) bs) rest))

up-ascending : (k : ℕ) (js : List ℕ) → Up k js → ascending js ≡ true
unfolding ascending
up-ascending k [] h = refl
up-ascending k (j ∷ []) h = refl
up-ascending k (j ∷ i ∷ js) h = both (lt-ltb j i (omega (arith, h.1.0))) (up-ascending (suc j) (i ∷ js) h.1)

pub numbered-ascending : (p : Box → Bool) (i : ℕ) (bs : List Box) → ascending (numbered p i bs) ≡ true
numbered-ascending p i bs = up-ascending i (numbered p i bs) (numbered-up p i bs)

pub numbered_below : (n : ℕ) (p : Box → Bool) (i : ℕ) (bs : List Box) → i + length bs ≤ n → all (λ (c : ℕ). ltb c n) (numbered p i bs) ≡ true
unfolding numbered all
numbered_below n p i [] h = refl
numbered_below n p i (b ∷ bs) h =
    let rest = numbered_below n p (suc i) bs (omega arith) in
    by_test (p b) (λ e. rw e (both (lt-ltb i n (omega arith)) rest)) (λ e. rw e rest)

-- ---- what is read back
pub read_back : (rows : List Slot) (keys cells : List ℕ) → slots_of (over (map (λ (p : Slot). p.key) rows) keys) (over (map (λ (p : Slot). p.id) rows) cells) (length rows) ≡ rows
unfolding slots_of over
read_back rows keys cells = go rows (drop (length (map (λ (p : Slot). p.key) rows)) keys) (drop (length (map (λ (p : Slot). p.id) rows)) cells)
  where
    go : (rows : List Slot) (a b : List ℕ) → tab (length rows) (slot_at (map (λ (p : Slot). p.key) rows ++ a) (map (λ (p : Slot). p.id) rows ++ b)) ≡ rows
    go [] a b = refl
    go (p ∷ rows) a b = ap (λ (l : List Slot). p ∷ l) (go rows a b)
