-- The rows of a build as one number each: entered one after the other, or written cell by cell and sorted, they are the same.
-- Assumes nothing.
use Prim.Native.Nat.{ℕ, suc, ◌+◌, ◌≤◌, ◌<◌}
use native.Mathlib.Nat.{not-suc-le-zero}
use native.Mathlib.Omega.{arith}
use mathlib.Core.Path.{◌≡◌, refl, sym, ap, ap₂, ◌∙◌, subst}
use mathlib.Core.Logic.{◌⊎◌, inl, inr}
use mathlib.Core.Bool.{Bool, true, false, cond, false≢true}
use mathlib.Core.List.{List, [], ◌∷◌, map, map-append}
use lib.Dec.{ltb, eqb}
use lib.ListN.{length, length-map}
use lib.Ieee.{Float}
use borrow.Author.Tests.{ltb-true, eqb-true, eqb-false, lt-ltb, le-ltb, eq-eqb, ne_eqb}
use Rattle.basics.proofs.Bools.{which, or_left, or_right, by_test, both, and_left, and_right}
use Rattle.basics.specs.Lists.{all, has, enter}
use Rattle.table.specs.Rows.{Slot, slotted, before, same}
use Rattle.table.proofs.Order.{Lex, before_lex, before-total, same-eq}
use Rattle.sorting.specs.Sorted.{sorted_of}
use Rattle.sorting.proofs.Counts.{count, hit, count-cons, count-append, hit_same}
use Rattle.sorting.proofs.Orders.{ListSorted, length-sorted}
use Rattle.mesh.specs.Mesh.{Box}
use Rattle.cell_rows.specs.declared.Containers.{Containers}
use Rattle.cell_rows.specs.Filing.{cell_key, box_corners, enter_slot, file_cell, file_cells}
use Rattle.cell_rows.specs.Steps.{join_once, once, box_keys, filed_keys, pack, packed_key, packed_cell, packed_rows}
use Rattle.cell_rows.proofs.Entered.{entered, enter_there, ascending-entered, entered-append, entered-has, entered-none, hit_other}

-- ---- slots as numbers

abbrev packed : Slot → ℕ
packed p = pack p.id p.key

abbrev small : Slot → Bool
small p = ltb p.id 65536

ahead : (p q : Slot) → p.id < 65536 → before p q ≡ true → packed p < packed q
unfolding Lex
ahead p q h e = go (before_lex p q e)
  where
    go : (p.key < q.key) ⊎ ((p.key ≡ q.key) × (p.id < q.id)) → packed p < packed q
    go (inl k) = omega arith
    go (inr k) = omega arith

packed_enter : (p : Slot) (rows : List Slot) → p.id < 65536 → all small rows ≡ true → map packed (enter_slot p rows) ≡ enter (packed p) (map packed rows)
unfolding enter_slot enter all
packed_enter p [] h s = refl
packed_enter p (q ∷ qs) h s = go (packed_enter p qs h (and_right (small q) (all small qs) s))
  where
    low : q.id < 65536
    low = ltb-true q.id 65536 (and_left (small q) (all small qs) s)

    go : map packed (enter_slot p qs) ≡ enter (packed p) (map packed qs) → map packed (enter_slot p (q ∷ qs)) ≡ enter (packed p) (map packed (q ∷ qs))
    go ih =
        by_test (before q p)
        (λ e. let k : packed q < packed p = ahead q p low e in rw (e, le-ltb (packed p) (packed q) (omega arith), ne_eqb (packed q) (packed p) (λ f. absurd (omega arith)), ih))
        (λ e.
        by_test (same q p) (λ f. let k : packed q ≡ packed p = ap packed (same-eq q p f) in rw (e, f, le-ltb (packed p) (packed q) (omega arith), eq-eqb (packed q) (packed p) k))
        (λ f. let k : packed p < packed q = ahead p q h (before-total q p e f) in rw (e, f, lt-ltb (packed p) (packed q) k)))

small-enter : (p : Slot) (rows : List Slot) → p.id < 65536 → all small rows ≡ true → all small (enter_slot p rows) ≡ true
unfolding enter_slot all
small-enter p [] h s = both (lt-ltb p.id 65536 h) refl
small-enter p (q ∷ qs) h s = go (small-enter p qs h (and_right (small q) (all small qs) s))
  where
    go : all small (enter_slot p qs) ≡ true → all small (enter_slot p (q ∷ qs)) ≡ true
    go ih =
        by_test (before q p) (λ e. rw e (both (and_left (small q) (all small qs) s) ih))
        (λ e. by_test (same q p) (λ f. rw (e, f) s) (λ f. rw (e, f) (both (lt-ltb p.id 65536 h) s)))

module _ (g : Containers) where
  packed_file : (c : ℕ) (xs : List (List Float)) (rows : List Slot) → c < 65536 → all small rows ≡ true
      → map packed (file_cell g c xs rows) ≡ entered (map (pack c) (map (cell_key g) xs)) (map packed rows)
  unfolding file_cell entered
  packed_file c [] rows h s = refl
  packed_file c (x ∷ xs) rows h s =
      packed_file c xs (enter_slot (slotted (cell_key g x) c) rows) h (small-enter (slotted (cell_key g x) c) rows h s)
      ∙ ap (entered (map (pack c) (map (cell_key g) xs))) (packed_enter (slotted (cell_key g x) c) rows h s)

  small-file : (c : ℕ) (xs : List (List Float)) (rows : List Slot) → c < 65536 → all small rows ≡ true → all small (file_cell g c xs rows) ≡ true
  unfolding file_cell
  small-file c [] rows h s = s
  small-file c (x ∷ xs) rows h s = small-file c xs (enter_slot (slotted (cell_key g x) c) rows) h (small-enter (slotted (cell_key g x) c) rows h s)

-- ---- keys once each

count-has : (k : ℕ) (l : List ℕ) → has k l ≡ true → 0 < count k l
unfolding has
count-has k [] e = absurd (false≢true e)
count-has k (j ∷ js) e = go (count-has k js) (which (eqb j k))
  where
    go : (has k js ≡ true → 0 < count k js) → (eqb j k ≡ true) ⊎ (eqb j k ≡ false) → 0 < count k (j ∷ js)
    go ih (inl f) = omega (arith, count-cons k j js, ap (hit k) (eqb-true j k f), hit_same k)
    go ih (inr f) = omega (arith, count-cons k j js, ih (rw f at e))

count_hasn't : (k : ℕ) (l : List ℕ) → has k l ≡ false → count k l ≡ 0
unfolding has count
count_hasn't k [] e = refl
count_hasn't k (j ∷ js) e =
    omega (arith, count-cons k j js, hit_other k j (eqb-false j k (or_left (eqb j k) (has k js) e)), count_hasn't k js (or_right (eqb j k) (has k js) e))

-- what is counted among keys is counted among their rows
count-pack : (c k : ℕ) (l : List ℕ) → count k l ≤ count (pack c k) (map (pack c) l)
unfolding count
count-pack c k [] = omega arith
count-pack c k (j ∷ js) = go (count-pack c k js) (which (eqb j k))
  where
    go : count k js ≤ count (pack c k) (map (pack c) js) → (eqb j k ≡ true) ⊎ (eqb j k ≡ false) → count k (j ∷ js) ≤ count (pack c k) (pack c j ∷ map (pack c) js)
    go ih (inl f) = let e : j ≡ k =
        eqb-true j k f in omega (
          arith,
          ih,
          count-cons k j js,
          count-cons (pack c k) (pack c j) (map (pack c) js),
          ap (hit k) e,
          hit_same k,
          ap (λ (i : ℕ). hit (pack c k) (pack c i)) e,
          hit_same (pack c k),
        )
    go ih (inr f) = omega (arith, ih, count-cons k j js, count-cons (pack c k) (pack c j) (map (pack c) js), hit_other k j (eqb-false j k f))

-- keys that come more than once make no difference
join-entered : (c k : ℕ) (seen l : List ℕ) → ListSorted l → enter (pack c k) (entered (map (pack c) seen) l) ≡ entered (map (pack c) (join_once k seen)) l
unfolding join_once entered
join-entered c k seen l up =
    by_test (has k seen)
    (λ e.
    rw e
    (enter_there (pack c k) (entered (map (pack c) seen) l) (ascending-entered (map (pack c) seen) l up)
    (entered-has (pack c k) (map (pack c) seen) l up (omega (arith, count-has k seen e, count-pack c k seen)))))
    (λ e. rw (e, map-append (pack c) seen (k ∷ []), entered-append (map (pack c) seen) (pack c k ∷ []) l))

once-entered : (c : ℕ) (ks seen l : List ℕ) → ListSorted l → entered (map (pack c) ks) (entered (map (pack c) seen) l) ≡ entered (map (pack c) (once seen ks)) l
unfolding once entered
once-entered c [] seen l up = refl
once-entered c (k ∷ ks) seen l up = ap (entered (map (pack c) ks)) (join-entered c k seen l up) ∙ once-entered c ks (join_once k seen) l up

-- no key comes twice
join-few : (k : ℕ) (seen : List ℕ) → ((v : ℕ) → count v seen ≤ 1) → (v : ℕ) → count v (join_once k seen) ≤ 1
unfolding join_once count
join-few k seen h v =
    by_test (has k seen) (λ e. rw e (h v))
    (λ e.
    by_test (eqb k v)
    (λ f. let i : k ≡ v = eqb-true k v f
    in rw e (omega (
      arith,
      count-append v seen (k ∷ []),
      count-cons v k [],
      ap (hit v) i,
      hit_same v,
      subst (λ (w : ℕ). count w seen ≡ 0) i (count_hasn't k seen e),
    )))
    (λ f. rw e (omega (arith, count-append v seen (k ∷ []), count-cons v k [], hit_other v k (eqb-false k v f), h v))))

once-few : (ks seen : List ℕ) → ((v : ℕ) → count v seen ≤ 1) → (v : ℕ) → count v (once seen ks) ≤ 1
unfolding once
once-few [] seen h v = h v
once-few (k ∷ ks) seen h v = once-few ks (join_once k seen) (join-few k seen h) v

-- ---- rows of several cells

-- rows of a cell: of no other cell, and of a key as often as the key comes
count-other : (c v : ℕ) (ks : List ℕ) → c < 65536 → (packed_cell v ≡ c → ⊥) → count v (map (pack c) ks) ≡ 0
unfolding count
count-other c v [] h n = refl
count-other c v (k ∷ ks) h n = omega (arith, count-cons v (pack c k) (map (pack c) ks), hit_other v (pack c k) (λ e. n (omega arith)), count-other c v ks h n)

count_cell : (c v : ℕ) (ks : List ℕ) → c < 65536 → count v (map (pack c) ks) ≤ count (packed_key v) ks
unfolding count
count_cell c v [] h = omega arith
count_cell c v (k ∷ ks) h =
    by_test (eqb (pack c k) v)
    (λ e.
    let i : k ≡ packed_key v = omega (arith, eqb-true (pack c k) v e) in
    omega (
      arith,
      count-cons v (pack c k) (map (pack c) ks),
      ap (hit v) (eqb-true (pack c k) v e),
      hit_same v,
      count-cons (packed_key v) k ks,
      ap (hit (packed_key v)) i,
      hit_same (packed_key v),
      count_cell c v ks h,
    ))
    (λ e. omega (arith, count-cons v (pack c k) (map (pack c) ks), hit_other v (pack c k) (eqb-false (pack c k) v e), count-cons (packed_key v) k ks, count_cell c v ks h))

module _ (g : Containers) (p : Box → Bool) where
  filed_few : (b : Box) (v : ℕ) → count v (filed_keys g p b) ≤ 1
  unfolding filed_keys box_keys count
  filed_few b v = by_test (p b) (λ e. rw e (once-few (map (cell_key g) (box_corners b)) [] (λ w. omega arith) v)) (λ e. rw e (omega arith))

  -- none of a cell before
  count-later : (c : ℕ) (bs : List Box) (v : ℕ) → packed_cell v < c → c + length bs ≤ 65536 → count v (packed_rows g p c bs) ≡ 0
  unfolding packed_rows count
  count-later c [] v h k = refl
  count-later c (b ∷ bs) v h k =
      omega (
        arith,
        count-append v (map (pack c) (filed_keys g p b)) (packed_rows g p (suc c) bs),
        count-other c v (filed_keys g p b) (omega arith) (λ e. absurd (omega arith)),
        count-later (suc c) bs v (omega arith) (omega arith),
      )

  -- no row twice
  packed_few : (c : ℕ) (bs : List Box) → c + length bs ≤ 65536 → (v : ℕ) → count v (packed_rows g p c bs) ≤ 1
  unfolding packed_rows count
  packed_few c [] k v = omega arith
  packed_few c (b ∷ bs) k v =
      by_test (eqb (packed_cell v) c)
      (λ e.
      let i : packed_cell v ≡ c = eqb-true (packed_cell v) c e in
      omega (
        arith,
        count-append v (map (pack c) (filed_keys g p b)) (packed_rows g p (suc c) bs),
        count_cell c v (filed_keys g p b) (omega arith),
        filed_few b (packed_key v),
        count-later (suc c) bs v (omega arith) (omega arith),
      ))
      (λ e.
      omega (
        arith,
        count-append v (map (pack c) (filed_keys g p b)) (packed_rows g p (suc c) bs),
        count-other c v (filed_keys g p b) (omega arith) (eqb-false (packed_cell v) c e),
        packed_few (suc c) bs (omega arith) v,
      ))

  -- one cell, filed or not
  packed_cell_lem : (c : ℕ) (b : Box) (rows : List Slot) → c < 65536 → all small rows ≡ true → ListSorted (map packed rows)
      → map packed (cond (p b) (file_cell g c (box_corners b) rows) rows) ≡ entered (map (pack c) (filed_keys g p b)) (map packed rows)
  unfolding filed_keys box_keys entered
  packed_cell_lem c b rows h s up =
      by_test (p b) (λ e. rw e (packed_file g c (box_corners b) rows h s ∙ once-entered c (map (cell_key g) (box_corners b)) [] (map packed rows) up)) (λ e. rw e)

  small_cell : (c : ℕ) (b : Box) (rows : List Slot) → c < 65536 → all small rows ≡ true → all small (cond (p b) (file_cell g c (box_corners b) rows) rows) ≡ true
  small_cell c b rows h s = by_test (p b) (λ e. rw e (small-file g c (box_corners b) rows h s)) (λ e. rw e s)

  packed_files : (c : ℕ) (bs : List Box) (rows : List Slot) → c + length bs ≤ 65536 → all small rows ≡ true → ListSorted (map packed rows)
      → map packed (file_cells g p c bs rows) ≡ entered (packed_rows g p c bs) (map packed rows)
  unfolding file_cells packed_rows entered
  packed_files c [] rows h s up = refl
  packed_files c (b ∷ bs) rows h s up =
      let e = packed_cell_lem c b rows (omega arith) s up in
      let up' : ListSorted (map packed (cond (p b) (file_cell g c (box_corners b) rows) rows)) = rw e (ascending-entered (map (pack c) (filed_keys g p b)) (map packed rows) up) in
      packed_files (suc c) bs (cond (p b) (file_cell g c (box_corners b) rows) rows) (omega arith) (small_cell c b rows (omega arith) s) up'
      ∙ ap (entered (packed_rows g p (suc c) bs)) e
      ∙ sym (entered-append (map (pack c) (filed_keys g p b)) (packed_rows g p (suc c) bs) (map packed rows))

  small_files : (c : ℕ) (bs : List Box) (rows : List Slot) → c + length bs ≤ 65536 → all small rows ≡ true → all small (file_cells g p c bs rows) ≡ true
  unfolding file_cells
  small_files c [] rows h s = s
  small_files c (b ∷ bs) rows h s = small_files (suc c) bs (cond (p b) (file_cell g c (box_corners b) rows) rows) (omega arith) (small_cell c b rows (omega arith) s)

-- ---- numbers back to slots

keys-back : (rows : List Slot) → all small rows ≡ true → map packed_key (map packed rows) ≡ map (λ (p : Slot). p.key) rows
unfolding all
keys-back [] s = refl
keys-back (q ∷ qs) s =
    let low : q.id < 65536 = ltb-true q.id 65536 (and_left (small q) (all small qs) s) in
    ap₂ ◌∷◌ (omega arith) (keys-back qs (and_right (small q) (all small qs) s))

cells-back : (rows : List Slot) → all small rows ≡ true → map packed_cell (map packed rows) ≡ map (λ (p : Slot). p.id) rows
unfolding all
cells-back [] s = refl
cells-back (q ∷ qs) s =
    let low : q.id < 65536 = ltb-true q.id 65536 (and_left (small q) (all small qs) s) in
    ap₂ ◌∷◌ (omega arith) (cells-back qs (and_right (small q) (all small qs) s))

-- The rows that cells are filed under, in their order, are the packed rows sorted.
module _ (g : Containers) (p : Box → Bool) (bs : List Box) (h : length bs ≤ 65536) where
  rows-sorted : map packed (file_cells g p 0 bs []) ≡ sorted_of (packed_rows g p 0 bs)
  unfolding all
  rows-sorted = packed_files g p 0 bs [] (omega arith) refl (λ i j a b. absurd (not-suc-le-zero b)) ∙ entered-none (packed_rows g p 0 bs) (packed_few g p 0 bs (omega arith))

  rows-small : all small (file_cells g p 0 bs []) ≡ true
  unfolding all
  rows-small = small_files g p 0 bs [] (omega arith) refl

  pub rows-keys : map packed_key (sorted_of (packed_rows g p 0 bs)) ≡ map (λ (q : Slot). q.key) (file_cells g p 0 bs [])
  rows-keys = ap (map packed_key) (sym rows-sorted) ∙ keys-back (file_cells g p 0 bs []) rows-small

  pub rows-cells : map packed_cell (sorted_of (packed_rows g p 0 bs)) ≡ map (λ (q : Slot). q.id) (file_cells g p 0 bs [])
  rows-cells = ap (map packed_cell) (sym rows-sorted) ∙ cells-back (file_cells g p 0 bs []) rows-small

  pub rows-count : length (packed_rows g p 0 bs) ≡ length (file_cells g p 0 bs [])
  rows-count = sym (length-sorted (packed_rows g p 0 bs)) ∙ ap length (sym rows-sorted) ∙ length-map (file_cells g p 0 bs []) packed
