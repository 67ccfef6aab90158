-- The walks over all cells that count and write rows and large cells.
-- Assumes nothing.
use Prim.Native.Nat.{ℕ, ◌+◌, ◌*◌, ◌≤◌, ◌<◌}
use native.Mathlib.Nat.{add-zero}
use native.Mathlib.Numerals.{add-one}
use native.Mathlib.Omega.{arith}
use Rattle.std.proofs.Common.{rules}
use mathlib.Core.Path.{◌≡◌, refl, sym, ap, ap₂, ◌∙◌}
use mathlib.Core.Bool.{Bool, true, false, ◌||◌}
use mathlib.Core.List.{List, [], ◌∷◌, ◌++◌, map}
use lib.ListN.{length, get_or, take, drop, set, length-append, length-map, length-drop}
use lib.Seq.{length-take-le, drop-drop, take-length, get_or-drop, drop_at, take_at}
use Rattle.basics.proofs.Bools.{by_test, or_left, or_right}
use Rattle.basics.specs.Lists.{any, over}
use Rattle.mesh.specs.Mesh.{Mesh, Box, cell_count, box_of}
use Rattle.sorting.specs.Sorted.{sorted_of}
use Rattle.sorting.proofs.Orders.{length-sorted}
use Rattle.cell_rows.specs.declared.Containers.{Containers}
use Rattle.std.specs.Prelude.{Option, Some, None, IsSome}
use Rattle.cell_rows.specs.declared.keys.CellKeys.{CellKeys}
use Rattle.cell_rows.specs.Keys.{keys_in}
use Rattle.cell_sizes.specs.Large.{boxes, numbered}
use Rattle.cell_rows.specs.Filing.{file_cells}
use Rattle.cell_rows.specs.Steps.{box_keys_or, filed_keys, too_far, filed_keys_or, pack, packed_key, packed_cell, packed_rows, row_count_or, Fitting, Written, Filed}
use Rattle.cell_sizes.proofs.Boxes.{boxes-next, boxes_end}
use Rattle.table.proofs.Libraries.{length_over}
use Rattle.cell_rows.proofs.Over.{take-over, drop-over, over_none, over-next, over_more}
use Rattle.cell_rows.proofs.Rows.{rows-keys, rows-cells}

-- ---- one cell

module _ (g : Containers) (p : Box → Bool) (b : Box) where
  pub cell_filed : {r : Option (List ℕ)} → p b ≡ true → r ≡ box_keys_or g b → r ≡ filed_keys_or g p b
  unfolding filed_keys_or filed_keys too_far box_keys_or
  cell_filed e h = h ∙ rw e

  pub cell_none : p b ≡ false → Some [] ≡ filed_keys_or g p b
  unfolding filed_keys_or filed_keys too_far
  cell_none e = rw e

  -- what an answer tells of the cell
  cell_keys : {l : List ℕ} → Some l ≡ filed_keys_or g p b → (too_far g p b ≡ false) × (filed_keys g p b ≡ l)
  unfolding filed_keys_or
  cell_keys {l} e = by_test (too_far g p b) (λ t. absurd (never (rw t at e))) (λ t. (t, same (rw t at e)))
    where
      never : Some l ≡ None → ⊥
      never f = cc

      same : Some l ≡ Some (filed_keys g p b) → filed_keys g p b ≡ l
      same f = cc

  cell_far : None ≡ filed_keys_or g p b → too_far g p b ≡ true
  unfolding filed_keys_or
  cell_far e = by_test (too_far g p b) (λ t. t) (λ t. absurd (never (rw t at e)))
    where
      never : None ≡ Some (filed_keys g p b) → ⊥
      never f = cc

pub some_keys : (r : Option CellKeys) {l : List ℕ} → keys_in r ≡ Some l → IsSome r
some_keys None {l} e = absurd (never e)
  where
    never : None ≡ Some l → ⊥
    never f = cc
some_keys (Some k) e = search rules

-- ---- counting

module _ (g : Containers) (p : Box → Bool) (n : ℕ) (m : Mesh) where
  any_next : (c : ℕ) → c < cell_count n m → any (too_far g p) (drop c (boxes n m)) ≡ (too_far g p (box_of n m c) || any (too_far g p) (drop (c + 1) (boxes n m)))
  unfolding any
  any_next c h = rw (boxes-next n m c h)

  rows_next : (c : ℕ) → c < cell_count n m
      → packed_rows g p c (drop c (boxes n m)) ≡ map (pack c) (filed_keys g p (box_of n m c)) ++ packed_rows g p (c + 1) (drop (c + 1) (boxes n m))
  unfolding packed_rows
  rows_next c h = rw (boxes-next n m c h, add-one c)

  rows_end : (c : ℕ) → cell_count n m ≤ c → packed_rows g p c (drop c (boxes n m)) ≡ []
  unfolding packed_rows
  rows_end c h = rw (boxes_end n m c h)

  any_end : (c : ℕ) → cell_count n m ≤ c → any (too_far g p) (drop c (boxes n m)) ≡ false
  unfolding any
  any_end c h = rw (boxes_end n m c h)

pub record Tallied (g : Containers) (p : Box → Bool) (n : ℕ) (m : Mesh) (c k : ℕ) : Type 0 where
  pub near : any (too_far g p) (boxes n m) ≡ any (too_far g p) (drop c (boxes n m))
  pub total : length (packed_rows g p 0 (boxes n m)) ≡ k + length (packed_rows g p c (drop c (boxes n m)))
  pub few : k ≤ 8 * c

module _ {g : Containers} {p : Box → Bool} {n : ℕ} {m : Mesh} where
  module _ {c k : ℕ} (w : Tallied g p n m c k) where
    pub tally_next : {l : List ℕ} → c < cell_count n m → length l ≤ 8 → Some l ≡ filed_keys_or g p (box_of n m c) → Tallied g p n m (c + 1) (k + length l)
    tally_next {l} h few e =
        let q = cell_keys g p (box_of n m c) e in
        record {
          near = w.near ∙ rw (any_next g p n m c h, q.0);
          total = w.total ∙ rw (rows_next g p n m c h, q.1, length-append (map (pack c) l) (packed_rows g p (c + 1) (drop (c + 1) (boxes n m))), length-map l (pack c)) (omega arith);
          few = omega (arith, w.few);
        }

    pub tally_far : c < cell_count n m → None ≡ filed_keys_or g p (box_of n m c) → None ≡ row_count_or g p (boxes n m)
    unfolding row_count_or
    tally_far h e = rw (w.near, any_next g p n m c h, cell_far g p (box_of n m c) e)

    pub tally_end : cell_count n m ≤ c → Some k ≡ row_count_or g p (boxes n m)
    unfolding row_count_or
    tally_end h = rw (w.near, any_end g p n m c h, w.total, rows_end g p n m c h) (ap Some (omega arith))

-- ---- writing

pub record Packing (g : Containers) (p : Box → Bool) (n : ℕ) (m : Mesh) (c k : ℕ) (l₀ l : List ℕ) : Type 0 where
  pub inside : k ≤ length (packed_rows g p 0 (boxes n m))
  pub rest : drop k (packed_rows g p 0 (boxes n m)) ≡ packed_rows g p c (drop c (boxes n m))
  pub written : l ≡ over (take k (packed_rows g p 0 (boxes n m))) l₀
  pub near : any (too_far g p) (drop c (boxes n m)) ≡ false

module _ {g : Containers} {p : Box → Bool} {n : ℕ} {m : Mesh} {l₀ : List ℕ} (fit : Fitting g p (boxes n m) l₀) where
  pub packing_start : Packing g p n m 0 0 l₀ l₀
  packing_start = record { inside = omega arith; rest = refl; written = over_none l₀; near = fit.near }

  module _ {c k : ℕ} {l : List ℕ} (w : Packing g p n m c k l₀ l) where
    pub packing_length : length l ≡ length l₀
    packing_length = ap length w.written ∙ length_over (take k (packed_rows g p 0 (boxes n m))) l₀ (omega (arith, fit.room, length-take-le k (packed_rows g p 0 (boxes n m)) w.inside, w.inside))

    module _ (h : c < cell_count n m) where
      -- no corner is too far
      pub packing_some : {r : Option (List ℕ)} → r ≡ filed_keys_or g p (box_of n m c) → r ≡ Some (filed_keys g p (box_of n m c))
      unfolding filed_keys_or
      packing_some e = e ∙ rw (or_left (too_far g p (box_of n m c)) _ (sym (any_next g p n m c h) ∙ w.near))

      module _ {keys : List ℕ} (f : Some keys ≡ filed_keys_or g p (box_of n m c)) where
        left : drop k (packed_rows g p 0 (boxes n m)) ≡ map (pack c) keys ++ packed_rows g p (c + 1) (drop (c + 1) (boxes n m))
        left = w.rest ∙ rows_next g p n m c h ∙ ap (λ (ks : List ℕ). map (pack c) ks ++ packed_rows g p (c + 1) (drop (c + 1) (boxes n m))) (cell_keys g p (box_of n m c) f).1

        inside' : k + length keys ≤ length (packed_rows g p 0 (boxes n m))
        inside' =
            omega (
              arith,
              w.inside,
              length-drop k (packed_rows g p 0 (boxes n m)),
              ap length left,
              length-append (map (pack c) keys) (packed_rows g p (c + 1) (drop (c + 1) (boxes n m))),
              length-map keys (pack c),
            )

        pub packing_room : k + length keys ≤ length l
        packing_room = omega (arith, inside', fit.room, packing_length)

        pub packing_next : {l' : List ℕ} → l' ≡ take k l ++ over (map (pack c) keys) (drop k l) → Packing g p n m (c + 1) (k + length keys) l₀ l'
        packing_next i = record {
          inside = inside';
          rest =
              sym (drop-drop (length keys) k (packed_rows g p 0 (boxes n m)))
              ∙ ap (drop (length keys)) left
              ∙ drop_at (map (pack c) keys) (packed_rows g p (c + 1) (drop (c + 1) (boxes n m))) (length keys) (length-map keys (pack c));
          written =
              i
              ∙ ap (λ (x : List ℕ). take k x ++ over (map (pack c) keys) (drop k x)) w.written
              ∙ over_more (packed_rows g p 0 (boxes n m)) l₀ (map (pack c) keys) k (length keys) inside' fit.room
              (ap (take (length keys)) left ∙ take_at (map (pack c) keys) (packed_rows g p (c + 1) (drop (c + 1) (boxes n m))) (length keys) (length-map keys (pack c)))
              (length-map keys (pack c));
          near = or_right (too_far g p (box_of n m c)) _ (sym (any_next g p n m c h) ∙ w.near);
        }

    pub packing_end : cell_count n m ≤ c → Written (packed_rows g p 0 (boxes n m)) l₀ k l
    packing_end h =
        let e : k ≡ length (packed_rows g p 0 (boxes n m)) = omega (arith, w.inside, length-drop k (packed_rows g p 0 (boxes n m)), ap length (w.rest ∙ rows_end g p n m c h)) in
        record { count = e; are = w.written ∙ ap (λ (x : List ℕ). over x l₀) (ap (λ (i : ℕ). take i (packed_rows g p 0 (boxes n m))) e ∙ take-length (packed_rows g p 0 (boxes n m))) }

-- ---- sorted, and taken apart

-- the packed rows stand at the front of the keys, are sorted there, and taken apart
module _ (g : Containers) (p : Box → Bool) (bs : List Box) (h : length bs ≤ 65536) {keys₀ keys₁ : List ℕ} {n : ℕ} (w : Written (packed_rows g p 0 bs) keys₀ n keys₁) where
  abbrev sorted : List ℕ
  sorted = sorted_of (packed_rows g p 0 bs)

  front : take n keys₁ ≡ packed_rows g p 0 bs
  front = ap (take n) w.are ∙ take-over (packed_rows g p 0 bs) keys₀ n (sym w.count)

  rest : drop n keys₁ ≡ drop n keys₀
  rest = ap (drop n) w.are ∙ drop-over (packed_rows g p 0 bs) keys₀ n (sym w.count)

  pub filed_rows : {cells₀ sorted₁ keys₂ cells₁ : List ℕ} → sorted₁ ≡ sorted_of (take n keys₁) → keys₂ ≡ map packed_key (take n (sorted₁ ++ drop n keys₁))
      → cells₁ ≡ map packed_cell (take n (sorted₁ ++ drop n keys₁)) → Filed (file_cells g p 0 bs []) keys₀ cells₀ (keys₂ ++ drop n (sorted₁ ++ drop n keys₁)) (cells₁ ++ drop n cells₀)
  unfolding over
  filed_rows {cells₀} {sorted₁} e i j =
      let s : sorted₁ ≡ sorted = e ∙ ap sorted_of front in
      let long : length sorted ≡ n = length-sorted (packed_rows g p 0 bs) ∙ sym w.count in
      let own : length sorted₁ ≡ n = ap length s ∙ long in
      let taken : take n (sorted₁ ++ drop n keys₁) ≡ sorted = take_at sorted₁ (drop n keys₁) n own ∙ s in
      let left : drop n (sorted₁ ++ drop n keys₁) ≡ drop n keys₀ = drop_at sorted₁ (drop n keys₁) n own ∙ rest in
      let keys = i ∙ ap (map packed_key) taken ∙ rows-keys g p bs h in
      let cells = j ∙ ap (map packed_cell) taken ∙ rows-cells g p bs h in
      record {
        keys-are = ap₂ ◌++◌ keys (left ∙ ap (λ (k : ℕ). drop k keys₀) (sym long ∙ sym (length-map sorted packed_key) ∙ ap length (rows-keys g p bs h)));
        cells_are = ap₂ ◌++◌ cells (ap (λ (k : ℕ). drop k cells₀) (sym long ∙ sym (length-map sorted packed_cell) ∙ ap length (rows-cells g p bs h)));
      }

-- ---- large cells

pub record Marking (n : ℕ) (m : Mesh) (q : Box → Bool) (c k : ℕ) (l₀ l : List ℕ) : Type 0 where
  pub inside : k ≤ length (numbered q 0 (boxes n m))
  pub rest : drop k (numbered q 0 (boxes n m)) ≡ numbered q c (drop c (boxes n m))
  pub written : l ≡ over (take k (numbered q 0 (boxes n m))) l₀

module _ {n : ℕ} {m : Mesh} {q : Box → Bool} {l₀ : List ℕ} (room : length (numbered q 0 (boxes n m)) ≤ length l₀) where
  pub marking_start : Marking n m q 0 0 l₀ l₀
  marking_start = record { inside = omega arith; rest = refl; written = over_none l₀ }

  module _ {c k : ℕ} {l : List ℕ} (w : Marking n m q c k l₀ l) where
    pub marking_length : length l ≡ length l₀
    marking_length = ap length w.written ∙ length_over (take k (numbered q 0 (boxes n m))) l₀ (omega (arith, room, length-take-le k (numbered q 0 (boxes n m)) w.inside, w.inside))

    module _ {b : Box} (h : c < cell_count n m) (e : b ≡ box_of n m c) where
      next-large : q b ≡ true → drop k (numbered q 0 (boxes n m)) ≡ c ∷ numbered q (c + 1) (drop (c + 1) (boxes n m))
      unfolding numbered
      next-large t = w.rest ∙ rw (boxes-next n m c h, ← e, t, add-one c)

      next-other : q b ≡ false → drop k (numbered q 0 (boxes n m)) ≡ numbered q (c + 1) (drop (c + 1) (boxes n m))
      unfolding numbered
      next-other t = w.rest ∙ rw (boxes-next n m c h, ← e, t, add-one c)

      one_more : q b ≡ true → k < length (numbered q 0 (boxes n m))
      one_more t = omega (arith, w.inside, length-drop k (numbered q 0 (boxes n m)), ap length (next-large t))

      pub marking_room : q b ≡ true → k < length l
      marking_room t = omega (arith, one_more t, room, marking_length)

      pub marking_large : {l' : List ℕ} → q b ≡ true → l' ≡ set l k c → Marking n m q (c + 1) (k + 1) l₀ l'
      marking_large t v =
          let at : get_or (numbered q 0 (boxes n m)) k 0 ≡ c =
          ap (λ (j : ℕ). get_or (numbered q 0 (boxes n m)) j 0) (sym (add-zero k))
          ∙ sym (get_or-drop k (numbered q 0 (boxes n m)) 0 0) ∙ ap (λ (x : List ℕ). get_or x 0 0) (next-large t) in
          record {
            inside = omega (arith, one_more t);
            rest = sym (drop-drop 1 k (numbered q 0 (boxes n m))) ∙ ap (drop 1) (next-large t);
            written = v ∙ ap₂ (λ (x : List ℕ) (y : ℕ). set x k y) w.written (sym at) ∙ over-next (numbered q 0 (boxes n m)) l₀ k 0 (one_more t) room;
          }

      pub marking_other : q b ≡ false → Marking n m q (c + 1) k l₀ l
      marking_other t = record { inside = w.inside; rest = next-other t; written = w.written }

    marked_all : cell_count n m ≤ c → drop k (numbered q 0 (boxes n m)) ≡ []
    unfolding numbered
    marked_all h = w.rest ∙ rw (boxes_end n m c h)

    pub marking_end : cell_count n m ≤ c → l ≡ over (numbered q 0 (boxes n m)) l₀
    marking_end h =
        let e : k ≡ length (numbered q 0 (boxes n m)) = omega (arith, w.inside, length-drop k (numbered q 0 (boxes n m)), ap length (marked_all h)) in
        w.written ∙ ap (λ (x : List ℕ). over x l₀) (ap (λ (i : ℕ). take i (numbered q 0 (boxes n m))) e ∙ take-length (numbered q 0 (boxes n m)))
