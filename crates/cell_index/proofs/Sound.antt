-- The check of an index: each way through it, and what an accepted index gives.
-- Assumes nothing.
use Prim.Native.Nat.{ℕ, zero, suc, ◌≤◌, ◌<◌}
use native.Mathlib.Omega.{arith}
use mathlib.Core.Path.{◌≡◌, refl, sym, ap, ◌∙◌}
use mathlib.Core.Bool.{Bool, true, false, ◌&&◌}
use mathlib.Core.Option.{none, some, some-ne-none}
use mathlib.Core.List.{List, [], ◌∷◌}
use lib.Dec.{ltb, leb, eqb}
use lib.ListN.{length, get_or, take}
use lib.Seq.{get_or-take, length-take-le}
use lib.Ieee.{Float, le}
use borrow.Author.Tests.{ltb-true, leb-true, eqb-true, not-false}
use Rattle.basics.proofs.Bools.{by_test, and_both, and_left, and_right}
use Rattle.basics.specs.Lists.{all, tab, zip_with}
use Rattle.basics.proofs.Lists.{length-tab, get_or-tab, all_at}
use Rattle.basics.specs.Refusals.{refuse, fault}
use Rattle.basics.proofs.Refusals.{Passed, unrefused, fault_stop, fault-right}
use Rattle.floats.specs.Rounded.{pow2, pow2⁻}
use Rattle.geometry.specs.Position.{coords, dimension}
use Rattle.grid.specs.Divisions.{counts, division}
use Rattle.grid.specs.Containers.{containers}
use Rattle.mesh.specs.Mesh.{Mesh, cell_count, broken_mesh, Whole}
use Rattle.table.specs.Rows.{slot_at, slots_of, sorted}
use Rattle.sorting.specs.Ascent.{ascending}
use Rattle.grid_cells.specs.declared.GridCells.{GridCells}
use Rattle.grid_cells.specs.Build.{IndexLists, size_tests}
use Rattle.cell_index.specs.Index.{cell_rows, large_cells, corner_limit, ordered, good_index, enough_entries, good_rows, good_numbers, sound_index, index_tests}
use Rattle.cell_index.specs.Steps.{Usable}
use Rattle.cell_index.proofs.Later.{later}
use Rattle.cell_index.proofs.Linked.{good_slot}

-- ordered on every axis, by the test along each
pub ordered_tests : (n : ℕ) (los his : List Float) → ordered (take n los) (take n his) ≡ all (λ (b : Bool). b) (take n (zip_with le los his))
unfolding ordered all zip_with
ordered_tests zero los his = refl
ordered_tests (suc n) [] his = refl
ordered_tests (suc n) (a ∷ los) [] = refl
ordered_tests (suc n) (a ∷ los) (b ∷ his) = rw (ordered_tests n los his)

pub good-divisions : (g : GridCells) → good_index g ≡ true → all division (counts g.ndim g.ndiv) ≡ true
unfolding good_index
good-divisions g e =
    let side = le (pow2⁻ 19) g.side_length && le g.side_length (pow2 22) in
    let low = coords g.ndim g.xmin in
    let high = coords g.ndim g.xmax in
    let rest = all corner_limit low && (all corner_limit high && ordered low high) in
    let divisions = all division (counts g.ndim g.ndiv) in
    and_left divisions rest (and_right side (divisions && rest) e)

-- ---- the lists, where they are long enough

pub record Entries (g : GridCells) (l : IndexLists) : Type 0 where
  pub in_keys : g.used ≤ length l.keys
  pub in_cells : g.used ≤ length l.cells
  pub in_large : g.large ≤ length l.large

pub entries : (g : GridCells) (l : IndexLists) → enough_entries g l ≡ true → Entries g l
unfolding enough_entries
entries g l e =
    let a = and_both (eqb (length l.cells) (length l.keys)) (leb g.used (length l.keys) && leb g.large (length l.large)) e in
    let b = and_both (leb g.used (length l.keys)) (leb g.large (length l.large)) a.1 in
    let keys = leb-true g.used (length l.keys) b.0 in
    record { in_keys = keys; in_cells = rw (eqb-true (length l.cells) (length l.keys) a.0) keys; in_large = leb-true g.large (length l.large) b.1 }

-- ---- what 13 leaves

-- each entry is below n
abbrev Below : ℕ → List ℕ → Type 0
Below n cells = (i : ℕ) → i < length cells → get_or cells i 0 < n

module _ (g : GridCells) (n : ℕ) (l : IndexLists) (e : sound_index g n l ≡ true) where
  abbrev count : ℕ
  count = containers (counts g.ndim g.ndiv)

  parts : (good_index g ≡ true) × (enough_entries g l ≡ true) × (good_rows count n (cell_rows g l) ≡ true) × (good_numbers n (large_cells g l) ≡ true)
  unfolding sound_index
  parts =
      let a = and_both (good_index g) _ e in
      let b = and_both (enough_entries g l) _ a.1 in
      let c = and_both (good_rows count n (cell_rows g l)) (good_numbers n (large_cells g l)) b.1 in
      (a.0, b.0, c.0, c.1)

  pub sound-good : good_index g ≡ true
  sound-good = parts.0

  pub sound-entries : Entries g l
  sound-entries = entries g l parts.1

  rows-good : (all (good_slot count n) (cell_rows g l) ≡ true) × (sorted (cell_rows g l) ≡ true)
  unfolding good_rows
  rows-good = and_both (all (good_slot count n) (cell_rows g l)) (sorted (cell_rows g l)) parts.2

  pub sound-order : sorted (slots_of l.keys l.cells g.used) ≡ true
  unfolding cell_rows
  sound-order = rows-good.1

  pub cell_below : Below n (take g.used l.cells)
  unfolding cell_rows slots_of
  cell_below i h =
      let f = slot_at l.keys l.cells in
      let k : i < g.used = omega (arith, h, length-take-le g.used l.cells sound-entries.in_cells) in
      let slot : good_slot count n (f i) ≡ true = ap (good_slot count n) (sym (get_or-tab g.used f i (f 0) k)) ∙ all_at (good_slot count n) (tab g.used f) i (f 0) (rw length-tab k) rows-good.0 in
      rw (get_or-take g.used l.cells i 0 k) (ltb-true (get_or l.cells i 0) n (and_right (ltb (get_or l.keys i 0) count) (ltb (get_or l.cells i 0) n) slot))

  pub large-below : Below n (large_cells g l)
  unfolding good_numbers
  large-below i h =
      let p : ℕ → Bool = λ (c : ℕ). ltb c n in
      ltb-true (get_or (large_cells g l) i 0) n (all_at p (large_cells g l) i 0 h (and_left (all p (large_cells g l)) (ascending (large_cells g l)) parts.3))

-- ---- the tests, one way out after the other

pub unbroken : (b : Bool) → none ≡ fault (refuse 19 b ∷ []) → b ≡ false
unbroken b e = (unrefused (refuse 19 b ∷ []) (sym e)).0

module _ (g : GridCells) (m : Mesh) (l : IndexLists) where
  pub refuse_sizes : {n : ℕ} → some n ≡ fault (size_tests g.ndim m l) → some n ≡ fault (index_tests g m l)
  unfolding index_tests
  refuse_sizes {n} e = sym (fault_stop (size_tests g.ndim m l) (later g m l) n (sym e))

  module _ (e : fault (size_tests g.ndim m l) ≡ none) where
    pub refuse_19 : broken_mesh g.ndim m ≡ true → some 19 ≡ fault (index_tests g m l)
    unfolding index_tests fault
    refuse_19 b = sym (fault-right (size_tests g.ndim m l) (later g m l) e ∙ rw b)

    pub refuse_mesh : {n : ℕ} → some n ≡ fault (refuse 19 (broken_mesh g.ndim m) ∷ []) → some n ≡ fault (index_tests g m l)
    unfolding fault
    refuse_mesh {n} f = by_test (broken_mesh g.ndim m) (λ b. (rw b at f) ∙ refuse_19 b) (λ b. absurd (some-ne-none n (rw b at f)))

    module _ (b : broken_mesh g.ndim m ≡ false) where
      pub refuse_13 : sound_index g (cell_count g.ndim m) l ≡ false → some 13 ≡ fault (index_tests g m l)
      unfolding index_tests fault
      refuse_13 s = sym (fault-right (size_tests g.ndim m l) (later g m l) e ∙ rw (b, s))

      pub refuse-none : sound_index g (cell_count g.ndim m) l ≡ true → none ≡ fault (index_tests g m l)
      unfolding index_tests fault
      refuse-none s = sym (fault-right (size_tests g.ndim m l) (later g m l) e ∙ rw (b, s))

  -- ---- what a sound index of a whole mesh gives
  pub usable_by : Whole g.ndim m → sound_index g (cell_count g.ndim m) l ≡ true → Usable g m l
  usable_by w s =
      let n = cell_count g.ndim m in
      let enough = sound-entries g n l s in
      record {
        whole = w;
        keyed = record { axes = w.axes; divisions = good-divisions g (sound-good g n l s) };
        rows = record { in_keys = enough.in_keys; in_ids = enough.in_cells; order = sound-order g n l s };
        room = enough.in_large;
        cells = cell_below g n l s;
        large = large-below g n l s;
      }

  -- ---- and so what an accepted index gives
  module _ (e : fault (index_tests g m l) ≡ none) where
    passes : Passed (index_tests g m l)
    passes = unrefused (index_tests g m l) e

    sound : sound_index g (cell_count g.ndim m) l ≡ true
    unfolding index_tests size_tests
    sound = not-false (sound_index g (cell_count g.ndim m) l) passes.1.1.1.0

    mesh_whole : Whole g.ndim m
    unfolding index_tests size_tests
    mesh_whole = record { axes = not-false (dimension g.ndim) passes.0; whole = passes.1.1.0 }

    pub usable : Usable g m l
    usable = usable_by mesh_whole sound
