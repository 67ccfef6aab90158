-- A build step by step: each way out is what the definition gives.
-- Assumes nothing.
use Prim.Native.Nat.{ℕ, ◌≤◌, ◌<◌}
use native.Mathlib.Omega.{arith}
use mathlib.Core.Path.{◌≡◌, refl, sym, ap, ap₂, ◌∙◌, subst}
use mathlib.Core.Logic.{◌⊎◌, inl, inr}
use mathlib.Core.Bool.{Bool, true, false, not, ◌||◌}
use mathlib.Core.Option.{Option, none, some}
use mathlib.Core.List.{List, [], ◌∷◌, ◌++◌}
use lib.Dec.{ltb, eqb}
use lib.ListN.{length}
use lib.Ieee.{Float}
use borrow.Author.Tests.{ltb-false, eqb-true, eqb-false, not-false}
use Rattle.basics.proofs.Bools.{by_test, which, or_left, or_right}
use Rattle.basics.specs.Lists.{all, any, over}
use Rattle.basics.specs.Refusals.{Test, fault, refused, success, answer}
use Rattle.basics.proofs.Refusals.{Passed, unrefused, fault_stop, fault-right}
use Rattle.geometry.specs.Position.{dimension}
use Rattle.grid.specs.Divisions.{counts, division}
use Rattle.grid_search.specs.Sheet.{in_order}
use Rattle.mesh.specs.Mesh.{Mesh, Box, point_count, cell_count, mesh_too_long}
use Rattle.cell_sizes.specs.declared.Settings.{Settings}
use Rattle.cell_sizes.specs.declared.Sizes.{Sizes}
use Rattle.cell_sizes.specs.Large.{boxes, is_filed, large_of, Measured, measure}
use Rattle.cell_sizes.specs.Steps.{Sized, kept, limit_in}
use Rattle.std.specs.Prelude.{Some, None}
use Rattle.cell_rows.specs.Filing.{file_cells}
use Rattle.cell_rows.specs.Steps.{too_far, packed_rows, row_count_or, Fitting, Filed}
use Rattle.cell_rows.proofs.Rows.{rows-count}
use Rattle.grid_cells.specs.declared.GridCells.{GridCells}
use Rattle.grid_cells.specs.Build.{low_corner, high_corner, index, containers_of, with_rows, file_index, make, IndexLists, index_lists, lists_too_long, size_tests, given_tests, division_tests, frame_tests, row_tests, later_tests, build_tests, settle_build, build}
use Rattle.grid_cells.specs.Steps.{early_tests, Measurable, Finishable, finish_of}
use Rattle.grid_cells.proofs.Ways.{divided, answered_by, refused_by}

-- ---- the tests before the cells are measured, and what they leave

module _ (n : ℕ) (m : Mesh) (t : Settings) (l : IndexLists) where
  abbrev w : Measured
  w = measure n m t

  -- 17, 12
  abbrev last : List Test
  last = row_tests (index n w t) w.apart w.limit w.all-boxes l

  tests_are : build_tests n m t l ≡ early_tests n m t l ++ (frame_tests n w t ++ last)
  unfolding build_tests later_tests early_tests size_tests given_tests
  tests_are = refl

  refuse-with : (r : ℕ) → fault (build_tests n m t l) ≡ some r → record { answer = refused r; lists = l } ≡ build n m t l
  unfolding build settle_build
  refuse-with r e = sym (ap (λ (o : Option ℕ). settle_build o (make n w t) l) e)

  pub refuse_early : {r : ℕ} → some r ≡ fault (early_tests n m t l) → record { answer = refused r; lists = l } ≡ build n m t l
  refuse_early {r} e = refuse-with r (ap fault tests_are ∙ fault_stop (early_tests n m t l) (frame_tests n w t ++ last) r (sym e))

  module _ (p : fault (early_tests n m t l) ≡ none) where
    passes : Passed (early_tests n m t l)
    passes = unrefused (early_tests n m t l) p

    few-cells : (mesh_too_long n m || lists_too_long l) ≡ false → cell_count n m ≤ 65536
    unfolding mesh_too_long
    few-cells e = ltb-false 65536 (cell_count n m) (or_right (ltb 65536 (point_count n m)) (ltb 65536 (cell_count n m)) (or_left (mesh_too_long n m) (lists_too_long l) e))

    pub measurable : Measurable n m l
    unfolding early_tests size_tests given_tests
    measurable =
        let d = not-false (dimension n) passes.0 in
        let q = passes.1.1 in
        record {
          whole = record { axes = d; whole = q.1.0 };
          few = few-cells passes.1.0;
          cells = positive (eqb-false (cell_count n m) 0 q.1.1.1.1.1.1.1.0);
          lengths = eqb-true (length l.cells) (length l.keys) (not-false (eqb (length l.cells) (length l.keys)) q.0);
        }
      where
        positive : (cell_count n m ≡ 0 → ⊥) → 0 < cell_count n m
        positive h = omega arith

    after_early : fault (build_tests n m t l) ≡ fault (frame_tests n w t ++ last)
    after_early = ap fault tests_are ∙ fault-right (early_tests n m t l) (frame_tests n w t ++ last) p

    -- ---- 23, 22, 6
    pub refuse_frame : {r : ℕ} → refused r ≡ answer (fault (frame_tests n w t)) (index n w t) → record { answer = refused r; lists = l } ≡ build n m t l
    refuse_frame {r} e = refuse-with r (after_early ∙ fault_stop (frame_tests n w t) last r (refused_by (fault (frame_tests n w t)) r (index n w t) e))

    module _ {g : GridCells} (e : success g ≡ answer (fault (frame_tests n w t)) (index n w t)) where
      framed : (fault (frame_tests n w t) ≡ none) × (g ≡ index n w t)
      framed = answered_by (fault (frame_tests n w t)) g (index n w t) e

      divisions : fault (frame_tests n w t) ≡ none → all division (counts n (index n w t).ndiv) ≡ true
      unfolding frame_tests division_tests
      divisions k =
          let p = unrefused (frame_tests n w t) k in
          let ns = counts n (index n w t).ndiv in
          divided ns (or_right (not (in_order (low_corner w t) (high_corner w t))) (any (λ (d : ℕ). eqb d 0) ns) p.1.0) p.1.1.0

      -- ---- 17, 12
      module _ {sizes : Sizes} (s : Sized n m t sizes) where
        -- where no large cells are kept apart, the limit decides nothing
        by_limit : {A : Type 0} (F : Bool → Float → A) → ((x y : Float) → F false x ≡ F false y) → F (kept sizes.apart) (limit_in sizes.apart) ≡ F w.apart w.limit
        by_limit {A} F f = go (which (kept sizes.apart))
          where
            go : (kept sizes.apart ≡ true) ⊎ (kept sizes.apart ≡ false) → F (kept sizes.apart) (limit_in sizes.apart) ≡ F w.apart w.limit
            go (inl k) = ap₂ F s.apart (s.limit k)
            go (inr k) = ap (λ (b : Bool). F b (limit_in sizes.apart)) k ∙ f (limit_in sizes.apart) w.limit ∙ ap (λ (b : Bool). F b w.limit) (sym k ∙ s.apart)

        large_is : w.large ≡ large_of w.apart w.limit (boxes n m)
        unfolding measure
        large_is = refl

        large-same : large_of (kept sizes.apart) (limit_in sizes.apart) (boxes n m) ≡ large_of w.apart w.limit (boxes n m)
        unfolding large_of
        large-same = by_limit (λ (apart : Bool) (limit : Float). large_of apart limit (boxes n m)) (λ x y. refl)

        at_index : Finishable (index n w t) sizes n m l
        unfolding index
        at_index = record {
          axes = refl;
          divisions = divisions framed.0;
          few = measurable.few;
          lengths = measurable.lengths;
          large = ap length (large_is ∙ sym large-same);
        }

        pub finishable : Finishable g sizes n m l
        finishable = subst (λ (x : GridCells). Finishable x sizes n m l) (sym framed.1) at_index

        boxes-are : w.all-boxes ≡ boxes (index n w t).ndim m
        unfolding measure index
        boxes-are = refl

        finish-is : finish_of (index n w t) w.apart w.limit w.all-boxes l ≡ build n m t l
        unfolding finish_of build make
        finish-is = ap (λ (o : Option ℕ). settle_build o (make n w t) l) (sym (after_early ∙ fault-right (frame_tests n w t) last framed.0))

        finish-same : (g : GridCells) (bs : List Box) → finish_of g (kept sizes.apart) (limit_in sizes.apart) bs l ≡ finish_of g w.apart w.limit bs l
        unfolding finish_of row_tests file_index is_filed large_of
        finish-same g bs = by_limit (λ (apart : Bool) (limit : Float). finish_of g apart limit bs l) (λ x y. refl)

        pub finish_with : finish_of g (kept sizes.apart) (limit_in sizes.apart) (boxes g.ndim m) l ≡ build n m t l
        finish_with = rw (framed.1, finish-same (index n w t) (boxes (index n w t).ndim m), ← boxes-are) finish-is

-- ---- the last step: 17, 12, and the rows and large cells written

module _ (g : GridCells) (apart : Bool) (limit : Float) (bs : List Box) (l : IndexLists) (few : length bs ≤ 65536) where
  abbrev filed : Box → Bool
  filed = is_filed apart limit

  tests : List Test
  tests = row_tests g apart limit bs l

  settle-with : (o : Option ℕ) → fault tests ≡ o → settle_build o (file_index g apart limit bs) l ≡ finish_of g apart limit bs l
  unfolding finish_of tests
  settle-with o e = ap (λ (o : Option ℕ). settle_build o (file_index g apart limit bs) l) (sym e)

  refuse_last : (r : ℕ) → fault tests ≡ some r → record { answer = refused r; lists = l } ≡ finish_of g apart limit bs l
  unfolding settle_build
  refuse_last r e = settle-with (some r) e

  pub finish_far : None ≡ row_count_or (containers_of g) filed bs → record { answer = refused 17; lists = l } ≡ finish_of g apart limit bs l
  unfolding tests row_tests fault row_count_or too_far
  finish_far e = by_test (any (too_far (containers_of g) filed) bs) (λ t. refuse_last 17 (rw t)) (λ t. absurd (never (rw t at e)))
    where
      never : None ≡ Some (length (packed_rows (containers_of g) filed 0 bs)) → ⊥
      never f = cc

  module _ {k : ℕ} (e : Some k ≡ row_count_or (containers_of g) filed bs) {size : ℕ} (z : size ≡ length (large_of apart limit bs)) where
    counted : (any (too_far (containers_of g) filed) bs ≡ false) × (k ≡ length (packed_rows (containers_of g) filed 0 bs))
    unfolding row_count_or
    counted = by_test (any (too_far (containers_of g) filed) bs) (λ t. absurd (never (rw t at e))) (λ t. (t, same (rw t at e)))
      where
        never : Some k ≡ None → ⊥
        never f = cc

        same : Some k ≡ Some (length (packed_rows (containers_of g) filed 0 bs)) → k ≡ length (packed_rows (containers_of g) filed 0 bs)
        same f = cc

    count-is : k ≡ length (file_cells (containers_of g) filed 0 bs [])
    count-is = counted.1 ∙ rows-count (containers_of g) filed bs few

    abbrev full : Bool
    full = ltb (length l.keys) k || ltb (length l.large) size

    by_room : fault tests ≡ fault (record { number = 12; fails = full } ∷ [])
    unfolding tests row_tests file_index too_far fault
    by_room = rw (counted.0, ← count-is, ← z)

    pub finish-full : full ≡ true → record { answer = refused 12; lists = l } ≡ finish_of g apart limit bs l
    unfolding fault
    finish-full h = refuse_last 12 (by_room ∙ rw h)

    module _ (h : full ≡ false) where
      pub finish-fits : Fitting (containers_of g) filed bs l.keys
      finish-fits = record { near = counted.0; room = rw (← counted.1) (ltb-false (length l.keys) k (or_left (ltb (length l.keys) k) (ltb (length l.large) size) h)) }

      pub finish-room : length (large_of apart limit bs) ≤ length l.large
      finish-room = rw (← z) (ltb-false (length l.large) size (or_right (ltb (length l.keys) k) (ltb (length l.large) size) h))

      no_fault : fault tests ≡ none
      unfolding fault
      no_fault = by_room ∙ rw h

      pub finish-made : {keys cells large : List ℕ} → Filed (file_cells (containers_of g) filed 0 bs []) l.keys l.cells keys cells → large ≡ over (large_of apart limit bs) l.large
          → record { answer = success (with_rows g k); lists = index_lists keys cells large } ≡ finish_of g apart limit bs l
      unfolding settle_build file_index
      finish-made f j = (λ i. record { answer = success (with_rows g (count-is i)); lists = index_lists (f.keys-are i) (f.cells_are i) (j i) }) ∙ settle-with none no_fault
