-- What a search answers: a law for each way out of the code.
-- Assumes nothing.
use Prim.Native.Nat.{ℕ, ◌+◌, ◌<◌}
use mathlib.Core.Path.{◌≡◌, sym, ap, ◌∙◌}
use mathlib.Core.Bool.{false}
use mathlib.Core.Option as math
use mathlib.Core.Option.{none, some}
use mathlib.Core.List.{List, [], ◌∷◌}
use lib.Dec.{eqb}
use lib.ListN.{length}
use lib.Ieee.{Float}
use borrow.Author.Tests.{eqb-true, not-false}
use Rattle.std.specs.Option.{ok_or}
use Rattle.basics.specs.declared.Refusal.TheVariants as refusal
use Rattle.basics.proofs.Bools.{by_test}
use Rattle.basics.specs.Lists.{over}
use Rattle.basics.specs.Refusals.{refuse, fault, refused, success, answer}
use Rattle.basics.proofs.Refusals.{Passed, unrefused, fault_stop, fault-right}
use Rattle.geometry.specs.declared.Position.{Position}
use Rattle.geometry.specs.Position.{coords, position_of}
use Rattle.geometry.proofs.Axes.{coords_of}
use Rattle.geometry.specs.Cells.{zetas}
use Rattle.floats.specs.Rounded.{zero_f}
use Rattle.mesh.specs.Mesh.{Mesh, seen}
use Rattle.mesh.specs.Cell.{contains}
use Rattle.cell_rows.specs.Filing.{cell_key, cell_exceeds}
use Rattle.cell_rows.proofs.Corners.{key-small}
use Rattle.cell_rows.specs.declared.Containers.{Containers}
use Rattle.cell_rows.specs.Steps.{cell_container}
use Rattle.grid_cells.specs.declared.GridCells.{GridCells}
use Rattle.grid_cells.specs.Build.{containers_of, IndexLists}
use Rattle.grid_cells.proofs.Ways.{answered_by, refused_by}
use Rattle.cell_index.specs.Index.{index_tests}
use Rattle.cell_index.proofs.Sound.{usable, usable_by}
use Rattle.cell_index.specs.Steps.{Usable}
use Rattle.cell_index.specs.declared.SoundIndex.{SoundIndex}
use Rattle.grid_cells.specs.Lent.{lent}
use Rattle.std.specs.Prelude.{Some, None, Ok}
use Rattle.cell_search.specs.declared.Found.{Found}
use Rattle.cell_search.specs.Steps.{asked, found_of, first_found}
use Rattle.cell_search.specs.Search.{asked_tests, cell_search_tests, candidates, first_cell, answer_cell, try_cells, settle_search, cell_search, leaves}

-- what the code's index gives
pub usable_index : (i : SoundIndex) → Usable i.grid (seen i.mesh.mesh) (lent i.lists)
usable_index i = usable_by i.grid (seen i.mesh.mesh) (lent i.lists) (record { axes = rw i.axes at i.mesh.ndim.two_or_three; whole = rw i.axes at i.mesh.whole }) i.sound

-- the last test of what is asked: 17
pub last_asked : (g : Containers) (x : List Float) → asked (ok_or (cell_container g x) refusal.Ratio) ≡ answer (fault (refuse 17 (cell_exceeds g x) ∷ [])) (cell_key g x)
unfolding cell_container fault answer
last_asked g x = by_test (cell_exceeds g x) (λ e. rw e) (λ e. rw e)

-- what is told of a cell that was found, and of none
module _ (n : ℕ) (m : Mesh) (zeta x : List Float) where
  told_none : (o : math.Option ℕ) → None ≡ found_of n m x o → leaves (Ok None) zeta ≡ answer_cell n m zeta x o
  unfolding found_of answer_cell
  told_none math.none e = λ i. record { answer = success math.none; zeta = zeta }
  told_none (math.some c) e = absurd (never e)
    where
      never : {r : Found} → None ≡ Some r → ⊥
      never f = cc

  told-some : (r : Found) (o : math.Option ℕ) → Some r ≡ found_of n m x o → leaves (Ok (Some r.cell)) (over (zetas (n + 1) r.zeta) zeta) ≡ answer_cell n m zeta x o
  unfolding found_of answer_cell
  told-some r math.none e = absurd (never e)
    where
      never : Some r ≡ None → ⊥
      never f = cc
  told-some r (math.some c) e = rw (same e)
    where
      same : {s : Found} → Some r ≡ Some s → r ≡ s
      same f = cc

module _ (g : GridCells) (m : Mesh) (l : IndexLists) (zeta x : List Float) where
  abbrev tried : List ℕ
  tried = candidates g l (cell_key (containers_of g) x)

  by_fault : (o : math.Option ℕ) → fault (cell_search_tests g m l zeta x) ≡ o → settle_search o zeta (try_cells g.ndim m zeta x tried) ≡ cell_search g m l zeta x
  unfolding cell_search
  by_fault o e = ap (λ (f : math.Option ℕ). settle_search f zeta (try_cells g.ndim m zeta x tried)) (sym e)

  turned_away : (n : ℕ) → fault (cell_search_tests g m l zeta x) ≡ some n → record { answer = refused n; zeta = zeta } ≡ cell_search g m l zeta x
  unfolding settle_search
  turned_away n e = by_fault (some n) e

  -- 1, 24, 19, 13
  pub refuse-index : {n : ℕ} → some n ≡ fault (index_tests g m l) → record { answer = refused n; zeta = zeta } ≡ cell_search g m l zeta x
  unfolding cell_search_tests
  refuse-index {n} e = turned_away n (fault_stop (index_tests g m l) (asked_tests g m.points (length zeta) x) n (sym e))

  module _ (e : fault (index_tests g m l) ≡ none) where
    after_index : fault (cell_search_tests g m l zeta x) ≡ fault (asked_tests g m.points (length zeta) x)
    unfolding cell_search_tests
    after_index = fault-right (index_tests g m l) (asked_tests g m.points (length zeta) x) e

    -- 25, 2, 3, 11, 17
    pub refuse-asked : {n : ℕ} → refused n ≡ answer (fault (asked_tests g m.points (length zeta) x)) (cell_key (containers_of g) x)
        → record { answer = refused n; zeta = zeta } ≡ cell_search g m l zeta x
    refuse-asked {n} f = turned_away n (after_index ∙ refused_by (fault (asked_tests g m.points (length zeta) x)) n (cell_key (containers_of g) x) f)

    module _ {k : ℕ} (f : success k ≡ answer (fault (asked_tests g m.points (length zeta) x)) (cell_key (containers_of g) x)) where
      asked_passed : (fault (asked_tests g m.points (length zeta) x) ≡ none) × (k ≡ cell_key (containers_of g) x)
      asked_passed = answered_by (fault (asked_tests g m.points (length zeta) x)) k (cell_key (containers_of g) x) f

      passes : Passed (asked_tests g m.points (length zeta) x)
      passes = unrefused (asked_tests g m.points (length zeta) x) asked_passed.0

      pub pass-zeta : length zeta ≡ 4
      unfolding asked_tests
      pass-zeta = eqb-true (length zeta) 4 (not-false (eqb (length zeta) 4) passes.0)

      module _ {p : Position} (i : p ≡ position_of x) where
        pub pass-coords : coords g.ndim p ≡ x
        unfolding asked_tests
        pass-coords = coords_of g.ndim x p (usable g m l e).whole.axes (eqb-true (length x) g.ndim (not-false (eqb (length x) g.ndim) passes.1.0)) i

        near : cell_exceeds (containers_of g) (coords g.ndim p) ≡ false
        unfolding asked_tests
        near = rw pass-coords passes.1.1.1.1.0

        pub pass-key : k < 1073741824
        pass-key = rw (asked_passed.1, ← pass-coords) (key-small (containers_of g) p (usable g m l e).keyed near)

        answered : try_cells g.ndim m zeta (coords g.ndim p) (candidates g l k) ≡ cell_search g m l zeta x
        unfolding settle_search
        answered = rw (pass-coords, asked_passed.1) (by_fault none (after_index ∙ asked_passed.0))

        pub answered_none : None ≡ first_found g.ndim m (coords g.ndim p) (candidates g l k) → leaves (Ok None) zeta ≡ cell_search g m l zeta x
        unfolding first_found try_cells
        answered_none e = told_none g.ndim m zeta (coords g.ndim p) (first_cell (contains g.ndim m zero_f (coords g.ndim p)) (candidates g l k)) e ∙ answered

        pub answered-some : {r : Found} {zeta' : List Float} → Some r ≡ first_found g.ndim m (coords g.ndim p) (candidates g l k) → zeta' ≡ over (zetas (g.ndim + 1) r.zeta) zeta
            → leaves (Ok (Some r.cell)) zeta' ≡ cell_search g m l zeta x
        unfolding first_found try_cells
        answered-some {r} e z = rw z (told-some g.ndim m zeta (coords g.ndim p) r (first_cell (contains g.ndim m zero_f (coords g.ndim p)) (candidates g l k)) e ∙ answered)
