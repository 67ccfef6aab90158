-- A build that was accepted: the tests that it passed, by name, and what holds of every index that a build gives.
-- Assumes nothing.
use Prim.Native.Nat.{ℕ, ◌≤◌}
use native.Mathlib.Omega.{arith}
use mathlib.Core.Path.{◌≡◌, refl, subst}
use mathlib.Core.Bool.{true, false, not, ◌&&◌, ◌||◌}
use mathlib.Core.Option.{Option, none, some}
use mathlib.Core.List.{List, []}
use lib.Dec.{ltb, eqb}
use lib.ListN.{length}
use lib.Ieee.{Float, lt, le}
use borrow.Author.Tests.{not-false, eqb-true, eqb-false, ltb-false}
use Rattle.basics.proofs.Bools.{and_both, or_left, or_right}
use Rattle.basics.specs.Lists.{all, any}
use Rattle.basics.specs.Refusals.{fault, Answer, refused, success}
use Rattle.basics.proofs.Refusals.{Passed, unrefused}
use Rattle.floats.specs.Rounded.{zero_f}
use Rattle.geometry.specs.Position.{dimension, coordinate}
use Rattle.grid_search.specs.Sheet.{in_order}
use Rattle.grid.specs.Divisions.{counts, division}
use Rattle.mesh.specs.Mesh.{Mesh, Box, cell_count, mesh_too_long, broken_mesh}
use Rattle.cell_sizes.specs.declared.Settings.{Settings}
use Rattle.cell_sizes.specs.Large.{measure, is_filed}
use Rattle.cell_rows.specs.Filing.{box_exceeds}
use Rattle.grid_cells.specs.declared.GridCells.{GridCells}
use Rattle.grid_cells.specs.Build.{IndexLists, lists_too_long, file_index, make, index, containers_of, low_corner, high_corner, settings_ok, size_tests, given_tests, division_tests, frame_tests, row_tests, later_tests, build_tests, settle_build, build}
use Rattle.grid_cells.proofs.Ways.{divided}
use Rattle.cell_search.specs.Search.{asked_tests, cell_search_tests}

pub record Accepted (n : ℕ) (m : Mesh) (t : Settings) (l : IndexLists) : Type 0 where
  pub axes : dimension n ≡ true
  pub short : (mesh_too_long n m || lists_too_long l) ≡ false
  pub lengths : length l.cells ≡ length l.keys
  pub whole : broken_mesh n m ≡ false
  pub coordinates : all coordinate m.points ≡ true
  pub settings : settings_ok t ≡ true
  pub tolerated : le t.tolerance zero_f ≡ false
  pub bordered : lt t.border_tol zero_f ≡ false
  pub some-cells : cell_count n m ≡ 0 → ⊥
  pub divisions : all division (counts n (make n (measure n m t) t).grid.ndiv) ≡ true
  pub inside : any (λ (b : Box). is_filed (measure n m t).apart (measure n m t).limit b && box_exceeds (containers_of (make n (measure n m t) t).grid) b) (measure n m t).all-boxes ≡ false
  pub rows_fit : length (make n (measure n m t) t).rows ≤ length l.keys
  pub large-fit : length (make n (measure n m t) t).large ≤ length l.large

pub accepted : (n : ℕ) (m : Mesh) (t : Settings) (l : IndexLists) → fault (build_tests n m t l) ≡ none → Accepted n m t l
unfolding build_tests size_tests later_tests given_tests frame_tests division_tests row_tests make file_index index
accepted n m t l e = go (unrefused (build_tests n m t l) e)
  where
    go : Passed (build_tests n m t l) → Accepted n m t l
    go p =
        let q = p.1.1.1.1 in
        let r = q.1.1.1.1.1.1.1 in
        let w = measure n m t in
        let k = make n w t in
        let c = and_both (all coordinate m.points) (settings_ok t) (not-false (all coordinate m.points && settings_ok t) q.0) in
        record {
          axes = not-false (dimension n) p.0;
          short = p.1.0;
          lengths = eqb-true (length l.cells) (length l.keys) (not-false (eqb (length l.cells) (length l.keys)) p.1.1.0);
          whole = p.1.1.1.0;
          coordinates = c.0;
          settings = c.1;
          tolerated = q.1.0;
          bordered = q.1.1.0;
          some-cells = eqb-false (cell_count n m) 0 q.1.1.1.1.1.0;
          divisions = divided (counts n k.grid.ndiv) (or_right (not (in_order (low_corner w t) (high_corner w t))) (any (λ (d : ℕ). eqb d 0) (counts n k.grid.ndiv)) r.0) r.1.0;
          inside = r.1.1.0;
          rows_fit = ltb-false (length l.keys) (length k.rows) (or_left (ltb (length l.keys) (length k.rows)) (ltb (length l.large) (length k.large)) r.1.1.1.0);
          large-fit = ltb-false (length l.large) (length k.large) (or_right (ltb (length l.keys) (length k.rows)) (ltb (length l.large) (length k.large)) r.1.1.1.0);
        }

refused-not : {A : Type 0} {B : Type 0} (r : ℕ) (g : A) → ◌≡◌ {A = Answer A} (refused r) (success g) → B
refused-not r g e = let z : ◌≡◌ {A = ℕ} 0 1 = cc in absurd (omega arith)

success-is : {A : Type 0} (g h : A) → ◌≡◌ {A = Answer A} (success g) (success h) → g ≡ h
success-is g h e = cc

-- what holds of the index made by a build that was not refused holds of every index that a build gives
module _ (n : ℕ) (m : Mesh) (t : Settings) (l : IndexLists) (P : GridCells → IndexLists → Type 0)
    (of-made : Accepted n m t l → P (make n (measure n m t) t).grid (settle_build none (make n (measure n m t) t) l).lists) where
  pub of_built : (g : GridCells) → (build n m t l).answer ≡ success g → P g (build n m t l).lists
  unfolding build settle_build
  of_built g e = go (fault (build_tests n m t l)) refl e
    where
      go : (o : Option ℕ) → fault (build_tests n m t l) ≡ o → (settle_build o (make n (measure n m t) t) l).answer ≡ success g → P g (settle_build o (make n (measure n m t) t) l).lists
      go (some r) h e = refused-not r g e
      go none h e = subst (λ (i : GridCells). P i (settle_build none (make n (measure n m t) t) l).lists) (success-is (make n (measure n m t) t).grid g e) (of-made (accepted n m t l h))

-- a search of an index is turned away only for what is asked
abbrev pub Served : GridCells → Mesh → IndexLists → List Float → List Float → Type 0
Served g m k zeta x = fault (cell_search_tests g m k zeta x) ≡ fault (asked_tests g [] (length zeta) x)
