-- The index without rows: what the code holds is what the definition gives.
-- Assumes nothing.
use Prim.Native.Nat.{ℕ, suc}
use native.Mathlib.Omega.{arith}
use mathlib.Core.Path.{◌≡◌, refl, sym, ap, ◌∙◌}
use mathlib.Core.Bool.{Bool, true, false, not, ◌&&◌}
use mathlib.Core.Option.{Option, none, some}
use mathlib.Core.List.{List, [], ◌∷◌, map}
use lib.Dec.{eqb}
use lib.ListN.{length}
use lib.Ieee.{Float}
use Rattle.basics.proofs.Bools.{or_right}
use Rattle.basics.specs.Lists.{all, any, zip_with}
use Rattle.basics.specs.Refusals.{fault, refused, success, answer}
use Rattle.basics.proofs.Refusals.{unrefused}
use Rattle.floats.specs.Rounded.{◌⊕◌, ◌⊗◌, pow2}
use Rattle.geometry.specs.declared.Position.{Position}
use Rattle.geometry.specs.Position.{coords, position_of, dimension}
use Rattle.geometry.proofs.Axes.{coords_of, coords-length, entries_of}
use Rattle.grid.specs.declared.Divisions.{Divisions}
use Rattle.grid.specs.Divisions.{counts, divisions_of, division}
use Rattle.grid_search.specs.Sheet.{lowered, raised, covered_of, in_order}
use Rattle.mesh.specs.Mesh.{Mesh, Box, cell_count, least, greatest}
use Rattle.cell_sizes.specs.declared.Settings.{Settings}
use Rattle.cell_sizes.specs.declared.Sizes.{Sizes}
use Rattle.cell_sizes.specs.Large.{boxes, Measured, measure, nothing_filed}
use Rattle.grid_cells.specs.Build.{low_corner, high_corner, cell_side, cell_divisions, index, division_tests, frame_tests}
use Rattle.cell_sizes.specs.Steps.{Sized, kept, count_in}
use Rattle.cell_sizes.proofs.Boxes.{length-boxes}
use Rattle.grid_search.proofs.Laws.{lowered-length, raised-length}
use Rattle.grid_cells.proofs.Ways.{divided}

length_zip : {A B C : Type 0} (f : A → B → C) (xs : List A) (ys : List B) → length xs ≡ length ys → length (zip_with f xs ys) ≡ length xs
unfolding zip_with
length_zip f [] ys e = refl
length_zip f (x ∷ xs) [] e = absurd (omega arith)
length_zip f (x ∷ xs) (y ∷ ys) e = ap suc (length_zip f xs ys (omega arith))

-- no test fails: every axis has from 1 to 1,024 divisions
pub frame_divided : (low high : List Float) (ns : List ℕ) → fault (division_tests low high ns) ≡ none → all division ns ≡ true
unfolding division_tests all
frame_divided low high ns e =
    let p = unrefused (division_tests low high ns) e in
    divided ns (or_right (not (in_order low high)) (any (λ (d : ℕ). eqb d 0) ns) p.0) p.1.0

after_first : (n : ℕ) (w : Measured) (t : Settings) → nothing_filed w ≡ false → fault (frame_tests n w t) ≡ fault (division_tests (low_corner w t) (high_corner w t) (counts n (index n w t).ndiv))
unfolding frame_tests fault
after_first n w t e = rw e

module _ {n : ℕ} {m : Mesh} {t : Settings} {sizes : Sizes} (s : Sized n m t sizes) (d : dimension n ≡ true) {ncell : ℕ} (k : ncell ≡ cell_count n m) where
  boxes-are : (measure n m t).all-boxes ≡ boxes n m
  unfolding measure
  boxes-are = refl

  nothing_is : (kept sizes.apart && eqb (count_in sizes.apart) ncell) ≡ nothing_filed (measure n m t)
  unfolding nothing_filed
  nothing_is = rw (s.apart, s.large, k, boxes-are, length-boxes n m)

  pub frame_nothing : {A : Type 0} {b : Bool} (a : A) → b ≡ (kept sizes.apart && eqb (count_in sizes.apart) ncell) → b ≡ true → refused 23 ≡ answer (fault (frame_tests n (measure n m t) t)) a
  unfolding frame_tests fault answer
  frame_nothing a e f = rw (sym nothing_is ∙ sym e ∙ f)

  -- the corners and the side that the code holds
  module _ {xmin high : Position} (lo : xmin ≡ position_of (lowered t.border_tol (coords n sizes.limits.low))) (hi : high ≡ position_of (raised t.border_tol (coords n sizes.limits.high))) where
    low-is : lowered t.border_tol (coords n sizes.limits.low) ≡ low_corner (measure n m t) t
    unfolding low_corner
    low-is = ap (lowered t.border_tol) (s.low ∙ ap (λ (bs : List Box). least (map (λ (b : Box). b.low) bs)) (sym boxes-are))

    high_is : raised t.border_tol (coords n sizes.limits.high) ≡ high_corner (measure n m t) t
    unfolding high_corner
    high_is = ap (raised t.border_tol) (s.high ∙ ap (λ (bs : List Box). greatest (map (λ (b : Box). b.high) bs)) (sym boxes-are))

    xmin_is : xmin ≡ position_of (low_corner (measure n m t) t)
    xmin_is = lo ∙ ap position_of low-is

    low-axes : coords n xmin ≡ low_corner (measure n m t) t
    low-axes = coords_of n (lowered t.border_tol (coords n sizes.limits.low)) xmin d (lowered-length t.border_tol (coords n sizes.limits.low) ∙ coords-length n sizes.limits.low d) lo ∙ low-is

    high-axes : coords n high ≡ high_corner (measure n m t) t
    high-axes = coords_of n (raised t.border_tol (coords n sizes.limits.high)) high d (raised-length t.border_tol (coords n sizes.limits.high) ∙ coords-length n sizes.limits.high d) hi ∙ high_is

    module _ {side : Float} (si : side ≡ sizes.longest ⊕ pow2 1 ⊗ t.tolerance) {ndiv : Divisions} (di : ndiv ≡ divisions_of (cell_divisions side (coords n xmin) (coords n high))) where
      side_is : side ≡ cell_side (measure n m t) t
      unfolding cell_side
      side_is = si ∙ ap (λ (x : Float). x ⊕ pow2 1 ⊗ t.tolerance) s.longest

      divisions-are : ndiv ≡ divisions_of (cell_divisions (cell_side (measure n m t) t) (low_corner (measure n m t) t) (high_corner (measure n m t) t))
      divisions-are = di ∙ rw (side_is, low-axes, high-axes)

      index-divisions : divisions_of (cell_divisions (cell_side (measure n m t) t) (low_corner (measure n m t) t) (high_corner (measure n m t) t)) ≡ (index n (measure n m t) t).ndiv
      unfolding index
      index-divisions = refl

      counts-are : counts n ndiv ≡ counts n (index n (measure n m t) t).ndiv
      counts-are = ap (counts n) (divisions-are ∙ index-divisions)

      tests_are : division_tests (coords n xmin) (coords n high) (counts n ndiv) ≡ division_tests (low_corner (measure n m t) t)
          (high_corner (measure n m t) t) (counts n (index n (measure n m t) t).ndiv)
      tests_are = rw (low-axes, high-axes, counts-are)

      module _ {b : Bool} (e : b ≡ (kept sizes.apart && eqb (count_in sizes.apart) ncell)) (f : b ≡ false) where
        past-nothing : fault (frame_tests n (measure n m t) t) ≡ fault (division_tests (coords n xmin) (coords n high) (counts n ndiv))
        past-nothing = after_first n (measure n m t) t (sym nothing_is ∙ sym e ∙ f) ∙ ap fault (sym tests_are)

        pub frame_refused : {A : Type 0} {r : ℕ} (a : A) → some r ≡ fault (division_tests (coords n xmin) (coords n high) (counts n ndiv))
            → refused r ≡ answer (fault (frame_tests n (measure n m t) t)) a
        unfolding answer
        frame_refused a g = ap (λ (o : Option ℕ). answer o a) (g ∙ sym past-nothing)

        length-divisions : length (cell_divisions side (coords n xmin) (coords n high)) ≡ n
        unfolding cell_divisions
        length-divisions = length_zip _ (coords n high) (coords n xmin) (coords-length n high d ∙ sym (coords-length n xmin d)) ∙ coords-length n high d

        covered_is : {xmax : Position} → xmax ≡ position_of (covered_of side (coords n xmin) (counts n ndiv))
            → xmax ≡ position_of
            (covered_of (cell_side (measure n m t) t) (low_corner (measure n m t) t)
            (cell_divisions (cell_side (measure n m t) t) (low_corner (measure n m t) t) (high_corner (measure n m t) t)))
        covered_is x =
            x
            ∙ ap (λ (ns : List ℕ). position_of (covered_of side (coords n xmin) ns)) (ap (counts n) di ∙ entries_of 1 n (cell_divisions side (coords n xmin) (coords n high)) d length-divisions)
            ∙ rw (side_is, low-axes, high-axes)

        index_is : {xmax : Position} → xmax ≡ position_of (covered_of side (coords n xmin) (counts n ndiv))
            → record { ndim = n; ndiv = ndiv; side_length = side; xmin = xmin; xmax = xmax; used = 0; large = count_in sizes.apart } ≡ index n (measure n m t) t
        unfolding index
        index_is x = λ i. record {
          ndim = n;
          ndiv = divisions-are i;
          side_length = side_is i;
          xmin = xmin_is i;
          xmax = covered_is x i;
          used = 0;
          large = s.large i;
        }

        pub frame_made : {xmax : Position} → xmax ≡ position_of (covered_of side (coords n xmin) (counts n ndiv)) → {large : ℕ} → large ≡ count_in sizes.apart
            → none ≡ fault (division_tests (coords n xmin) (coords n high) (counts n ndiv))
            → success (record { ndim = n; ndiv = ndiv; side_length = side; xmin = xmin; xmax = xmax; used = 0; large = large }) ≡ answer
            (fault (frame_tests n (measure n m t) t)) (index n (measure n m t) t)
        unfolding answer
        frame_made x e g = rw e (ap success (index_is x) ∙ ap (λ (o : Option ℕ). answer o (index n (measure n m t) t)) (g ∙ sym past-nothing))
