-- The sheet from its parts, each made from positions, is the one that the lists of coordinates give. Assumes nothing.
use Prim.Native.Nat.{ℕ, ◌≤◌}
use mathlib.Core.Path.{◌≡◌, sym, ◌∙◌}
use mathlib.Core.Bool.{true}
use lib.ListN.{length}
use lib.Ieee.{Float}
use Rattle.basics.specs.Lists.{all}
use Rattle.floats.specs.Rounded.{◌⊗◌, ◌⊘◌, pow2}
use Rattle.geometry.specs.declared.Position.{Position}
use Rattle.geometry.specs.Position.{coords, position_of, dimension}
use Rattle.geometry.proofs.Axes.{coords-length, coords_of, entries_of}
use Rattle.grid.specs.declared.Divisions.{Divisions}
use Rattle.grid.specs.Divisions.{counts, divisions_of, division, num_divisions}
use Rattle.grid.proofs.Shares.{divisions-length}
use Rattle.std.specs.Prelude.{Option}
use Rattle.grid_search.specs.declared.GridSearch.{GridSearch}
use Rattle.grid_search.specs.Sheet.{number_of, tolerance_of, border_of, lowered, raised, side_of, covered_of, diagonal, in_order, sheet_from}
use Rattle.grid_search.proofs.Laws.{divisions-good, lowered-length, raised-length}

module _ (n : ℕ) (low high : Position) (d : dimension n ≡ true) where
  pub both-lengths : length (coords n high) ≡ length (coords n low)
  both-lengths = coords-length n high d ∙ sym (coords-length n low d)

  -- the divisions
  counts-are : (number : ℕ) (ndiv : Divisions) → ndiv ≡ divisions_of (num_divisions number (coords n low) (coords n high)) → counts n ndiv ≡ num_divisions number (coords n low) (coords n high)
  counts-are number ndiv e = rw e (entries_of 1 n (num_divisions number (coords n low) (coords n high)) d (divisions-length number (coords n low) (coords n high) both-lengths ∙ coords-length n low d))

  pub counts-good : (number : ℕ) (ndiv : Divisions) → ndiv ≡ divisions_of (num_divisions number (coords n low) (coords n high)) → 1 ≤ number
      → number ≤ 1024 → in_order (coords n low) (coords n high) ≡ true → all division (counts n ndiv) ≡ true
  counts-good number ndiv e P N h = rw (counts-are number ndiv e) (divisions-good number (coords n low) (coords n high) P N h)

  -- the corners
  lowered-are : (border : Float) (xmin : Position) → xmin ≡ position_of (lowered border (coords n low)) → coords n xmin ≡ lowered border (coords n low)
  lowered-are border xmin e = coords_of n (lowered border (coords n low)) xmin d (lowered-length border (coords n low) ∙ coords-length n low d) e

  raised-are : (border : Float) (xmax : Position) → xmax ≡ position_of (raised border (coords n high)) → coords n xmax ≡ raised border (coords n high)
  raised-are border xmax e = coords_of n (raised border (coords n high)) xmax d (raised-length border (coords n high) ∙ coords-length n high d) e

  pub built-is : (number : Option ℕ) (tolerance border : Option Float) (num : ℕ) (bor tol : Float) (lo hi xmin wide xmax : Position) (ndiv : Divisions) (side r : Float)
      → num ≡ number_of number → bor ≡ border_of border → tol ≡ tolerance_of tolerance → lo ≡ position_of (coords n low) → hi ≡ position_of (coords n high)
      → ndiv ≡ divisions_of (num_divisions num (coords n low) (coords n high)) → xmin ≡ position_of (lowered bor (coords n low)) → wide ≡ position_of (raised bor (coords n high))
      → side ≡ side_of (coords n xmin) (coords n wide) (counts n ndiv) → xmax ≡ position_of (covered_of side (coords n xmin) (counts n ndiv)) → r ≡ diagonal n
      → ◌≡◌ {A = GridSearch}
      (record {
        ndim = n;
        low = lo;
        high = hi;
        number = number;
        tolerance = tolerance;
        border_tol = border;
        ndiv = ndiv;
        xmin = xmin;
        xmax =
            xmax;
        side_length = side;
        tol_dist = r ⊗ tol;
        radius = r ⊗ side ⊘ pow2 1;
      })
      (sheet_from (coords n low) (coords n high) number tolerance border)
  unfolding sheet_from
  built-is number tolerance border num bor tol lo hi xmin wide xmax ndiv side r e1 e2 e3 e4 e5 e6 e7 e8 e9 e10 e11 =
      rw (e10, e9, lowered-are bor xmin e7, raised-are bor wide e8, counts-are num ndiv e6, e6, e7, e4, e5, e11, e1, e2, e3, coords-length n low d)
