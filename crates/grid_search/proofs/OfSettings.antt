-- Settings that passed the tests: the tests by name, and what holds of the sheet that they give.
-- Assumes nothing.
use Prim.Native.Nat.{ℕ, suc, ◌≤◌}
use native.Mathlib.Omega.{arith}
use mathlib.Core.Path.{◌≡◌, refl, sym, ap, ◌∙◌}
use mathlib.Core.Bool.{true, false}
use mathlib.Core.List.{List, [], ◌∷◌}
use mathlib.Core.Option.{none}
use lib.Dec.{eqb}
use lib.ListN.{length}
use lib.Ieee.{Float, lt, le, eq}
use borrow.Author.Tests.{eqb-true, eqb-false, ltb-false, not-false}
use Rattle.basics.proofs.Bools.{or_left}
use Rattle.basics.specs.Lists.{all, zip_with}
use Rattle.basics.specs.Refusals.{fault}
use Rattle.basics.proofs.Refusals.{Passed, unrefused}
use Rattle.floats.specs.Rounded.{◌⊗◌, ◌⊘◌, zero_f, pow2}
use Rattle.floats.proofs.Upto.{Upto, upto-finite, between-upto}
use Rattle.geometry.specs.Position.{dimension}
use Rattle.grid.specs.Divisions.{division, num_divisions}
use Rattle.grid.proofs.Shares.{divisions-length}
use Rattle.std.specs.Prelude.{Option}
use Rattle.grid_search.specs.Sheet.{number_of, tolerance_of, border_of, out_of_limits, in_order, sheet_from, sheet_tests, lowered, raised, side_of, covered_of, diagonal}
use Rattle.grid_search.proofs.Laws.{divisions-good, lowered-length}
use Rattle.grid_search.proofs.Sizes.{AllUpto, coordinates_sized, lowered_sized, raised_sized, side_sized, covered_sized, diagonal_sized, near_sized, radius_sized, Limited, limited, above_zero, side_above}

-- ---- the tests that settings passed, by name
pub record TestsPassed (lo hi : List Float) (number : ℕ) (tolerance border side : Float) : Type 0 where
  pub axes : dimension (length lo) ≡ true
  pub lengths : length hi ≡ length lo
  pub limits : out_of_limits lo hi tolerance border ≡ false
  pub least : 2 ≤ number
  pub most : number ≤ 1024
  pub order : in_order lo hi ≡ true
  pub tolerated : le tolerance zero_f ≡ false
  pub bordered : lt border zero_f ≡ false
  pub wide : le side (pow2 1 ⊗ tolerance) ≡ false

pub tests_passed : (lo hi : List Float) (number : Option ℕ) (tolerance border : Option Float) → fault (sheet_tests lo hi number tolerance border) ≡ none
    → TestsPassed lo hi (number_of number) (tolerance_of tolerance) (border_of border) (sheet_from lo hi number tolerance border).side_length
unfolding sheet_tests
tests_passed lo hi number tolerance border e = go (unrefused (sheet_tests lo hi number tolerance border) e)
  where
    two : (n : ℕ) → (n ≡ 0 → ⊥) → (n ≡ 1 → ⊥) → 2 ≤ n
    two n h k = omega arith

    go : Passed (sheet_tests lo hi number tolerance border) → TestsPassed lo hi (number_of number) (tolerance_of tolerance) (border_of border) (sheet_from lo hi number tolerance border).side_length
    go p =
        let q = p.1.1.1 in
        record {
          axes = not-false (dimension (length lo)) p.0;
          lengths = eqb-true (length hi) (length lo) (not-false (eqb (length hi) (length lo)) p.1.0);
          limits = p.1.1.0;
          least = two (number_of number) (eqb-false (number_of number) 0 q.0) (eqb-false (number_of number) 1 q.1.0);
          most = ltb-false 1024 (number_of number) q.1.1.0;
          order = not-false (in_order lo hi) q.1.1.1.0;
          tolerated = q.1.1.1.1.0;
          bordered = q.1.1.1.1.1.0;
          wide = q.1.1.1.1.1.1.0;
        }

covered_length : (side : Float) (xs : List Float) (ns : List ℕ) → length ns ≡ length xs → length (covered_of side xs ns) ≡ length xs
unfolding covered_of zip_with
covered_length side [] ns e = refl
covered_length side (x ∷ xs) [] e = absurd (omega arith)
covered_length side (x ∷ xs) (n ∷ ns) e = ap suc (covered_length side xs ns (omega arith))

below-zero : (x : Float) → le x zero_f ≡ false → lt x zero_f ≡ false
unfolding le
below-zero x h = or_left (lt x zero_f) (eq x zero_f) h

-- ---- what holds of the sheet that such settings give
module _ (lo hi : List Float) (number : Option ℕ) (tolerance border : Option Float) where
  abbrev pub divisions_from : List ℕ
  divisions_from = num_divisions (number_of number) lo hi

  abbrev pub xmin_from : List Float
  xmin_from = lowered (border_of border) lo

  abbrev pub side_from : Float
  side_from = side_of xmin_from (raised (border_of border) hi) divisions_from

  abbrev pub xmax_from : List Float
  xmax_from = covered_of side_from xmin_from divisions_from

  pub record OfSettings : Type 0 where
    pub tests : TestsPassed lo hi (number_of number) (tolerance_of tolerance) (border_of border) side_from
    pub limits : Limited lo hi (tolerance_of tolerance) (border_of border)
    pub counts-length : length divisions_from ≡ length lo
    pub xmin_length : length xmin_from ≡ length lo
    pub xmax_length : length xmax_from ≡ length lo
    pub divisions : all division divisions_from ≡ true
    pub tolerance_above : lt zero_f (tolerance_of tolerance) ≡ true
    pub xmin : AllUpto 1049600 xmin_from
    pub xmax : AllUpto 2150630400 xmax_from
    pub side : Upto 2099200 side_from
    pub side_above_zero : lt zero_f side_from ≡ true
    pub near : Upto 2048 (diagonal (length lo) ⊗ tolerance_of tolerance)
    pub radius : Upto 4198400 (diagonal (length lo) ⊗ side_from ⊘ pow2 1)

  pub of_settings : fault (sheet_tests lo hi number tolerance border) ≡ none → OfSettings
  unfolding sheet_from
  of_settings e =
      let a = tests_passed lo hi number tolerance border e in
      let l = limited lo hi (tolerance_of tolerance) (border_of border) a.limits in
      let b = between-upto 10 (border_of border) l.border_finite l.border_most a.bordered in
      let t = between-upto 10 (tolerance_of tolerance) l.tolerance_finite l.tolerance_most (below-zero (tolerance_of tolerance) a.tolerated) in
      let ta = above_zero (tolerance_of tolerance) l.tolerance_finite a.tolerated in
      let nl = divisions-length (number_of number) lo hi a.lengths in
      let xl = lowered-length (border_of border) lo in
      let g = divisions-good (number_of number) lo hi (omega (arith, a.least)) a.most a.order in
      let x = lowered_sized (border_of border) lo b (coordinates_sized lo l.low) in
      let w = side_sized xmin_from (raised (border_of border) hi) divisions_from x (raised_sized (border_of border) hi b (coordinates_sized hi l.high)) g in
      let d = diagonal_sized (length lo) a.axes in
      record {
        tests = a;
        limits = l;
        counts-length = nl;
        xmin_length = xl;
        xmax_length = covered_length side_from xmin_from divisions_from (nl ∙ sym xl) ∙ xl;
        divisions = g;
        tolerance_above = ta;
        xmin = x;
        xmax = covered_sized side_from xmin_from divisions_from w x g;
        side = w;
        side_above_zero = side_above side_from (tolerance_of tolerance) (upto-finite 2099200 side_from w) l.tolerance_finite ta a.wide;
        near = near_sized (diagonal (length lo)) (tolerance_of tolerance) d t;
        radius = radius_sized (diagonal (length lo)) side_from d w;
      }
