-- Settings in force: what they are where they are left out, and the tests that they alone decide among those of a sheet.
-- Assumes nothing.
use Rattle.std.proofs.Common.{ℕ, ◌≤◌, arith, ◌≡◌, refl, sym, ◌∙◌, true, false, List, [], ◌∷◌, ◌++◌, length, eqb, Float, Option, Some, None}
use Rattle.std.specs.Prelude.{unwrap_or}
use lib.Ieee.{binary64, of_bits, le}
use borrow.Author.Tests.{eqb-false, ltb-false, not-false}
use Rattle.std.proofs.Math.Option.{none, some}
use Rattle.basics.specs.Refusals.{Test, refuse, fault, refused, success}
use Rattle.basics.proofs.Refusals.{unrefused, fault_stop, fault-right}
use Rattle.floats.specs.Rounded.{◌⊗◌, pow2}
use Rattle.geometry.specs.Position.{dimension}
use Rattle.grid_search.specs.Sheet.{in_order, number_of, tolerance_of, border_of, sheet_tests, sheet_from, new_sheet}
use Rattle.grid_search.specs.Steps.{in_force_tests}

pub number-is : (o : Option ℕ) → unwrap_or o 100 ≡ number_of o
unfolding number_of
number-is None = refl
number-is (Some n) = refl

pub tolerance-is : (o : Option Float) → unwrap_or o (of_bits binary64 4547007122018943789) ≡ tolerance_of o
unfolding tolerance_of of_bits
tolerance-is None = refl
tolerance-is (Some t) = refl

pub border-is : (o : Option Float) → unwrap_or o (of_bits binary64 4576918229304087675) ≡ border_of o
unfolding border_of of_bits
border-is None = refl
border-is (Some b) = refl

-- the tests of settings in force, of what the code has in their place
pub tests-are : (lo hi : List Float) (number : Option ℕ) (tolerance border : Option Float) (n : ℕ) (t b : Float)
    → n ≡ unwrap_or number 100 → t ≡ unwrap_or tolerance (of_bits binary64 4547007122018943789) → b ≡ unwrap_or border (of_bits binary64 4576918229304087675)
    → in_force_tests lo hi n t b ≡ in_force_tests lo hi (number_of number) (tolerance_of tolerance) (border_of border)
tests-are lo hi number tolerance border n t b x y z = rw (x ∙ number-is number, y ∙ tolerance-is tolerance, z ∙ border-is border)

-- what is known of settings that are not turned away
pub record InForce (lo hi : List Float) (n : ℕ) : Type 0 where
  pub least : 1 ≤ n
  pub most : n ≤ 1024
  pub order : in_order lo hi ≡ true

pub in_force-passed : (lo hi : List Float) (n : ℕ) (t b : Float) → fault (in_force_tests lo hi n t b) ≡ none → InForce lo hi n
unfolding in_force_tests
in_force-passed lo hi n t b e =
    let p = unrefused (in_force_tests lo hi n t b) e in
    record {
      least = one n (eqb-false n 0 p.1.0);
      most = ltb-false 1024 n p.1.1.1.0;
      order = not-false (in_order lo hi) p.1.1.1.1.0;
    }
  where
    one : (n : ℕ) → (n ≡ 0 → ⊥) → 1 ≤ n
    one n h = omega arith

-- corners of one dimension, with settings
module _ (lo hi : List Float) (number : Option ℕ) (tolerance border : Option Float)
    (d : dimension (length lo) ≡ true) (l : eqb (length hi) (length lo) ≡ true) where
  abbrev pub in_force : List Test
  in_force = in_force_tests lo hi (number_of number) (tolerance_of tolerance) (border_of border)

  last : Test
  last = refuse 10 (le (sheet_from lo hi number tolerance border).side_length (pow2 1 ⊗ tolerance_of tolerance))

  faults : fault (sheet_tests lo hi number tolerance border) ≡ fault (in_force ++ last ∷ [])
  unfolding sheet_tests in_force_tests fault last
  faults = rw (d, l)

  pub refused_by : (k : ℕ) → some k ≡ fault in_force → refused k ≡ new_sheet lo hi number tolerance border
  unfolding new_sheet
  refused_by k e = rw (faults, fault_stop in_force (last ∷ []) k (sym e))

  module _ (e : none ≡ fault in_force) where
    pub refused_10 : le (sheet_from lo hi number tolerance border).side_length (pow2 1 ⊗ tolerance_of tolerance) ≡ true → refused 10 ≡ new_sheet lo hi number tolerance border
    unfolding new_sheet last fault
    refused_10 h = rw (faults, fault-right in_force (last ∷ []) (sym e), h)

    pub all_passed : le (sheet_from lo hi number tolerance border).side_length (pow2 1 ⊗ tolerance_of tolerance) ≡ false
        → success (sheet_from lo hi number tolerance border) ≡ new_sheet lo hi number tolerance border
    unfolding new_sheet last fault
    all_passed h = rw (faults, fault-right in_force (last ∷ []) (sym e), h)
