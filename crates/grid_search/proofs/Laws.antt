-- Laws of the sheet: the divisions of corners in order are from 1 to 1,024, and each way that the tests can go. Assumes nothing.
use Prim.Native.Nat.{ℕ, ◌≤◌}
use native.Mathlib.Omega.{arith}
use mathlib.Core.Path.{◌≡◌, refl}
use mathlib.Core.Bool.{true, false}
use mathlib.Core.List.{List, [], ◌∷◌}
use lib.Dec.{leb, ltb, eqb}
use lib.ListN.{length, length-map}
use lib.Ieee.{Float, lt, le}
use borrow.Author.Tests.{leb-true, le-leb}
use Rattle.basics.proofs.Bools.{by_test, both, and_left, and_right, and_both}
use Rattle.basics.specs.Lists.{all}
use Rattle.basics.specs.Refusals.{refused}
use Rattle.floats.specs.Rounded.{◌⊖◌, zero_f}
use Rattle.floats.proofs.Upto.{unsigned, sub_unsigned}
use Rattle.geometry.specs.Position.{dimension}
use Rattle.geometry.specs.Distances.{from}
use Rattle.grid.specs.Divisions.{division, num_divisions}
use Rattle.grid.proofs.Shares.{up_to_number, divisions_range}
use Rattle.std.specs.Prelude.{Option}
use Rattle.grid_search.specs.Sheet.{number_of, tolerance_of, border_of, lowered, raised, in_order, out_of_limits, new_sheet}

-- ---- divisions
pub lengths_unsigned : (lo hi : List Float) → in_order lo hi ≡ true → all unsigned (from lo hi) ≡ true
unfolding in_order from all
lengths_unsigned lo [] h = refl
lengths_unsigned [] (b ∷ his) h = refl
lengths_unsigned (a ∷ los) (b ∷ his) h = both (sub_unsigned a b (and_left (lt a b) (in_order los his) h)) (lengths_unsigned los his (and_right (lt a b) (in_order los his) h))

widen : (number : ℕ) (ns : List ℕ) → number ≤ 1024 → all (up_to_number number) ns ≡ true → all division ns ≡ true
unfolding all
widen number [] k h = refl
widen number (n ∷ ns) k h =
    let a = and_both (up_to_number number n) (all (up_to_number number) ns) h in
    both (both (and_left (leb 1 n) (leb n number) a.0) (le-leb n 1024 (omega (arith, leb-true n number (and_right (leb 1 n) (leb n number) a.0))))) (widen number ns k a.1)

pub divisions-good : (number : ℕ) (lo hi : List Float) → 1 ≤ number → number ≤ 1024 → in_order lo hi ≡ true → all division (num_divisions number lo hi) ≡ true
divisions-good number lo hi P N h = widen number (num_divisions number lo hi) N (divisions_range number P (omega arith) lo hi (lengths_unsigned lo hi h))

-- ---- lengths
pub lowered-length : (border : Float) (l : List Float) → length (lowered border l) ≡ length l
unfolding lowered
lowered-length border l = by_test (lt zero_f border) (λ e. rw e (length-map l (λ (a : Float). a ⊖ border))) (λ e. rw e)

pub raised-length : (border : Float) (l : List Float) → length (raised border l) ≡ length l
unfolding raised
raised-length border l = by_test (lt zero_f border) (λ e. rw e (length-map l _)) (λ e. rw e)

-- ---- the ways that the tests can go, in their order
module _ (lo hi : List Float) (number : Option ℕ) (tolerance border : Option Float) where
  pub refused_1 : dimension (length lo) ≡ false → refused 1 ≡ new_sheet lo hi number tolerance border
  unfolding new_sheet
  refused_1 h = rw (h)

  module _ (d : dimension (length lo) ≡ true) where
    pub refused_2 : eqb (length hi) (length lo) ≡ false → refused 2 ≡ new_sheet lo hi number tolerance border
    unfolding new_sheet
    refused_2 h = rw (d, h)

-- 8 is what turns settings away that pass the tests before it
pub refused_8 : (lo hi : List Float) (number : Option ℕ) (tolerance border : Option Float)
    → dimension (length lo) ≡ true
    → eqb (length hi) (length lo) ≡ true
    → out_of_limits lo hi (tolerance_of tolerance) (border_of border) ≡ false
    → eqb (number_of number) 0 ≡ false
    → eqb (number_of number) 1 ≡ false
    → ltb 1024 (number_of number) ≡ false
    → in_order lo hi ≡ true
    → le (tolerance_of tolerance) zero_f ≡ true
    → refused 8 ≡ new_sheet lo hi number tolerance border
unfolding new_sheet
refused_8 lo hi number tolerance border d l h3 h4 h5 h6 h7 h = rw (d, l, h3, h4, h5, h6, h7, h)
