-- The rows of a container side by side: how many of the keys from the front are its own.
-- Assumes nothing.
use Prim.Native.Nat.{ℕ, suc, ◌+◌, ◌≤◌, ◌<◌}
use native.Mathlib.Numerals.{add-one}
use native.Mathlib.Omega.{arith}
use mathlib.Core.Path.{◌≡◌, refl, sym}
use mathlib.Core.Bool.{not}
use mathlib.Core.List.{List, [], ◌∷◌}
use lib.Dec.{ltb, eqb}
use lib.ListN.{length, get_or, take, drop}
use lib.Seq.{slice-cons}
use borrow.Author.Tests.{ltb-false, eq-eqb}
use Rattle.std.specs.Prelude.{Option, position, unwrap_or}
use Rattle.std.specs.List.{position_or_len}
use Rattle.std.proofs.lemmas.List.Recursion.{is_position_or_len}
use Rattle.basics.proofs.Bools.{by_test}
use Rattle.table.specs.Rows.{run}

-- among the first `used` of a list
pub run-one : (key used : ℕ) (keys : List ℕ) (i : ℕ) → i < used → used ≤ length keys → get_or keys i 0 ≡ key → run key (drop i (take used keys)) ≡ suc (run key (drop (i + 1) (take used keys)))
unfolding run
run-one key used keys i h k e = rw (add-one, slice-cons i used keys 0 h k, eq-eqb (get_or keys i 0) key e)

-- no more than there are
pub run-most : (key : ℕ) (keys : List ℕ) → run key keys ≤ length keys
unfolding run
run-most key [] = omega arith
run-most key (k ∷ keys) = by_test (eqb k key) (λ e. rw e (omega (arith, run-most key keys))) (λ e. rw e (omega arith))

-- the run ends at the first key that is another, or with the list
pub first_other : (key : ℕ) (keys : List ℕ) {r : Option ℕ} → r ≡ position (λ j. not (eqb j key)) keys → unwrap_or r (length keys) ≡ run key keys
unfolding run
first_other key keys e =
    rw e
    (by_test (ltb (position_or_len (λ j. not (eqb j key)) keys) (length keys)) (λ t. rw t same)
    (λ t. rw t (omega (arith, ltb-false _ _ t, same, run-most key keys))))
  where
    same : position_or_len (λ j. not (eqb j key)) keys ≡ run key keys
    same = sym (is_position_or_len (run key) (λ j. not (eqb j key)) refl (λ x xs. by_test (eqb x key) (λ t. rw t (omega arith)) (λ t. rw t refl)) keys)
