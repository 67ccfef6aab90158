-- What a build of a cell index tells to C, from what the call below it ensures.
-- Assumes nothing.
use Prim.Native.Nat.{ℕ}
use mathlib.Core.Path.{◌≡◌, refl, sym, ap, ◌∙◌}
use mathlib.Core.Bool.{true, false}
use mathlib.Core.Option.{Option, none, some}
use mathlib.Core.List.{List, [], ◌∷◌, ◌++◌}
use lib.Dec.{eqb}
use lib.ListN.{length}
use lib.Ieee.{Float}
use borrow.Author.Tests.{eqb-true, not-false}
use Rattle.basics.proofs.Bools.{and_both}
use Rattle.basics.specs.Refusals.{Answer, through, fault}
use Rattle.basics.proofs.Refusals.{fault_left, fault-right, fault_stop, unrefused}
use Rattle.std.specs.Prelude.{Result}
use Rattle.basics.specs.declared.Refusal.{Refusal}
use Rattle.basics.specs.Answers.{refusal_number}
use Rattle.basics.proofs.Answers.{Raised, raised_answer}
use Rattle.mesh.specs.Mesh.{Mesh}
use Rattle.cell_sizes.specs.declared.Settings.{Settings}
use Rattle.cell_sizes.specs.Large.{measure}
use Rattle.grid_cells.specs.declared.GridCells.{GridCells}
use Rattle.grid_cells.specs.Build.{IndexLists, index_lists, size_tests, later_tests, build_tests, make, Build, settle_build, build}
use Rattle.capi.specs.Answers.{number, number_in, written}
use Rattle.capi.proofs.Libraries.{number-told}
use Rattle.capi.specs.Cells.{cells_numbers, cells_floats, cells_lengths, cells_tests, cells_list_tests, build_in_c, ToldCells}

-- the number of an error that `?` hands on
pub raised_number : {A : Type 0} (e : Refusal) (r : Result A Refusal) → Raised e r → number_in r ≡ refusal_number e
raised_number e r h = number-told (λ a. a) r ∙ ap number (raised_answer (λ a. a) e r h)

-- ---- 1, 24, and 13 by the index lists: each way through them

module _ (n : ℕ) (m : Mesh) (l : IndexLists) (numbers : List ℕ) (floats : List Float) where
  pub lists_sizes : {k : ℕ} → some k ≡ fault (size_tests n m l) → some k ≡ fault (cells_list_tests n m l numbers floats)
  unfolding cells_list_tests
  lists_sizes {k} e = sym (fault_stop (size_tests n m l) _ k (sym e))

  module _ (e : fault (size_tests n m l) ≡ none) where
    pub lists_13 : cells_lengths numbers floats ≡ false → some 13 ≡ fault (cells_list_tests n m l numbers floats)
    unfolding cells_list_tests fault
    lists_13 h = sym (fault-right (size_tests n m l) _ e ∙ rw h)

    pub lists-none : cells_lengths numbers floats ≡ true → none ≡ fault (cells_list_tests n m l numbers floats)
    unfolding cells_list_tests fault
    lists-none h = sym (fault-right (size_tests n m l) _ e ∙ rw h)

-- ---- those, and the tests of the call

module _ (n : ℕ) (m : Mesh) (t : Settings) (l : IndexLists) (numbers : List ℕ) (floats : List Float) where
  first-are : cells_tests n m t l numbers floats ≡ cells_list_tests n m l numbers floats ++ later_tests n m t l
  unfolding cells_tests cells_list_tests size_tests
  first-are = refl

  -- where none of them fails, the first test of the build that fails is that of the call
  same-fault : fault (cells_list_tests n m l numbers floats) ≡ none → fault (build_tests n m t l) ≡ fault (cells_tests n m t l numbers floats)
  unfolding cells_list_tests build_tests
  same-fault e =
      fault-right (size_tests n m l) (later_tests n m t l) (fault_left (size_tests n m l) (_ ∷ []) e)
      ∙ sym (ap fault first-are ∙ fault-right (cells_list_tests n m l numbers floats) (later_tests n m t l) e)

  same-build : fault (cells_list_tests n m l numbers floats) ≡ none → build n m t l ≡ build_in_c n m t l numbers floats
  unfolding build build_in_c
  same-build e = ap (λ (o : Option ℕ). settle_build o (make n (measure n m t) t) l) (same-fault e)

  -- turned away before the call
  pub told-first : {k : ℕ} → some k ≡ fault (cells_list_tests n m l numbers floats) → ToldCells (build_in_c n m t l numbers floats) k l numbers numbers floats floats
  unfolding build_in_c settle_build
  told-first {k} e =
      rw (ap fault first-are ∙ fault_stop (cells_list_tests n m l numbers floats) (later_tests n m t l) k (sym e))
      (record { returned = refl; lists-are = refl; numbers-written = refl; floats-written = refl })

  -- no test before the call fails
  module _ (e : fault (cells_list_tests n m l numbers floats) ≡ none) where
    -- so the index lists have their lengths
    pub lengths_of : (length numbers ≡ 6) × (length floats ≡ 7)
    unfolding cells_list_tests size_tests
    lengths_of =
        let l = and_both (eqb (length numbers) 6) (eqb (length floats) 7) (not-false _ (unrefused (cells_list_tests n m l numbers floats) e).1.1.0) in
        (eqb-true (length numbers) 6 l.0, eqb-true (length floats) 7 l.1)

    -- what the call leaves
    module _ {answer : Answer GridCells} {keys cells large : List ℕ} (g : record { answer = answer; lists = index_lists keys cells large } ≡ build n m t l) where
      left : record { answer = answer; lists = index_lists keys cells large } ≡ build_in_c n m t l numbers floats
      left = g ∙ same-build e

      pub told-build : {numbers' : List ℕ} {floats' : List Float} → numbers' ≡ written (through cells_numbers answer) numbers → floats' ≡ written (through cells_floats answer) floats
          → ToldCells (build_in_c n m t l numbers floats) (number answer) (index_lists keys cells large) numbers numbers' floats floats'
      told-build p q =
          let a : answer ≡ (build_in_c n m t l numbers floats).answer = ap (λ (b : Build). b.answer) left in
          record {
            returned = ap number a;
            lists-are = ap (λ (b : Build). b.lists) left;
            numbers-written = p ∙ ap (λ (x : Answer GridCells). written (through cells_numbers x) numbers) a;
            floats-written = q ∙ ap (λ (x : Answer GridCells). written (through cells_floats x) floats) a;
          }
