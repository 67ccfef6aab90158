-- What a search answers: a law for each way out of the code.
-- Assumes nothing.
use Prim.Native.Nat.{ℕ}
use mathlib.Core.Path.{◌≡◌, sym, ap, ◌∙◌}
use mathlib.Core.Bool.{true, false, or-false}
use mathlib.Core.Option.{Option, none, some}
use mathlib.Core.List.{List, [], ◌∷◌, ◌++◌, append-nil}
use lib.Ieee.{Float}
use Rattle.basics.specs.Lists.{any}
use Rattle.basics.specs.Refusals.{Test, fault, answer, success, refused}
use Rattle.basics.proofs.Refusals.{fault-right}
use Rattle.grid_search.specs.declared.GridSearch.{GridSearch}
use Rattle.table.specs.Library.{Library, table}
use Rattle.rows.specs.Damage.{library_tests}
use Rattle.rows.specs.Insert.{overshoots, position_tests}
use Rattle.rows.proofs.Answers.{Called, turned_first, position_exceeds, position_passes}
use Rattle.search.specs.Search.{near_rows, chosen, search_tests, search_answer}

module _ (s : GridSearch) (l : Library) (x : List Float) where
  by_fault : (o : Option ℕ) → fault (search_tests s l x) ≡ o → search_answer s l x ≡ answer o (chosen s x (near_rows s x (table l)))
  unfolding search_answer
  by_fault o e = ap (λ (f : Option ℕ). answer f (chosen s x (near_rows s x (table l)))) e

  turned_away : {n : ℕ} → fault (search_tests s l x) ≡ some n → refused n ≡ search_answer s l x
  unfolding answer
  turned_away {n} e = sym (by_fault (some n) e)

  tests_are : search_tests s l x ≡ library_tests s l ++ (position_tests s x (x ∷ []) ++ [])
  unfolding search_tests
  tests_are = ap (λ (ts : List Test). library_tests s l ++ ts) (sym (append-nil (position_tests s x (x ∷ []))))

  -- 24, 13, 2, 3, 11
  pub search-first : {n : ℕ} → fault (library_tests s l ++ position_tests s x []) ≡ some n → refused n ≡ search_answer s l x
  search-first e = turned_away (ap fault tests_are ∙ turned_first s l x (x ∷ []) [] e)

  module _ (k : Called s l x) where
    past-library : fault (search_tests s l x) ≡ fault (position_tests s x (x ∷ []))
    unfolding search_tests
    past-library = fault-right (library_tests s l) (position_tests s x (x ∷ [])) k.library

    alone : any (overshoots s) (x ∷ []) ≡ overshoots s x
    unfolding any
    alone = or-false (overshoots s x)

    -- 17
    pub search_exceeds : overshoots s x ≡ true → refused 17 ≡ search_answer s l x
    search_exceeds h = turned_away (past-library ∙ position_exceeds s x (x ∷ []) k.position (alone ∙ h))

    -- of the position as the code has it
    pub search_finds : {y : List Float} → y ≡ x → overshoots s x ≡ false → success (chosen s y (near_rows s y (table l))) ≡ search_answer s l x
    unfolding answer
    search_finds e h =
        ap (λ (y : List Float). success (chosen s y (near_rows s y (table l)))) e
        ∙ sym (by_fault none (past-library ∙ position_passes s x (x ∷ []) k.position (alone ∙ h)))
