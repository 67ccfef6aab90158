-- Module 8: the ids listed, ascending, once each, and what a listing answers and leaves in the lent list.
-- Assumes nothing.
use Rattle.std.specs.Prelude.{ℕ, ◌≡◌, Bool, true, false, List, [], ◌∷◌, ◌++◌, map, ltb, length, Result}
use Rattle.basics.specs.Lists.{keep}
use Rattle.basics.specs.Filled.{Filled, fill}
use Rattle.basics.specs.Refusals.{Test, refuse, fault, Answer}
use Rattle.basics.specs.declared.Refusal.{Refusal}
use Rattle.basics.specs.Answers.{answered}
use Rattle.grid_search.specs.declared.GridSearch.{GridSearch}
use Rattle.table.specs.declared.Row.{Row}
use Rattle.table.specs.Rows.{id_in}
use Rattle.table.specs.Library.{Library, table}
use Rattle.rows.specs.Damage.{library_tests}
use Rattle.sorting.specs.Sorted.{distinct}
use Rattle.listing.specs.declared.Filter.{Filter}
use Rattle.listing.specs.Place.{Asked, is_on, place_tests}

-- the ids of the rows that count, ascending, once each
unfoldable pub ids_of : (Row → Bool) → List Row → List ℕ
unfolding distinct keep
ids_of p rows = distinct (map id_in (keep p rows))

unfoldable pub occupied : List Row → Bool
occupied [] = false
occupied (r ∷ rows) = true

-- the ids on a place
unfoldable pub ids_on : GridSearch → Library → Asked → Filter → List ℕ
unfolding ids_of is_on table
ids_on s l p f = ids_of (is_on s p f) (table l)

-- 24, 13, 16, 2, 3, 15: the tests of a listing that its lent list has no part in
unfoldable pub on_tests : GridSearch → Library → Asked → Filter → List Test
unfolding library_tests place_tests occupied table
on_tests s l p f = library_tests s l ++ place_tests s p f (occupied (table l))

-- and 14: the lent list is shorter than the listing
unfoldable pub listing_tests : GridSearch → Library → Asked → Filter → ℕ → List Test
unfolding on_tests ids_on
listing_tests s l p f room = on_tests s l p f ++ (refuse 14 (ltb room (length (ids_on s l p f))) ∷ [])

-- the count with the ids at the front of the list, or the refusal with the list as it was
unfoldable pub listing : GridSearch → Library → Asked → Filter → List ℕ → Filled
unfolding fill fault listing_tests ids_on
listing s l p f list = fill (fault (listing_tests s l p f (length list))) (ids_on s l p f) list

abbrev pub listed : Result ℕ Refusal → Answer ℕ
listed = answered (λ n. n)

-- what is returned, and what the list holds at exit, is what the definition gives
pub record Lists (l : Filled) (r : Result ℕ Refusal) (list : List ℕ) : Type 0 where
  pub answers : listed r ≡ l.answer
  pub list-is : list ≡ l.list
