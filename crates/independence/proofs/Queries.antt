-- Near and on as queries: each goes by the tests of the library, by its own, and by the rows that count.
use Prim.Native.Nat.{ℕ}
use mathlib.Core.Path.{◌≡◌, refl, ◌∙◌, ap, ap₂}
use mathlib.Core.Bool.{Bool, ◌&&◌}
use mathlib.Core.Option.{Option, none, some}
use mathlib.Core.List.{List, [], ◌∷◌, ◌++◌}
use lib.Ieee.{Float}
use Rattle.basics.specs.Lists.{keep}
use Rattle.basics.specs.Refusals.{Test, fault, is_none}
use Rattle.basics.proofs.Refusals.{fault-right, fault_stop}
use Rattle.grid_search.specs.declared.GridSearch.{GridSearch}
use Rattle.rows.specs.Insert.{position_tests}
use Rattle.search.specs.Search.{is_near, near_rows, search_tests}
use Rattle.listing.specs.declared.Filter.{Filter}
use Rattle.listing.specs.Place.{Asked, is_on, place_tests}
use Rattle.listing.specs.Listing.{ids_on, occupied, on_tests}
use Rattle.independence.specs.Holdings.{Holding, rows_in, holding_tests}
use Rattle.independence.specs.Queries.{pass, near, on}
use Rattle.independence.proofs.Ids.{holds, has-ids}

-- tests one list after the other
pass-both : (us ts : List Test) → pass (us ++ ts) ≡ (pass us && pass ts)
unfolding pass is_none
pass-both us ts = go (fault us) refl
  where
    go : (o : Option ℕ) → fault us ≡ o → is_none (fault (us ++ ts)) ≡ (is_none (fault us) && is_none (fault ts))
    go none e = ap is_none (fault-right us ts e) ∙ rw e
    go (some n) e = ap is_none (fault_stop us ts n e) ∙ rw e

-- a query that goes by the tests of the library, its own tests, and the rows that count
abbrev pub query : Bool → Bool → Bool → Bool
query passes own counts = (passes && own) && counts

-- near and on are such queries
pub near-is : (s : GridSearch) (l : Holding) (x : List Float) (i : ℕ) → near s l x i ≡ query (pass (holding_tests s l)) (pass (position_tests s x (x ∷ []))) (holds i (keep (is_near s x) (rows_in l)))
unfolding near search_tests near_rows
near-is s l x i = ap (λ (b : Bool). b && holds i (keep (is_near s x) (rows_in l))) (pass-both (holding_tests s l) (position_tests s x (x ∷ [])))

pub on-is : (s : GridSearch) (l : Holding) (p : Asked) (f : Filter) (i : ℕ)
    → on s l p f i ≡ query (pass (holding_tests s l)) (pass (place_tests s p f (occupied (rows_in l)))) (holds i (keep (is_on s p f) (rows_in l)))
unfolding on on_tests ids_on
on-is s l p f i = ap₂ (λ (a b : Bool). a && b) (pass-both (holding_tests s l) (place_tests s p f (occupied (rows_in l)))) (has-ids i (is_on s p f) (rows_in l))
