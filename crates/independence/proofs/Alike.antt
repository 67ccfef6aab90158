-- Two libraries that both pass 24 and 13, or both fail them, and have the same rows of an id, answer alike whether that id is near a position or on a place.
use Prim.Native.Nat.{ℕ}
use mathlib.Core.Path.{◌≡◌, sym, ◌∙◌, ap, ap₂}
use mathlib.Core.Bool.{Bool, true, false, and-false}
use mathlib.Core.List.{List, [], ◌∷◌}
use lib.Ieee.{Float}
use Rattle.basics.proofs.Bools.{by_test}
use Rattle.basics.specs.Lists.{keep, has}
use Rattle.grid_search.specs.declared.GridSearch.{GridSearch}
use Rattle.table.specs.declared.Row.{Row}
use Rattle.table.specs.Rows.{own}
use Rattle.rows.specs.Insert.{position_tests}
use Rattle.search.specs.Search.{is_near}
use Rattle.listing.specs.declared.Filter.{Filter}
use Rattle.listing.specs.Place.{Asked, is_on, place_tests}
use Rattle.listing.specs.Listing.{occupied}
use Rattle.independence.specs.Holdings.{Holding, rows_in, holding_tests}
use Rattle.independence.specs.Queries.{pass, near, on}
use Rattle.independence.proofs.Queries.{query, near-is, on-is}
use Rattle.independence.proofs.Ids.{holds, holds-own, none_there, occupied-own}

module _ (i : ℕ) (s : GridSearch) (l l' : Holding) (t : pass (holding_tests s l) ≡ pass (holding_tests s l')) (r : own i (rows_in l) ≡ own i (rows_in l')) where
  same_rows : (p : Row → Bool) → holds i (keep p (rows_in l)) ≡ holds i (keep p (rows_in l'))
  same_rows p = holds-own i p (rows_in l) ∙ ap (λ (rows : List Row). holds i (keep p rows)) r ∙ sym (holds-own i p (rows_in l'))

  pub same-near : (x : List Float) → near s l x i ≡ near s l' x i
  same-near x = near-is s l x i ∙ ap₂ (λ (a b : Bool). query a (pass (position_tests s x (x ∷ []))) b) t (same_rows (is_near s x)) ∙ sym (near-is s l' x i)

  -- Refusal 15 looks at the rows of every id. Where the id has a row, both libraries have one, and it decides alike. Where it has none, it is on no place in either.
  pub same-on : (p : Asked) (f : Filter) → on s l p f i ≡ on s l' p f i
  same-on p f = on-is s l p f i ∙ by_test (occupied (own i (rows_in l))) some_row no_row ∙ sym (on-is s l' p f i)
    where
      asks : Holding → Bool
      asks m = pass (place_tests s p f (occupied (rows_in m)))

      count : Holding → Bool
      count m = holds i (keep (is_on s p f) (rows_in m))

      some_row : occupied (own i (rows_in l)) ≡ true → query (pass (holding_tests s l)) (asks l) (count l) ≡ query (pass (holding_tests s l')) (asks l') (count l')
      some_row e =
          let o : occupied (rows_in l) ≡ occupied (rows_in l') = occupied-own i (rows_in l) e ∙ sym (occupied-own i (rows_in l') (ap occupied (sym r) ∙ e)) in
          ap₂ (λ (a b : Bool). query a (pass (place_tests s p f b)) (count l)) t o ∙ ap (query (pass (holding_tests s l')) (asks l')) (same_rows (is_on s p f))

      no_row : occupied (own i (rows_in l)) ≡ false → query (pass (holding_tests s l)) (asks l) (count l) ≡ query (pass (holding_tests s l')) (asks l') (count l')
      no_row e =
          let z : count l ≡ false = holds-own i (is_on s p f) (rows_in l) ∙ none_there i (is_on s p f) (own i (rows_in l)) e in
          let z' : count l' ≡ false = sym (same_rows (is_on s p f)) ∙ z in
          rw (z, z', and-false, and-false)

-- an id without rows is near no position and on no place
module _ (i : ℕ) (s : GridSearch) (l : Holding) (e : own i (rows_in l) ≡ []) where
  no_rows : (p : Row → Bool) → holds i (keep p (rows_in l)) ≡ false
  unfolding keep has
  no_rows p = holds-own i p (rows_in l) ∙ ap (λ (rows : List Row). holds i (keep p rows)) e

  pub near_nothing : (x : List Float) → near s l x i ≡ false
  near_nothing x = near-is s l x i ∙ rw (no_rows (is_near s x), and-false)

  pub on_nothing : (p : Asked) (f : Filter) → on s l p f i ≡ false
  on_nothing p f = on-is s l p f i ∙ rw (no_rows (is_on s p f), and-false)
