-- The reply of a library that passes 24, 13 and 29 depends on its rows in use and its space alone, not on what its lists hold past the used counts.
use Prim.Native.Nat.{ℕ}
use native.Mathlib.Omega.{arith}
use mathlib.Core.Path.{◌≡◌, refl, sym, ◌∙◌, ap, ap₂}
use mathlib.Core.Option.{Option, none, some}
use mathlib.Core.List.{List, [], ◌∷◌, ◌++◌}
use lib.Dec.{ltb}
use lib.ListN.{length}
use lib.Ieee.{Float}
use Rattle.basics.specs.Refusals.{Test, refuse, fault, refused, success, answer}
use Rattle.basics.proofs.Refusals.{fault-right}
use Rattle.grid_search.specs.declared.GridSearch.{GridSearch}
use Rattle.table.specs.declared.Row.{Row}
use Rattle.rows.specs.Insert.{position_tests}
use Rattle.search.specs.Search.{near_rows, chosen}
use Rattle.listing.specs.declared.Filter.{Filter}
use Rattle.listing.specs.Place.{Asked, is_on, place_tests}
use Rattle.listing.specs.Listing.{ids_of, occupied}
use Rattle.basics.specs.Filled.{Filled, fill}
use Rattle.independence.specs.Holdings.{Holding, rows_in, lent, holding_tests, Held, held_by, searching, listing_in}
use Rattle.independence.specs.Queries.{near_tests, ids_in}
use Rattle.independence.specs.Run.{Change, Call, change, search, list, counted, found, listed, changing, step}
use Rattle.independence.proofs.Plain.{counting}
use Rattle.independence.proofs.Changes.{change_tests, own_tests, changed, changing-held, same-own}
use Rattle.independence.proofs.Holdings.{settle_in, searching-is, own_list_tests, listing-is}

settled : (o : Option ℕ) (a : ℕ) (new old : Holding) → (settle_in o a new old).answer ≡ answer o a
unfolding settle_in answer
settled none a new old = refl
settled (some n) a new old = refl

-- what an answer says of the tests and of the value
pub value_of_lem : {A : Type 0} (o : Option ℕ) (a : A) {b : A} → answer o a ≡ success b → (o ≡ none) × (a ≡ b)
unfolding answer
value_of_lem none a e = (refl, cc)
value_of_lem (some n) a e = let z : ◌≡◌ {A = ℕ} 0 1 = cc in absurd (omega arith)

pub refusal_of : {A : Type 0} (o : Option ℕ) (a : A) {n : ℕ} → answer o a ≡ refused n → o ≡ some n
unfolding answer
refusal_of none a {n} e = let z : ◌≡◌ {A = ℕ} 0 1 = cc in absurd (omega arith)
refusal_of (some m) a {n} e = let z : m ≡ n = cc in ap some z

-- a change's tests decide its answer, and so its reply
by_tests : (s : GridSearch) (l : Holding) (c : Change)
    → (held_by s l.library l.directory (changing s l.library c)).answer ≡ answer (fault (change_tests s l c)) (counting s c (rows_in l))
by_tests s l c = ap (λ (t : Held). t.answer) (changing-held s l c) ∙ settled (fault (change_tests s l c)) (counting s c (rows_in l)) (changed s l c) l

pub reply_is : (s : GridSearch) (l : Holding) (c : Change) → (step s l (change c)).reply ≡ counted (answer (fault (change_tests s l c)) (counting s c (rows_in l)))
unfolding step
reply_is s l c = ap counted (by_tests s l c)

-- a listing by the rows
list_reply : GridSearch → List Row → Asked → Filter → List ℕ → Filled
list_reply s rows p f lent =
    fill (fault (place_tests s p f (occupied rows) ++ (refuse 14 (ltb (length lent) (length (ids_of (is_on s p f) rows))) ∷ []))) (ids_of (is_on s p f) rows) lent

module _ (s : GridSearch) (l : Holding) (v : fault (holding_tests s l) ≡ none) where
  -- the tests of the library pass, and the call's own decide
  own_decide : (ts : List Test) → fault (holding_tests s l ++ ts) ≡ fault ts
  own_decide ts = fault-right (holding_tests s l) ts v

  change-is : (c : Change) → (step s l (change c)).reply ≡ counted (answer (fault (own_tests s l c)) (counting s c (rows_in l)))
  unfolding change_tests
  change-is c = reply_is s l c ∙ ap (λ (o : Option ℕ). counted (answer o (counting s c (rows_in l)))) (own_decide (own_tests s l c))

  search_is : (x : List Float) → searching s l x ≡ answer (fault (position_tests s x (x ∷ []))) (chosen s x (near_rows s x (rows_in l)))
  unfolding near_tests
  search_is x = searching-is s l x ∙ ap (λ (o : Option ℕ). answer o (chosen s x (near_rows s x (rows_in l)))) (own_decide (position_tests s x (x ∷ [])))

  list-is : (p : Asked) (f : Filter) (lent : List ℕ) → listing_in s l p f lent ≡ list_reply s (rows_in l) p f lent
  unfolding ids_in list_reply
  list-is p f lent = listing-is s l p f lent ∙ ap (λ (o : Option ℕ). fill o (ids_in s l p f) lent) (own_decide (own_list_tests s l p f lent))

-- two libraries that pass, of one space and with the same rows
module _ (s : GridSearch) (m n : Holding) (v : fault (holding_tests s m) ≡ none) (u : fault (holding_tests s n) ≡ none) (z : lent m ≡ lent n) (t : rows_in m ≡ rows_in n) where
  same-change : (c : Change) → (step s m (change c)).reply ≡ (step s n (change c)).reply
  same-change c =
      change-is s m v c
      ∙ ap₂ (λ (ts : List Test) (rows : List Row). counted (answer (fault ts) (counting s c rows))) (same-own s m n z t c) t
      ∙ sym (change-is s n u c)

  same-search : (x : List Float) → searching s m x ≡ searching s n x
  same-search x = search_is s m v x ∙ ap (λ (rows : List Row). answer (fault (position_tests s x (x ∷ []))) (chosen s x (near_rows s x rows))) t ∙ sym (search_is s n u x)

  same-list : (p : Asked) (f : Filter) (lent : List ℕ) → listing_in s m p f lent ≡ listing_in s n p f lent
  same-list p f lent = list-is s m v p f lent ∙ ap (λ (rows : List Row). list_reply s rows p f lent) t ∙ sym (list-is s n u p f lent)

  pub same-reply : (c : Call) → (step s m c).reply ≡ (step s n c).reply
  unfolding step
  same-reply (change c) = same-change c
  same-reply (search x) = ap found (same-search x)
  same-reply (list p f lent) = ap listed (same-list p f lent)
