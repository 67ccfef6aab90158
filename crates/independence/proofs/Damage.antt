-- No run damages a library or its directory: 24, 13 and 29 go on being passed, and no call is refused with them.
use Prim.Native.Nat.{ℕ}
use mathlib.Core.Path.{◌≡◌, refl, sym, ◌∙◌, ap}
use mathlib.Core.Bool.{Bool, true, false, not}
use mathlib.Core.Option.{Option, none, some}
use mathlib.Core.List.{List, [], ◌∷◌, ◌++◌}
use lib.Dec.{ltb, eqb}
use lib.ListN.{length}
use lib.Ieee.{Float}
use borrow.Author.Tests.{eq-eqb, not-true}
use Rattle.basics.proofs.Bools.{by_test, clash, both, and_both}
use Rattle.basics.specs.Lists.{all}
use Rattle.basics.specs.Refusals.{Test, refuse, fault, answer}
use Rattle.basics.proofs.Refusals.{fault-right, fault_stop}
use Rattle.grid_search.specs.declared.GridSearch.{GridSearch}
use Rattle.rows.specs.Insert.{position_tests, room_tests}
use Rattle.strike.specs.Strike.{id_tests}
use Rattle.search.specs.Search.{chosen, near_rows}
use Rattle.listing.specs.declared.Filter.{Filter}
use Rattle.listing.specs.Place.{Asked, place_tests}
use Rattle.listing.specs.Listing.{occupied}
use Rattle.basics.specs.Filled.{Filled, fill}
use Rattle.independence.specs.Holdings.{Holding, rows_in, lent, holding_tests}
use Rattle.independence.specs.Run.{Change, insert, strike, Call, change, search, list, Reply, step, refusal_in, refusal, run, replies}
use Rattle.independence.specs.Queries.{near_tests, ids_in}
use Rattle.independence.specs.Claims.{blames}
use Rattle.independence.proofs.Holdings.{places_tests, searching-is, own_list_tests, listing-is}
use Rattle.independence.proofs.Plain.{plain_tests}
use Rattle.independence.proofs.Changes.{change_tests, own_tests, step_done, step-refused, changed_space, changed_passes}
use Rattle.independence.proofs.Runs.{kept}

pub space_kept : (s : GridSearch) (calls : List Call) (l : Holding) → lent (run s l calls) ≡ lent l
space_kept s calls l = kept s (λ (m : Holding). lent m ≡ lent l) (λ m c e z. changed_space s m c e ∙ z) calls l refl

pub tests_kept : (s : GridSearch) (calls : List Call) (l : Holding) → fault (holding_tests s l) ≡ none → fault (holding_tests s (run s l calls)) ≡ none
tests_kept s = kept s (λ (m : Holding). fault (holding_tests s m) ≡ none) (λ m c e v. changed_passes s m c e)

-- ---- the numbers

-- none of the tests has one of the numbers meant, such as 24 and 13
unfoldable pub clean : (Option ℕ → Bool) → List Test → Bool
clean meant ts = all (λ (t : Test). not (meant (some t.number))) ts

pub clean_fault : (meant : Option ℕ → Bool) → meant none ≡ false → (ts : List Test) → clean meant ts ≡ true → meant (fault ts) ≡ false
unfolding clean all fault
clean_fault meant z [] e = z
clean_fault meant z (t ∷ ts) e =
    let d = and_both (not (meant (some t.number))) (clean meant ts) e in
    by_test t.fails (λ f. rw f (not-true (meant (some t.number)) d.0)) (λ f. rw f (clean_fault meant z ts d.1))

-- the number is k
unfoldable pub says : ℕ → Option ℕ → Bool
says k none = false
says k (some n) = eqb n k

-- where k came of tests the first of which have not that number, none of these failed
pub came_later : (k : ℕ) (us ts : List Test) → clean (says k) us ≡ true → fault (us ++ ts) ≡ some k → fault us ≡ none
unfolding says
came_later k us ts c e = go (fault us) refl (clean_fault (says k) refl us c)
  where
    go : (o : Option ℕ) → fault us ≡ o → says k (fault us) ≡ false → fault us ≡ none
    go none g h = g
    go (some n) g h = clash (ap (says k) (sym (fault_stop us ts n g) ∙ e) ∙ eq-eqb k k refl) (ap (says k) (sym g) ∙ h)

none_blamed : blames none ≡ false
unfolding blames
none_blamed = refl

refusal-answer : {A : Type 0} (o : Option ℕ) (a : A) → refusal_in (answer o a) ≡ o
unfolding refusal_in answer
refusal-answer none a = refl
refusal-answer (some n) a = refl

refusal_out : (o : Option ℕ) (ids lent : List ℕ) → refusal_in (fill o ids lent).answer ≡ o
unfolding refusal_in fill
refusal_out none ids lent = refl
refusal_out (some n) ids lent = refl

-- a call's refusal is the first of its tests that fails: those of the library, and then its own
module _ (s : GridSearch) (l : Holding) where
  refusal-change : (c : Change) (o : Option ℕ) → fault (change_tests s l c) ≡ o → refusal (step s l (change c)).reply ≡ fault (change_tests s l c)
  refusal-change c none e = (step_done s l c e).1 ∙ sym e
  refusal-change c (some n) e = (step-refused s l c n e).1 ∙ sym e

  refusal-search : (x : List Float) → refusal (step s l (search x)).reply ≡ fault (holding_tests s l ++ position_tests s x (x ∷ []))
  unfolding step refusal near_tests
  refusal-search x = ap refusal_in (searching-is s l x) ∙ refusal-answer (fault (near_tests s l x)) (chosen s x (near_rows s x (rows_in l)))

  refusal-list : (p : Asked) (f : Filter) (lent : List ℕ) → refusal (step s l (list p f lent)).reply ≡ fault (holding_tests s l ++ own_list_tests s l p f lent)
  unfolding step refusal
  refusal-list p f lent = ap (λ (t : Filled). refusal_in t.answer) (listing-is s l p f lent) ∙ refusal_out (fault (holding_tests s l ++ own_list_tests s l p f lent)) (ids_in s l p f) lent

-- a clause for each kind of change
clean_change : (s : GridSearch) (l : Holding) (c : Change) → clean blames (own_tests s l c) ≡ true
unfolding clean all own_tests plain_tests places_tests position_tests room_tests id_tests blames
clean_change s l (insert i x) = refl
clean_change s l (strike i) = refl

clean_position : (s : GridSearch) (x : List Float) (looked : List (List Float)) → clean blames (position_tests s x looked) ≡ true
unfolding clean all position_tests blames
clean_position s x looked = refl

clean_place : (s : GridSearch) (p : Asked) (f : Filter) (b t : Bool) → clean blames (place_tests s p f b ++ (refuse 14 t ∷ [])) ≡ true
unfolding clean all place_tests blames
clean_place s p f b t = refl

module _ (s : GridSearch) (l : Holding) (v : fault (holding_tests s l) ≡ none) where
  past : (ts : List Test) → clean blames ts ≡ true → blames (fault (holding_tests s l ++ ts)) ≡ false
  past ts e = ap blames (fault-right (holding_tests s l) ts v) ∙ clean_fault blames none_blamed ts e

  blameless-step : (c : Call) → blames (refusal (step s l c).reply) ≡ false
  blameless-step (change c) = ap blames (refusal-change s l c (fault (change_tests s l c)) refl) ∙ unfold change_tests in past (own_tests s l c) (clean_change s l c)
  blameless-step (search x) = ap blames (refusal-search s l x) ∙ past (position_tests s x (x ∷ [])) (clean_position s x (x ∷ []))
  blameless-step (list p f lent) = ap blames (refusal-list s l p f lent) ∙ past (own_list_tests s l p f lent) (clean_place s p f (occupied (rows_in l)) (ltb (length lent) (length (ids_in s l p f))))

pub blameless-run : (s : GridSearch) (calls : List Call) (l : Holding) → fault (holding_tests s l) ≡ none → all (λ (r : Reply). not (blames (refusal r))) (replies s l calls) ≡ true
unfolding run replies all
blameless-run s [] l v = refl
blameless-run s (c ∷ calls) l v = both (ap not (blameless-step s l v c)) (blameless-run s calls (step s l c).holding (tests_kept s (c ∷ []) l v))

-- a library that its own tests refuse refuses every call with their number
pub refused-step : (s : GridSearch) (l : Holding) (n : ℕ) → fault (holding_tests s l) ≡ some n → (c : Call) → refusal (step s l c).reply ≡ some n
refused-step s l n u (change c) = refusal-change s l c (fault (change_tests s l c)) refl ∙ unfold change_tests in fault_stop (holding_tests s l) (own_tests s l c) n u
refused-step s l n u (search x) = refusal-search s l x ∙ fault_stop (holding_tests s l) (position_tests s x (x ∷ [])) n u
refused-step s l n u (list p f lent) =
    refusal-list s l p f lent ∙ fault_stop (holding_tests s l) (own_list_tests s l p f lent) n u
