-- A directory changes no answer, and a change leaves the directory that a build would write.
use Prim.Native.Nat.{ℕ}
use mathlib.Core.Path.{◌≡◌, refl, sym, ◌∙◌, ap}
use mathlib.Core.Bool.{Bool, true, false, cond}
use mathlib.Core.Option.{Option, none, some}
use mathlib.Core.List.{List}
use lib.ListN.{length}
use lib.Ieee.{Float}
use Rattle.basics.proofs.Bools.{by_test, clash}
use Rattle.basics.specs.Refusals.{fault, Answer, refused, success, is_none}
use Rattle.grid_search.specs.declared.GridSearch.{GridSearch}
use Rattle.table.specs.Rows.{own, without}
use Rattle.table.specs.Library.{Library, table, write, blank}
use Rattle.table.proofs.Libraries.{table-write}
use Rattle.rows.specs.Turn.{Turn, settle}
use Rattle.search.specs.Search.{search_answer}
use Rattle.listing.specs.declared.Filter.{Filter}
use Rattle.listing.specs.Place.{Asked}
use Rattle.listing.specs.Listing.{listing}
use Rattle.directory.specs.Entries.{directory_of}
use Rattle.strike.specs.Strike.{strike_tests, striking}
use Rattle.directory.specs.Directory.{Directory, places, roomy_places}
use Rattle.directory.proofs.Fewer.{fewer_entries}
use Rattle.directory.specs.Calls.{Building, building, directory_tests, filed_by, filed_unless, filing, asked_unless, asking, filled_unless, filling}
use Rattle.directory.proofs.Passing.{passing}
use Rattle.directory.proofs.Kept.{matching-roomy, used-file, builds}
use Rattle.independence.specs.Holdings.{Holding, bare, indexed, places_of, tests_by, holding_tests, held_by, found_by, searching, listed_by, listing_in, places_used}
use Rattle.independence.specs.Run.{Change, strike, Call, change, search, list, counted, found, listed, changing, step, accepted}
use Rattle.independence.specs.Claims.{Through, SameThrough, UpToDate}
use Rattle.independence.proofs.Holdings.{refiled}
use Rattle.independence.proofs.Plain.{counting, left}
use Rattle.independence.proofs.Changes.{fits_fewer, change_tests, changing-is, fit as accepted-fit, plain_passes, places_left, left_passes, step_done, step-refused}

module _ (s : GridSearch) (l : Library) (d : Directory) (e : fault (directory_tests s l d) ≡ none) where
  room : roomy_places d (table l) ≡ true
  room = matching-roomy s l d (passing s l d e)

  -- ---- calls that ask

  searched : (x : List Float) → searching s (indexed l d) x ≡ searching s (bare l) x
  unfolding searching found_by asking asked_unless
  searched x = ap (λ (o : Option ℕ). asked_unless o (search_answer s l x)) e

  listed_too : (p : Asked) (f : Filter) (lent : List ℕ) → listing_in s (indexed l d) p f lent ≡ listing_in s (bare l) p f lent
  unfolding listing_in listed_by filling filled_unless
  listed_too p f lent = ap (λ (o : Option ℕ). filled_unless o lent (listing s l p f lent)) e

  -- ---- calls that change the rows

  -- what is left and answered with the directory, of what is without
  abbrev Beside : Turn ℕ → Type 0
  Beside t =
      ((held_by s l (some d) t).answer ≡ cond (roomy_places d (table t.library)) t.answer (refused 12))
      × (roomy_places d (table t.library) ≡ true → (held_by s l (some d) t).holding.library ≡ t.library)

  beside : (o : Option ℕ) (a : ℕ) (new : Library) → Beside (settle o a new l)
  unfolding held_by filing filed_unless filed_by settle
  beside (some n) a new = rw (e, room) (refl, λ r. refl)
  beside none a new = by_test (roomy_places d (table new)) (λ r. rw (e, r) (refl, λ q. refl)) (λ r. rw (e, r) (refl, λ q. clash q refl))

  besides : (c : Change) → Beside (changing s l c)
  besides c = rw (changing-is s l c) (beside (fault _) (counting s c (table l)) (left s l c))

  -- one answer or another, as replies
  counted_cond : (b : Bool) (x y : Answer ℕ) → counted (cond b x y) ≡ cond b (counted x) (counted y)
  counted_cond true x y = refl
  counted_cond false x y = refl

  through-change : (c : Change) → Through s l d (change c)
  unfolding step
  through-change c = let k = besides c in unfold held_by in record {
    reply_is = ap counted k.0 ∙ counted_cond (roomy_places d (table (changing s l c).library)) (changing s l c).answer (refused 12);
    library_is = k.1;
  }

through : (s : GridSearch) (l : Library) (d : Directory) → fault (directory_tests s l d) ≡ none → (c : Call) → Through s l d c
unfolding step
through s l d e (change c) = through-change s l d e c
through s l d e (search x) = record {
  reply_is = rw (room s l d e) (ap found (searched s l d e x));
  library_is = λ r. refl;
}
through s l d e (list p f lent) = record {
  reply_is = rw (room s l d e) (ap listed (listed_too s l d e p f lent));
  library_is = λ r. refl;
}

-- what a striking leaves has no more entries than there were
module _ (s : GridSearch) (l : Library) (d : Directory) (e : fault (directory_tests s l d) ≡ none) (i : ℕ) where
  fewer_places : roomy_places d (without i (table l)) ≡ true
  unfolding roomy_places without
  fewer_places = fits_fewer (places d) (fewer_entries _ (table l)) (room s l d e)

  struck-roomy : (o : Option ℕ) (a : ℕ) → roomy_places d (table (settle o a (write (without i (table l)) (blank l)) l).library) ≡ true
  unfolding settle
  struck-roomy none a = ap (roomy_places d) (table-write (without i (table l)) (blank l)) ∙ fewer_places
  struck-roomy (some n) a = room s l d e

  strikes : (step s (indexed l d) (change (strike i))).reply ≡ (step s (bare l) (change (strike i))).reply
  unfolding step changing striking
  strikes =
      let r = (through s l d e (change (strike i))).reply_is in
      let t : roomy_places d (table (changing s l (strike i)).library) ≡ true = struck-roomy (fault (strike_tests s l i)) (length (own i (table l))) in
      r ∙ ap (λ (b : Bool). cond b (step s (bare l) (change (strike i))).reply (counted (refused 12))) t

pub same-through : SameThrough
same-through s l d e = (through s l d e, record { searches = searched s l d e; lists = listed_too s l d e; strikes = strikes s l d e })

-- ---- the directory that is left

-- a change that is accepted failed no test
module _ (s : GridSearch) (h : Holding) (c : Change) where
  passed_all : accepted (step s h (change c)).reply ≡ true → fault (change_tests s h c) ≡ none
  unfolding accepted is_none
  passed_all a = go (fault (change_tests s h c)) refl
    where
      go : (o : Option ℕ) → fault (change_tests s h c) ≡ o → fault (change_tests s h c) ≡ none
      go none q = q
      go (some n) q = clash a (ap is_none (step-refused s h c n q).1)

pub up_to_date : UpToDate
unfolding holding_tests tests_by places_of refiled places_used roomy_places
up_to_date s l d c a =
    let h = indexed l d in
    let q = passed_all s h c a in
    let k = passing s l d (accepted-fit s h c q) in
    let new = left s l c in
    let b = builds s new d (left_passes s l c (plain_passes s h c q)) k.not-long_places k.places-sound (places_left s h c q) in
    let after = (step_done s h c q).0 in
    record {
      directory_is =
          ap (λ (m : Holding). m.directory) after
          ∙ ap (λ (x : Building). some x.directory) (sym b)
          ∙ sym (ap (λ (m : Holding). some (building s m.library d).directory) after);
      builds =
          ap (λ (m : Holding). (building s m.library d).answer) after
          ∙ ap (λ (x : Building). x.answer) b
          ∙ ap success (sym (used-file (directory_of (table new)) d))
          ∙ sym (ap (λ (m : Holding). success (places_used m.directory)) after);
    }
