-- A library with its directory, or without one: what a call on it answers and leaves goes by one list of tests, those of the holding and then the call's own.
-- The laws here and in `Held` look at whether there is a directory; all that come after do not.
use Prim.Native.Nat.{ℕ, zero-le}
use mathlib.Core.Path.{◌≡◌, refl, sym, ◌∙◌, ap}
use mathlib.Core.Bool.{true, false, not}
use mathlib.Core.Option.{Option, none, some}
use mathlib.Core.List.{List, [], ◌∷◌, ◌++◌, map, append_assoc}
use lib.Dec.{ltb}
use lib.ListN.{length}
use lib.Ieee.{Float}
use borrow.Author.Tests.{le-leb}
use Rattle.basics.proofs.Bools.{by_test, both, and_left, or_left, or_right}
use Rattle.basics.specs.Lists.{any}
use Rattle.basics.specs.Filled.{fill}
use Rattle.basics.specs.Refusals.{Test, refuse, fault, refused, success, answer}
use Rattle.basics.proofs.Refusals.{fault-right, fault_stop}
use Rattle.grid_search.specs.declared.GridSearch.{GridSearch}
use Rattle.grid_search.specs.Sheet.{sheet_ok}
use Rattle.table.specs.declared.Row.{Row}
use Rattle.table.specs.Rows.{slot_of, sorted}
use Rattle.table.specs.Library.{Library, table, space, too_long, level, fits}
use Rattle.table.proofs.Libraries.{empty_table, layout_is}
use Rattle.rows.specs.Damage.{library_tests}
use Rattle.rows.specs.Turn.{settle}
use Rattle.rows.proofs.Check.{whole, not-long}
use Rattle.rows.proofs.Kept.{empty_passes}
use Rattle.rows.specs.Insert.{position_tests}
use Rattle.search.specs.Search.{near_rows, chosen, search_tests, search_answer}
use Rattle.listing.specs.declared.Filter.{Filter}
use Rattle.listing.specs.Place.{Asked, place_tests}
use Rattle.listing.specs.Listing.{occupied, ids_on, on_tests, listing_tests, listing}
use Rattle.directory.specs.Entries.{directory_of, entries_from}
use Rattle.directory.specs.Directory.{Directory, places, file, entries, long_places, sound_places, roomy_places}
use Rattle.directory.specs.Calls.{directory_tests, filed_by, filed_unless, asked_unless, asking, filled_unless, filling}
use Rattle.directory.proofs.Passing.{passing, passes}
use Rattle.directory.proofs.Kept.{entries-file, sound-file}
use Rattle.independence.specs.Holdings.{Holding, bare, indexed, rows_in, Lent, places_of, lent, long_in, places_used, tests_by, holding_tests, Held, found_by, searching, listed_by, listing_in}
use Rattle.independence.specs.Queries.{near_tests, ids_in}

-- ---- a last test that does not fail

pub fault_last : (us : List Test) (t : Test) → t.fails ≡ false → fault (us ++ t ∷ []) ≡ fault us
unfolding fault
fault_last [] t e = rw e
fault_last (u ∷ us) t e = rw (fault_last us t e)

-- ---- what passing the tests of a holding says

module _ (s : GridSearch) where
  passes_by : (l : Library) (o : Option Directory) → fault (tests_by s l o) ≡ none → fault (library_tests s l) ≡ none
  unfolding tests_by
  passes_by l none e = e
  passes_by l (some d) e = (passing s l d e).library-passes

  -- its library passes 24 and 13
  pub library-passes : (h : Holding) → fault (holding_tests s h) ≡ none → fault (library_tests s h.library) ≡ none
  unfolding holding_tests
  library-passes h e = passes_by h.library h.directory e

  pub order_in : (h : Holding) → fault (holding_tests s h) ≡ none → sorted (map slot_of (rows_in h)) ≡ true
  order_in h e = (whole s h.library (library-passes h e)).order

-- ---- a call that asks

-- past 24, 13 and 29 the other tests decide, as without a directory
module _ (s : GridSearch) (l : Library) (d : Directory) (ts : List Test) (e : fault (directory_tests s l d) ≡ none) where
  pub own_decide : fault (directory_tests s l d ++ ts) ≡ fault ts
  own_decide = fault-right (directory_tests s l d) ts e

  as_without : fault (library_tests s l ++ ts) ≡ fault (directory_tests s l d ++ ts)
  as_without = fault-right (library_tests s l) ts (passing s l d e).library-passes ∙ sym own_decide

asked_is : {A : Type 0} (s : GridSearch) (l : Library) (d : Directory) (ts : List Test) (a : A)
    → asking s l d (answer (fault (library_tests s l ++ ts)) a) ≡ answer (fault (directory_tests s l d ++ ts)) a
unfolding asking asked_unless answer
asked_is {A = A} s l d ts a = go (fault (directory_tests s l d)) refl
  where
    go : (o : Option ℕ) → fault (directory_tests s l d) ≡ o
        → asked_unless (fault (directory_tests s l d)) (answer (fault (library_tests s l ++ ts)) a) ≡ answer (fault (directory_tests s l d ++ ts)) a
    go none e =
        ap (λ (o : Option ℕ). asked_unless o (answer (fault (library_tests s l ++ ts)) a)) e ∙ ap (λ (o : Option ℕ). answer o a) (as_without s l d ts e)
    go (some n) e =
        ap (λ (o : Option ℕ). asked_unless o (answer (fault (library_tests s l ++ ts)) a)) e
        ∙ sym (ap (λ (o : Option ℕ). answer o a) (fault_stop (directory_tests s l d) ts n e))

filled_is : (s : GridSearch) (l : Library) (d : Directory) (ts : List Test) (ids list : List ℕ)
    → filling s l d list (fill (fault (library_tests s l ++ ts)) ids list) ≡ fill (fault (directory_tests s l d ++ ts)) ids list
unfolding filling filled_unless fill
filled_is s l d ts ids list = go (fault (directory_tests s l d)) refl
  where
    go : (o : Option ℕ) → fault (directory_tests s l d) ≡ o
        → filled_unless (fault (directory_tests s l d)) list (fill (fault (library_tests s l ++ ts)) ids list) ≡ fill (fault (directory_tests s l d ++ ts)) ids list
    go none e =
        ap (λ (o : Option ℕ). filled_unless o list (fill (fault (library_tests s l ++ ts)) ids list)) e ∙ ap (λ (o : Option ℕ). fill o ids list) (as_without s l d ts e)
    go (some n) e =
        ap (λ (o : Option ℕ). filled_unless o list (fill (fault (library_tests s l ++ ts)) ids list)) e
        ∙ sym (ap (λ (o : Option ℕ). fill o ids list) (fault_stop (directory_tests s l d) ts n e))

-- a search and a listing, by the tests of the holding and their own
module _ (s : GridSearch) where
  found-is : (l : Library) (o : Option Directory) (x : List Float)
      → found_by s l o x ≡ answer (fault (tests_by s l o ++ position_tests s x (x ∷ []))) (chosen s x (near_rows s x (table l)))
  unfolding found_by tests_by search_answer search_tests
  found-is l none x = refl
  found-is l (some d) x = asked_is s l d (position_tests s x (x ∷ [])) (chosen s x (near_rows s x (table l)))

  pub searching-is : (h : Holding) (x : List Float) → searching s h x ≡ answer (fault (near_tests s h x)) (chosen s x (near_rows s x (rows_in h)))
  unfolding searching near_tests holding_tests
  searching-is h x = found-is h.library h.directory x

  -- the tests of a listing past those of the holding
  abbrev pub own_list_tests : Holding → Asked → Filter → List ℕ → List Test
  own_list_tests h p f list = place_tests s p f (occupied (rows_in h)) ++ (refuse 14 (ltb (length list) (length (ids_in s h p f))) ∷ [])

  listing-plain : (l : Library) (p : Asked) (f : Filter) (list : List ℕ)
      → listing s l p f list ≡ fill (fault (library_tests s l ++ own_list_tests (bare l) p f list)) (ids_in s (bare l) p f) list
  unfolding listing listing_tests on_tests ids_on ids_in
  listing-plain l p f list =
      ap (λ (ts : List Test). fill (fault ts) (ids_on s l p f) list)
      (append_assoc (library_tests s l) (place_tests s p f (occupied (table l))) (refuse 14 (ltb (length list) (length (ids_on s l p f))) ∷ []))

  listed-is : (l : Library) (o : Option Directory) (p : Asked) (f : Filter) (list : List ℕ)
      → listed_by s l o p f list ≡ fill (fault (tests_by s l o ++ own_list_tests (bare l) p f list)) (ids_in s (bare l) p f) list
  unfolding listed_by tests_by
  listed-is l none p f list = listing-plain l p f list
  listed-is l (some d) p f list = ap (filling s l d list) (listing-plain l p f list) ∙ filled_is s l d (own_list_tests (bare l) p f list) (ids_in s (bare l) p f) list

  pub listing-is : (h : Holding) (p : Asked) (f : Filter) (list : List ℕ) → listing_in s h p f list ≡ fill (fault (holding_tests s h ++ own_list_tests h p f list)) (ids_in s h p f) list
  unfolding listing_in holding_tests ids_in
  listing-is h p f list = listed-is h.library h.directory p f list

-- ---- a call that changes the rows

-- the value and what is left, or the refusal and what was handed in
unfoldable pub settle_in : Option ℕ → ℕ → Holding → Holding → Held
settle_in none a new old = record { holding = new; answer = success a }
settle_in (some n) a new old = record { holding = old; answer = refused n }

-- the directory of these rows has no room: 12
unfoldable pub places_tests : Option Directory → List Row → List Test
places_tests o rows = refuse 12 (not (fits (places_of o) (length (directory_of rows)))) ∷ []

-- this library, with the directory of its rows where there is one
unfoldable pub refiled : Option Directory → List Row → Option Directory
refiled none rows = none
refiled (some d) rows = some (file (directory_of rows) d)

abbrev pub leaving : Holding → Library → Holding
leaving h new = record { library = new; directory = refiled h.directory (table new) }

-- what `filing` makes of a call, by the tests of the holding and those of the call
module _ (l : Library) (a : ℕ) (new : Library) where
  abbrev pub By : Option Directory → Option ℕ → Held
  By o v = settle_in v a (record { library = new; directory = refiled o (table new) }) (record { library = l; directory = o })

  module _ (d : Directory) where
    abbrev pub Last : List Test
    Last = places_tests (some d) (table new)

    abbrev pub Filed : Option ℕ → Option ℕ → Held
    Filed v o = let f = filed_unless v l d (settle o a new l) in record { holding = indexed f.library f.directory; answer = f.answer }

    pub filed_last : Filed none none ≡ By (some d) (fault Last)
    unfolding filed_unless filed_by settle settle_in refiled places_tests places_of fault roomy_places
    filed_last = by_test (fits (places d) (length (directory_of (table new)))) (λ e. rw e) (λ e. rw e)

    pub filed_first : (n : ℕ) (o : Option ℕ) → Filed (some n) o ≡ By (some d) (some n)
    unfolding filed_unless settle_in
    filed_first n o = refl

    pub filed_refused : (n : ℕ) → Filed none (some n) ≡ By (some d) (some n)
    unfolding filed_unless filed_by settle settle_in
    filed_refused n = refl

-- ---- what a change that is accepted leaves

module _ (s : GridSearch) (l new : Library) (sound : fault (library_tests s new) ≡ none) where
  left_by : (o : Option Directory) → fault (tests_by s l o) ≡ none → fits (places_of o) (length (directory_of (table new))) ≡ true
      → (fault (tests_by s new (refiled o (table new))) ≡ none) × (places_of (refiled o (table new)) ≡ places_of o)
  unfolding tests_by refiled places_of long_places
  left_by none e f = (sound, refl)
  left_by (some d) e f =
      let k = passing s l d e in
      let m = sound-file (directory_of (table new)) d k.places-sound f in
      let long : long_places (file (directory_of (table new)) d) ≡ false = ap (λ (ns : List ℕ). any (λ (n : ℕ). ltb 65536 n) ns) m.1 ∙ k.not-long_places in
      (passes s new (file (directory_of (table new)) d) (record { library-passes = sound; not-long_places = long; places-sound = m.0; entries-are = entries-file (directory_of (table new)) d }), m.1)

-- it passes 24, 13 and 29, in the space that was lent
module _ (s : GridSearch) (h : Holding) (new : Library) (v : fault (holding_tests s h) ≡ none) (p : fault (library_tests s new) ≡ none)
    (z : space new ≡ space h.library) (f : fits (places_of h.directory) (length (directory_of (table new))) ≡ true) where
  pub leaving_passes : fault (holding_tests s (leaving h new)) ≡ none
  unfolding holding_tests
  leaving_passes = (left_by s h.library new p h.directory v f).0

  pub leaving_lent : lent (leaving h new) ≡ lent h
  unfolding lent space
  leaving_lent = λ i. record { rows = (z i).rows; places = (left_by s h.library new p h.directory (unfold holding_tests in v) f).1 i }

-- ---- a library without rows, whose directory has no place in use

module _ (s : GridSearch) (l : Library) where
  no_entries : (d : Directory) → l.used ≡ 0 → d.used ≡ 0 → entries d ≡ directory_of (table l)
  unfolding entries directory_of entries_from
  no_entries d u n = rw (empty_table l u, n)

  empty_by : (o : Option Directory) → fault (library_tests s l) ≡ none → l.used ≡ 0 → level (places_of o) ≡ true → any (λ (n : ℕ). ltb 65536 n) (places_of o) ≡ false → places_used o ≡ 0
      → fault (tests_by s l o) ≡ none
  unfolding tests_by places_of places_used
  empty_by none e u v t n = e
  empty_by (some d) e u v t n = passes s l d (record {
    library-passes = e;
    not-long_places = unfold long_places in t;
    places-sound = unfold sound_places in both v (ap (fits (places d)) n ∙ unfold fits in le-leb 0 (length d.keys) zero-le);
    entries-are = no_entries d u n;
  })

-- the lists of a holding that passes are of one length, and not too long
module _ (s : GridSearch) where
  placed_by : (l : Library) (o : Option Directory) → fault (tests_by s l o) ≡ none → (level (places_of o) ≡ true) × (any (λ (n : ℕ). ltb 65536 n) (places_of o) ≡ false)
  unfolding tests_by places_of
  placed_by l none e = unfold level any in (refl, refl)
  placed_by l (some d) e =
      let k = passing s l d e in
      (unfold sound_places in and_left (level (places d)) (fits (places d) d.used) k.places-sound, unfold long_places in k.not-long_places)

  module _ (m : Holding) (v : fault (holding_tests s m) ≡ none) where
    flat_rows : level (lent m).rows ≡ true
    unfolding lent space
    flat_rows =
        let l = m.library in
        and_left (level (space l).rows) (fits (space l).rows l.used) (sym (layout_is l) ∙ (whole s l (library-passes s m v)).layout)

    flat_places : (level (lent m).places ≡ true) × (any (λ (n : ℕ). ltb 65536 n) (lent m).places ≡ false)
    unfolding lent holding_tests
    flat_places = placed_by m.library m.directory v

    not-long_in : long_in (lent m) ≡ false
    unfolding long_in lent
    not-long_in = let t : any (λ (n : ℕ). ltb 65536 n) (lent m).rows ≡ false = unfold too_long space in not-long s m.library (library-passes s m v) in rw (t, flat_places.1)

module _ (s : GridSearch) (h : Holding) (u : h.library.used ≡ 0) (n : places_used h.directory ≡ 0) where
  pub empty_in : sheet_ok s ≡ true → level (lent h).rows ≡ true → level (lent h).places ≡ true → long_in (lent h) ≡ false → fault (holding_tests s h) ≡ none
  unfolding holding_tests lent long_in
  empty_in k v w t =
      let rows : too_long (space h.library) ≡ false = unfold too_long space in or_left _ (any (λ (m : ℕ). ltb 65536 m) (places_of h.directory)) t in
      empty_by s h.library h.directory (empty_passes s h.library k (unfold space in v) rows u) u w (or_right (any (λ (m : ℕ). ltb 65536 m) (lent h).rows) _ t) n

  -- so where a holding passes, an empty one of the same space does
  pub empty_too : (m : Holding) → lent m ≡ lent h → fault (holding_tests s m) ≡ none → fault (holding_tests s h) ≡ none
  empty_too m z v =
      empty_in (whole s m.library (library-passes s m v)).sheet (ap (λ (y : Lent). level y.rows) (sym z) ∙ flat_rows s m v)
      (ap (λ (y : Lent). level y.places) (sym z) ∙ (flat_places s m v).0) (ap long_in (sym z) ∙ not-long_in s m v)
