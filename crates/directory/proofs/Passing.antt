-- What passes the tests of a library and its directory, and a law for each way out of the code that makes them.
-- Assumes nothing.
use Prim.Native.Nat.{ℕ, ◌≤◌}
use mathlib.Core.Path.{◌≡◌, refl, sym, ap, ap₂, ◌∙◌}
use mathlib.Core.Bool.{true, false, not, and-false}
use mathlib.Core.Option.{Option, none, some, some-ne-none}
use mathlib.Core.List.{List, [], ◌∷◌, map}
use lib.Dec.{eqb}
use lib.ListN.{length, take}
use lib.Seq.{length-take-le}
use borrow.Author.Tests.{eqb-true, eq-eqb, not-false}
use Rattle.basics.specs.Refusals.{Test, refuse, fault, refused, success}
use Rattle.basics.proofs.Bools.{by_test, clash, and_both, or_left, or_right, or-true}
use Rattle.basics.proofs.Lists.{length-tab, map-tab, tab-take}
use Rattle.basics.proofs.Refusals.{unrefused, passed, fault_left, fault-right, fault_stop}
use Rattle.grid_search.specs.declared.GridSearch.{GridSearch}
use Rattle.table.specs.declared.Row.{Row}
use Rattle.table.specs.Library.{Library, table, space, too_long, level}
use Rattle.std.specs.List.Sorted.{IsNonDecreasing}
use Rattle.table.proofs.Libraries.{long, ordered, table-keys}
use Rattle.table.proofs.First.{rising}
use Rattle.rows.specs.Damage.{sound, library_tests}
use Rattle.rows.proofs.Check.{not-long, whole, in_order, together}
use Rattle.directory.specs.declared.Entry.{Entry}
use Rattle.directory.specs.Entries.{key_of, entries_from, directory_of, same_entry, same_entries, look_among, look_up}
use Rattle.directory.specs.Directory.{Directory, entry_at, entries, places, long_places, sound_places, matches}
use Rattle.directory.specs.Calls.{both_tests, directory_tests, asked_unless, asking, looking_up}
use Rattle.directory.specs.Posts.{PlaceRoom}

-- ---- equal lists of entries

one_same : (d e : Entry) → same_entry d e ≡ true → d ≡ e
unfolding same_entry
one_same d e h =
    let a = and_both (eqb d.key e.key) _ h in
    let b = and_both (eqb d.first e.first) _ a.1 in
    λ i. record {
      key = eqb-true d.key e.key a.0 i;
      first = eqb-true d.first e.first b.0 i;
      count = eqb-true d.count e.count b.1 i;
    }

pub all_same : (ds es : List Entry) → same_entries ds es ≡ true → ds ≡ es
unfolding same_entries
all_same [] [] h = refl
all_same [] (e ∷ es) h = clash h refl
all_same (d ∷ ds) [] h = clash h refl
all_same (d ∷ ds) (e ∷ es) h = let a = and_both (same_entry d e) _ h in ap₂ (λ (x : Entry) (xs : List Entry). x ∷ xs) (one_same d e a.0) (all_same ds es a.1)

pub same_self : (es : List Entry) → same_entries es es ≡ true
unfolding same_entries same_entry
same_self [] = refl
same_self (e ∷ es) = rw (eq-eqb e.key e.key refl, eq-eqb e.first e.first refl, eq-eqb e.count e.count refl) (same_self es)

-- ---- the entries in use

module _ (d : Directory) where
  pub entries-count : length (entries d) ≡ d.used
  unfolding entries
  entries-count = length-tab d.used (entry_at d)

  pub entries-keys : d.used ≤ length d.keys → map key_of (entries d) ≡ take d.used d.keys
  unfolding entries
  entries-keys h = map-tab key_of d.used (entry_at d) ∙ tab-take d.used d.keys 0 h

  -- they have room
  pub place-room : sound_places d ≡ true → PlaceRoom d d.used
  unfolding sound_places
  place-room e = let a = and_both (level (places d)) _ e in long (places d) d.used a.0 a.1

-- they match rows where they are the directory of them
pub matches-are : (rows : List Row) (d : Directory) → matches rows d ≡ true → entries d ≡ directory_of rows
unfolding matches
matches-are rows d e = all_same (entries d) (directory_of rows) e

pub are-matches : (rows : List Row) (d : Directory) → entries d ≡ directory_of rows → matches rows d ≡ true
unfolding matches
are-matches rows d e = ap (λ (es : List Entry). same_entries es (directory_of rows)) e ∙ same_self (directory_of rows)

-- by the keys in use
pub directory-keys : (l : Library) → l.used ≤ length l.keys → entries_from 0 (take l.used l.keys) ≡ directory_of (table l)
unfolding directory_of
directory-keys l h = ap (entries_from 0) (sym (table-keys l h))

pub matches-keys : (l : Library) (d : Directory) → l.used ≤ length l.keys → same_entries (entries d) (entries_from 0 (take l.used l.keys)) ≡ matches (table l) d
unfolding matches
matches-keys l d h = ap (same_entries (entries d)) (directory-keys l h)

-- ---- a library and a directory that pass

pub record Passing (s : GridSearch) (l : Library) (d : Directory) : Type 0 where
  pub library-passes : fault (library_tests s l) ≡ none
  pub not-long_places : long_places d ≡ false
  pub places-sound : sound_places d ≡ true
  pub entries-are : entries d ≡ directory_of (table l)

module _ (s : GridSearch) (l : Library) (d : Directory) where
  -- 24 and 13 alone
  pub record BothPass : Type 0 where
    pub library-passes : fault (library_tests s l) ≡ none
    pub not-long_places : long_places d ≡ false
    pub places-sound : sound_places d ≡ true

  pub both-pass : fault (both_tests s l d) ≡ none → BothPass
  unfolding both_tests library_tests
  both-pass e =
      let u = unrefused (both_tests s l d) e in
      let a = and_both (sound s l) _ (not-false _ u.1.0) in
      record {
        library-passes = passed (library_tests s l) (or_left (too_long (space l)) _ u.0, (rw a.0, tt));
        not-long_places = or_right (too_long (space l)) _ u.0;
        places-sound = a.1;
      }

  pub passing : fault (directory_tests s l d) ≡ none → Passing s l d
  unfolding directory_tests
  passing e =
      let last = refuse 29 (not (matches (table l) d)) ∷ [] in
      let f = fault_left (both_tests s l d) last e in
      let b = both-pass f in
      let m = (unrefused last (sym (fault-right (both_tests s l d) last f) ∙ e)).0 in
      record {
        library-passes = b.library-passes;
        not-long_places = b.not-long_places;
        places-sound = b.places-sound;
        entries-are = matches-are (table l) d (not-false _ m);
      }

  pub passes : Passing s l d → fault (directory_tests s l d) ≡ none
  unfolding directory_tests both_tests
  passes p =
      passed (directory_tests s l d) (
        rw (not-long s l p.library-passes) p.not-long_places,
        (
          rw (together s l (whole s l p.library-passes), p.places-sound),
          (rw (are-matches (table l) d p.entries-are), tt),
        ),
      )

-- what the functions below ask, of a library that passes

pub keys-room : (s : GridSearch) (l : Library) → fault (library_tests s l) ≡ none → l.used ≤ length l.keys
keys-room s l e = (in_order (whole s l e)).room.0

pub keys-rise : (s : GridSearch) (l : Library) → fault (library_tests s l) ≡ none → IsNonDecreasing (take l.used l.keys)
keys-rise s l e = rising (ordered (in_order (whole s l e)))

-- ---- the tests in the code's order

module _ (s : GridSearch) (l : Library) (d : Directory) where
  pub long-list : long_places d ≡ true → fault (both_tests s l d) ≡ some 24
  unfolding both_tests fault
  long-list e = rw (or-true (too_long (space l)) e)

  module _ (e : long_places d ≡ false) where
    pub damaged : {n : ℕ} → fault (library_tests s l) ≡ some n → fault (both_tests s l d) ≡ some n
    unfolding both_tests library_tests fault
    damaged {n} f =
        by_test (too_long (space l)) (λ t. rw t (rw t at f))
        (λ t. by_test (sound s l) (λ g. let q : ◌≡◌ {A = Option ℕ} none (some n) = rw (t, g) at f in absurd (some-ne-none n (sym q))) (λ g. rw (t, g, e) (rw (t, g) at f)))

    module _ (f : fault (library_tests s l) ≡ none) where
      pub bad-places : sound_places d ≡ false → fault (both_tests s l d) ≡ some 13
      unfolding both_tests fault
      bad-places g = rw (not-long s l f, e, g, and-false)

      pub sound-places : sound_places d ≡ true → fault (both_tests s l d) ≡ none
      unfolding both_tests fault
      sound-places g = rw (not-long s l f, e, together s l (whole s l f), g)

  -- 29

  abbrev match_test : List Test
  match_test = refuse 29 (not (matches (table l) d)) ∷ []

  pub lists-refused : {n : ℕ} → fault (both_tests s l d) ≡ some n → fault (directory_tests s l d) ≡ some n
  unfolding directory_tests
  lists-refused {n} f = fault_stop (both_tests s l d) match_test n f

  module _ (f : fault (both_tests s l d) ≡ none) where
    pub no_match : matches (table l) d ≡ false → fault (directory_tests s l d) ≡ some 29
    unfolding directory_tests fault
    no_match m = fault-right (both_tests s l d) match_test f ∙ rw m

    pub match : matches (table l) d ≡ true → fault (directory_tests s l d) ≡ none
    unfolding directory_tests fault
    match m = fault-right (both_tests s l d) match_test f ∙ rw m

  -- ---- the look-up

  pub look-refused : (key : ℕ) {n : ℕ} → fault (directory_tests s l d) ≡ some n → refused n ≡ looking_up s l d key
  unfolding looking_up asking asked_unless
  look-refused key f = rw f

  module _ (f : fault (directory_tests s l d) ≡ none) where
    pub places-room : PlaceRoom d d.used
    places-room = place-room d (passing s l d f).places-sound

    pub look-told : (key : ℕ) → success (look_among (length (take d.used d.keys)) key (take d.used d.keys) 0 (length (take d.used d.keys))) ≡ looking_up s l d key
    unfolding looking_up asking asked_unless look_up
    look-told key = rw (f, entries-count d, entries-keys d places-room.0, length-take-le d.used d.keys places-room.0)
