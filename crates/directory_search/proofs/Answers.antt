-- What a search through a directory answers: a law for each way out of the code.
-- Assumes nothing.
use Prim.Native.Nat.{ℕ, ◌+◌, ◌≤◌, ◌<◌}
use native.Mathlib.Omega.{arith}
use mathlib.Core.Path.{◌≡◌, sym, ap, ◌∙◌}
use mathlib.Core.Option.{Option-elim, none, some}
use mathlib.Core.List.{List, []}
use lib.ListN.{length, get_or, take, length-map}
use lib.Ieee.{Float}
use borrow.Author.Tests.{ltb-false}
use Rattle.basics.specs.Lists.{any}
use Rattle.basics.proofs.Bools.{or_left}
use Rattle.basics.specs.Refusals.{fault, Answer, refused}
use Rattle.grid_search.specs.declared.GridSearch.{GridSearch}
use Rattle.table.specs.Rows.{lead}
use Rattle.table.specs.Library.{Library, table, space, too_long}
use Rattle.table.specs.Posts.{InOrder}
use Rattle.rows.specs.Insert.{container_of, position_tests}
use Rattle.rows.specs.Posts.{Divided}
use Rattle.rows.proofs.Check.{whole, not-long, divided, in_order}
use Rattle.rows.proofs.Answers.{Called, of_position}
use Rattle.search.specs.Search.{near_rows, nearest, chosen, search_answer}
use Rattle.search.proofs.Answers.{search-first}
use Rattle.directory.specs.Entries.{Looked, look_among, look_up}
use Rattle.directory.specs.Directory.{Directory, entries}
use Rattle.directory.specs.Calls.{directory_tests, asked_unless, asking}
use Rattle.directory.specs.Claims.{lower_rows, rows_within, Finding}
use Rattle.directory.proofs.Passing.{passing, entries-count, entries-keys, place-room}
use Rattle.directory.proofs.Theorems.{meant, look_ups}
use Rattle.directory_search.proofs.Fronts.{near_none, front, front-most, front-order, front-first, front-near}
use Rattle.directory_search.proofs.Places.{found_none, found-used, found_right}

-- ---- 24, 13 and 29, and what follows them

module _ {A : Type 0} (s : GridSearch) (l : Library) (d : Directory) (a : Answer A) where
  pub asked-first : {n : ℕ} → fault (directory_tests s l d) ≡ some n → refused n ≡ asking s l d a
  unfolding asking asked_unless
  asked-first e = rw e

  pub asked-past : fault (directory_tests s l d) ≡ none → a ≡ asking s l d a
  unfolding asking asked_unless
  asked-past e = rw e

-- ---- a library and a directory that pass

module _ (s : GridSearch) (l : Library) (d : Directory) (e : fault (directory_tests s l d) ≡ none) where
  pub passed_sheet : Divided s
  passed_sheet = divided s (whole s l (passing s l d e).library-passes).sheet

  pub passed_keys : d.used ≤ length d.keys
  passed_keys = (place-room d (passing s l d e).places-sound).0

  order : InOrder l
  order = in_order (whole s l (passing s l d e).library-passes)

  -- 2, 3, 11
  pub passed_called : (x : List Float) → fault (position_tests s x []) ≡ none → Called s l x
  passed_called x z = record { library = (passing s l d e).library-passes; position = z }

  pub passed_turned : (x : List Float) {n : ℕ} → fault (position_tests s x []) ≡ some n → refused n ≡ search_answer s l x
  passed_turned x f = search-first s l x (of_position s l x (passing s l d e).library-passes ∙ f)

  few-rows : l.used ≤ 65536
  unfolding too_long space any
  few-rows = omega (arith, order.room.0, ltb-false 65536 (length l.keys) (or_left _ _ (not-long s l (passing s l d e).library-passes)))

  -- the look-up that the code makes
  module _ (key : ℕ) (o : Looked) (f : o ≡ look_among (length (take d.used d.keys)) key (take d.used d.keys) 0 (length (take d.used d.keys))) where
    look_is : o ≡ look_up key (entries d)
    unfolding look_up
    look_is = f ∙ rw (← entries-keys d passed_keys, ← entries-count d, length-map)

    abbrev found : Finding key (table l)
    found = look_ups key (table l) order.order

    -- no place is found: no row is near
    pub passed_nowhere : o.place ≡ none → (x : List Float) → container_of s x ≡ key → none ≡ chosen s x (near_rows s x (table l))
    unfolding chosen nearest Option-elim
    passed_nowhere h x c = rw (near_none s x key c (table l) (found_none d (table l) (passing s l d e).entries-are key found (sym (ap (λ (t : Looked). t.place) look_is) ∙ h)))

    -- a place is found
    module _ {p : ℕ} (g : o.place ≡ some p) where
      place_is : (look_up key (entries d)).place ≡ some p
      place_is = sym (ap (λ (t : Looked). t.place) look_is) ∙ g

      there : p < d.used
      there = found-used d (table l) (passing s l d e).entries-are key found p place_is

      told : (get_or d.firsts p 0 ≡ lower_rows key (table l)) × (get_or d.counts p 0 ≡ rows_within key (table l))
      told = found_right d (table l) (passing s l d e).entries-are key found p place_is (meant (table l) order.order)

      pub passed_there : p < d.used
      passed_there = there

      pub passed_small : get_or d.firsts p 0 + get_or d.counts p 0 ≤ 65536
      passed_small = omega (arith, few-rows, front-most l order key _ _ told.0 told.1)

      module _ {from end : ℕ} (w : from ≡ get_or d.firsts p 0) (v : end ≡ from + get_or d.counts p 0) where
        begins : from ≡ lower_rows key (table l)
        begins = w ∙ told.0

        pub passed_order : InOrder (front l end)
        passed_order = rw v (front-order l order key from (get_or d.counts p 0) begins told.1)

        pub passed_from : from ≡ lead key (take end l.keys)
        passed_from = rw v (front-first l order key from (get_or d.counts p 0) begins told.1)

        pub passed_near : (x : List Float) → container_of s x ≡ key → chosen s x (near_rows s x (table (front l end))) ≡ chosen s x (near_rows s x (table l))
        passed_near x c = ap (chosen s x) (rw v (front-near l order key from (get_or d.counts p 0) begins told.1 s x c))
