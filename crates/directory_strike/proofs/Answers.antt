-- What a striking with a directory answers and leaves: a law for each way out of the code.
-- Assumes nothing.
use Prim.Native.Nat.{ℕ, ◌-◌, ◌≤◌, ◌<◌}
use native.Mathlib.Omega.{arith}
use mathlib.Core.Path.{◌≡◌, sym, ap, ap₂, ◌∙◌}
use mathlib.Core.Bool.{true, false}
use mathlib.Core.Option.{none}
use mathlib.Core.List.{List, [], map, append-nil}
use lib.Dec.{eqb}
use lib.ListN.{length, get_or, take, length-map}
use lib.Seq.{length-take-le}
use borrow.Author.Tests.{le-leb}
use Rattle.basics.specs.Lists.{leading}
use Rattle.basics.specs.Refusals.{fault, refused, success}
use Rattle.grid_search.specs.declared.GridSearch.{GridSearch}
use Rattle.table.specs.Rows.{key_in, id_in, without}
use Rattle.table.specs.Library.{Library, table, blank, fits}
use Rattle.table.specs.Posts.{Room}
use Rattle.table.proofs.Libraries.{length-table, table-ids, table-write}
use Rattle.rows.proofs.Check.{whole}
use Rattle.strike.specs.Strike.{striking}
use Rattle.strike.specs.Posts.{Leaves, Strikes}
use Rattle.strike.proofs.Removal.{leading-before}
use Rattle.strike.proofs.Answers as rows
use Rattle.directory.specs.declared.Entry.{Entry}
use Rattle.directory.specs.Entries.{directory_of}
use Rattle.directory.specs.Directory.{Directory, entries, file, roomy_places}
use Rattle.directory.specs.Calls.{directory_tests, filing, GivesBoth}
use Rattle.directory.proofs.Passing.{Passing, passing, place-room, entries-count}
use Rattle.directory.proofs.Filing.{refused_after, filed}
use Rattle.directory_strike.specs.Posts.{thinned, total, Thins}
use Rattle.directory_strike.proofs.Entries.{thinned-rows, thinned-length, total-rows}

module _ (s : GridSearch) (l : Library) (d : Directory) (i : ℕ) (past : fault (directory_tests s l d) ≡ none) where
  p : Passing s l d
  p = passing s l d past

  pub room : Room l l.used
  room = rows.room s l i p.library-passes

  abbrev ids : List ℕ
  ids = take l.used l.ids

  ids-long : length ids ≡ l.used
  ids-long = length-take-le l.used l.ids room.1.0

  -- the entries that are left are the directory of the rows that are left
  left_are : thinned i 0 (entries d) ids ≡ directory_of (without i (table l))
  unfolding directory_of
  left_are =
      ap₂ (λ (es : List Entry) (js : List ℕ). thinned i 0 es js) p.entries-are (sym (table-ids l room.1.0) ∙ sym (append-nil (map id_in (table l))))
      ∙ thinned-rows i 0 0 (table l) [] (whole s l p.library-passes).order

  -- and they have room: 12 does not come up
  left_roomy : roomy_places d (without i (table l)) ≡ true
  unfolding roomy_places fits
  left_roomy = le-leb _ (length d.keys) (omega (arith, ap length left_are, thinned-length i 0 (entries d) ids, entries-count d, (place-room d p.places-sound).0))

  -- 26
  pub refused_none : leading i ids ≡ length ids → GivesBoth (filing s l d (striking s l i)) (refused 26) l d
  refused_none h = refused_after s l d (striking s l i) past (rows.refused_none s l i p.library-passes h)

  module _ {first : ℕ} (f : leading i ids ≡ first) where
    pub strikes : Strikes i first l
    strikes = rows.strikes s l i p.library-passes f

    -- the places count the rows in use, and those have ids
    pub thins : Thins i first ids d
    unfolding directory_of
    thins = record {
      room = place-room d p.places-sound;
      rows = omega (arith, ap total p.entries-are, total-rows 0 (map key_in (table l)), length-map (table l) key_in, length-table l, ids-long);
      quiet = record { other = λ j h k. leading-before-in j k };
    }
      where
        leading-before-in : (j : ℕ) → j < first → eqb (get_or ids j 0) i ≡ false
        leading-before-in j k = leading-before i ids j (omega (arith, f))

    module _ {after : Library} (r : Leaves (without i) l after) where
      pub left_most : after.used ≤ l.used
      left_most = rows.left_most s l i p.library-passes f r

      -- how many went, the library that is left, and its directory
      pub accepted : {new : Directory} → new ≡ file (thinned i 0 (entries d) ids) d → first < length ids → GivesBoth (filing s l d (striking s l i)) (success (l.used - after.used)) after new
      accepted {new} m h =
          let rows_are : table after ≡ without i (table l) = ap table r ∙ table-write (without i (table l)) (blank l) in
          filed s l d (striking s l i) past (rows.accepted s l i p.library-passes f r h) (ap (roomy_places d) rows_are ∙ left_roomy)
          (m ∙ ap (λ (es : List Entry). file es d) (left_are ∙ ap directory_of (sym rows_are)))
