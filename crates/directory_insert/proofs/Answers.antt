-- What an insertion into a library that has a directory answers and leaves: a law for each way out of the code.
-- Assumes nothing.
use Prim.Native.Nat.{ℕ, ◌≤◌, ◌<◌}
use native.Mathlib.Omega.{arith}
use mathlib.Core.Path.{◌≡◌, refl, sym, ap, ap₂, ◌∙◌, subst}
use mathlib.Core.Option.{none, some}
use mathlib.Core.List.{List, map}
use lib.Dec.{leb}
use lib.ListN.{length, take}
use lib.Ieee.{Float}
use borrow.Author.Tests.{le-leb, lt-leb}
use Rattle.basics.specs.Refusals.{fault, Answer, refused, success}
use Rattle.geometry.specs.declared.Position.{Position}
use Rattle.geometry.specs.Position.{position_of}
use Rattle.grid_search.specs.declared.GridSearch.{GridSearch}
use Rattle.table.specs.declared.Row.{Row}
use Rattle.table.specs.Rows.{put_in}
use Rattle.table.specs.Library.{Library, table, write}
use Rattle.std.specs.List.Sorted.{IsNonDecreasing}
use Rattle.table.proofs.Libraries.{table-write, write-used}
use Rattle.rows.specs.Damage.{library_tests}
use Rattle.rows.specs.Turn.{Turn, Gives}
use Rattle.rows.specs.Insert.{rows_with, insert_tests, insertion}
use Rattle.rows.specs.Posts.{Accepts}
use Rattle.rows.proofs.Answers.{turned_away, accepted, taken}
use Rattle.directory.specs.Entries.{key_of, directory_of}
use Rattle.directory.specs.Directory.{Directory, file, roomy_places}
use Rattle.directory.specs.Calls.{directory_tests, Filed, filed_by, filed_unless, filing, GivesBoth}
use Rattle.directory.specs.Posts.{PlaceRoom, Written, cut_off}
use Rattle.directory.proofs.Builds.{roomy-is, room_for_places}
use Rattle.directory.proofs.Writes.{written-room, written-cut}
use Rattle.directory.proofs.Filing.{refused_after}
use Rattle.directory.proofs.Passing.{Passing, passing, entries-keys, place-room}
use Rattle.directory_insert.specs.Posts.{PlacesAfter, TakesBoth, TakesAll, BecomesBoth, storing}
use Rattle.directory_insert.proofs.Directories.{write-written}
use Rattle.directory_insert.proofs.Marks.{matching_rises}

-- ---- a mark that is stored, or has too few places

module _ (i : ℕ) (p : Position) (into : List ℕ) (l : Library) (d : Directory) (t : TakesBoth (put_in i p into) l d) where
  abbrev f : List Row → List Row
  f rows = put_in i p into rows

  pub both-room : PlaceRoom d d.used
  both-room = place-room d t.layout

  pub both_rises : IsNonDecreasing (take d.used d.keys)
  both_rises = matching_rises d (table l) t.matching t.rows.rows.order both-room.0

  module _ {n : ℕ} (c : PlacesAfter (take d.used d.keys) into n) where
    count-is : n ≡ length (directory_of (f (table l)))
    count-is = c i p (table l) t.rows.rows.order (ap (map key_of) (sym t.matching) ∙ entries-keys d both-room.0)

    fits-is : roomy_places d (table (write (f (table l)) l)) ≡ leb n (length d.keys)
    fits-is = ap (roomy_places d) (table-write (f (table l)) l) ∙ roomy-is d (f (table l)) ∙ ap (λ (k : ℕ). leb k (length d.keys)) (sym count-is)

    -- 12
    pub places-full : length d.keys < n → GivesBoth (storing f l d) (refused 12) l d
    unfolding filed_by
    places-full h = rw (fits-is ∙ lt-leb n (length d.keys) h) (record { answers = refl; library-is = refl; directory-is = refl })

    module _ (h : n ≤ length d.keys) where
      -- there is room for the directory of the rows
      pub takes_all : TakesAll f l d
      takes_all = record { both = t; room = room_for_places d (f (table l)) t.layout (roomy-is d (f (table l)) ∙ le-leb _ (length d.keys) (omega (arith, count-is))) }

      module _ {after : Library} {dir : Directory} (b : BecomesBoth f l d after dir) where
        held : Written (directory_of (f (table l))) d dir
        held = rw b.places-are (write-written (directory_of (f (table l))) d takes_all.room)

        -- the lists hold it
        pub places-held : PlaceRoom dir dir.used
        places-held = written-room (directory_of (f (table l))) d dir takes_all.room held

        pub places_stored : {new : Directory} → new ≡ cut_off dir.used dir → GivesBoth (storing f l d) (success after.used) after new
        unfolding filed_by
        places_stored e =
            rw (fits-is ∙ le-leb n (length d.keys) h)
            (record {
              answers = ap success (ap (λ (m : Library). m.used) b.rows ∙ write-used (f (table l)) l);
              library-is = b.rows;
              directory-is =
                  e ∙ written-cut (directory_of (f (table l))) d dir held
                  ∙ ap (λ (rows : List Row). file (directory_of rows) d) (sym (table-write (f (table l)) l));
            })

-- ---- an insertion

module _ (s : GridSearch) (l : Library) (d : Directory) (e : fault (directory_tests s l d) ≡ none) where
  filed_passing : Passing s l d
  filed_passing = passing s l d e

  pub library-passes : fault (library_tests s l) ≡ none
  library-passes = filed_passing.library-passes

  filed_is : {A : Type 0} (t : Turn A) {a : Answer A} {new : Library} → Gives t a new → filing s l d t ≡ filed_by l d a new
  unfolding filing filed_unless
  filed_is t g = rw e (ap₂ (λ b m. filed_by l d b m) (sym g.answers) (sym g.library-is))

  module _ (i : ℕ) (x : List Float) where
    -- 2, 3, 11, 17, 12
    pub filed_turned : {n : ℕ} → fault (insert_tests s l i x) ≡ some n → GivesBoth (filing s l d (insertion s l i x)) (refused n) l d
    filed_turned f = refused_after s l d (insertion s l i x) e (turned_away s l i x f)

    module _ (p : Position) (q : p ≡ position_of x) {into : List ℕ} (ok : Accepts s l i x into) where
      pub filed_takes : TakesBoth (put_in i p into) l d
      filed_takes = record { rows = taken s l i x p q ok; layout = filed_passing.places-sound; matching = filed_passing.entries-are }

      pub filed_stored : {a : Answer ℕ} {after : Library} {dir : Directory} → GivesBoth (storing (put_in i p into) l d) a after dir → GivesBoth (filing s l d (insertion s l i x)) a after dir
      filed_stored {a} {after} {dir} g =
          let same : put_in i p into (table l) ≡ rows_with s i x (table l) = rw q ok.rows_are in
          let turn : Gives (insertion s l i x) (success (length (put_in i p into (table l)))) (write (put_in i p into (table l)) l) =
          accepted s l i x ok.passes (ap length same) (ap (λ (rows : List Row). write rows l) same) in
          subst (λ (t : Filed ℕ). GivesBoth t a after dir) (sym (filed_is (insertion s l i x) turn)) g
