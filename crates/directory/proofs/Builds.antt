-- A build: its tests in the code's order, and what it leaves.
-- Assumes nothing.
use Prim.Native.Nat.{ℕ, ◌≤◌, ◌<◌}
use native.Mathlib.Omega.{arith}
use mathlib.Core.Path.{◌≡◌, refl, sym, ap, ◌∙◌}
use mathlib.Core.Bool.{true, false, not}
use mathlib.Core.Option.{none, some}
use mathlib.Core.List.{List, [], ◌∷◌}
use lib.Dec.{leb}
use lib.ListN.{length, take}
use borrow.Author.Tests.{le-leb, lt-leb, not-false}
use Rattle.basics.specs.Refusals.{Test, refuse, fault, refused, success}
use Rattle.basics.proofs.Bools.{and_both}
use Rattle.basics.proofs.Refusals.{unrefused, fault_left, fault-right, fault_stop}
use Rattle.grid_search.specs.declared.GridSearch.{GridSearch}
use Rattle.table.specs.declared.Row.{Row}
use Rattle.table.specs.Library.{Library, table, level, fits}
use Rattle.table.proofs.Libraries.{long}
use Rattle.directory.specs.declared.Entry.{Entry}
use Rattle.directory.specs.Entries.{entries_from, directory_of}
use Rattle.directory.specs.Directory.{Directory, places, file, sound_places, roomy_places}
use Rattle.directory.specs.Calls.{both_tests, unused, build_tests, built_by, building, Builds}
use Rattle.directory.specs.Posts.{PlaceRoom}
use Rattle.directory.proofs.Passing.{directory-keys, keys-room, BothPass, both-pass}

-- places enough, by the first list
pub roomy-is : (d : Directory) (rows : List Row) → roomy_places d rows ≡ leb (length (directory_of rows)) (length d.keys)
unfolding roomy_places fits
roomy-is d rows = refl

-- where the lists are of one length, that is room in each
pub room_for_places : (d : Directory) (rows : List Row) → sound_places d ≡ true → roomy_places d rows ≡ true → PlaceRoom d (length (directory_of rows))
unfolding sound_places roomy_places
room_for_places d rows e f = long (places d) (length (directory_of rows)) (and_both (level (places d)) _ e).0 f

module _ (s : GridSearch) (l : Library) (d : Directory) where
  abbrev room_test : List Test
  room_test = refuse 12 (not (roomy_places d (table l))) ∷ []

  pub lists-refuse : {n : ℕ} → fault (both_tests s l (unused d)) ≡ some n → fault (build_tests s l d) ≡ some n
  unfolding build_tests
  lists-refuse {n} f = fault_stop (both_tests s l (unused d)) room_test n f

  module _ (f : fault (both_tests s l (unused d)) ≡ none) where
    pub lists-pass : BothPass s l (unused d)
    lists-pass = both-pass s l (unused d) f

    pub build-keys-room : l.used ≤ length l.keys
    build-keys-room = keys-room s l lists-pass.library-passes

    module _ {n : ℕ} (e : n ≡ length (entries_from 0 (take l.used l.keys))) where
      needed : n ≡ length (directory_of (table l))
      needed = e ∙ ap length (directory-keys l build-keys-room)

      pub too_few : length d.keys < n → fault (build_tests s l d) ≡ some 12
      unfolding build_tests fault
      too_few h =
          let r : roomy_places d (table l) ≡ false = roomy-is d (table l) ∙ lt-leb (length (directory_of (table l))) (length d.keys) (omega (arith, needed)) in
          fault-right (both_tests s l (unused d)) room_test f ∙ rw r

      pub enough : n ≤ length d.keys → fault (build_tests s l d) ≡ none
      unfolding build_tests fault
      enough h =
          let r : roomy_places d (table l) ≡ true = roomy-is d (table l) ∙ le-leb (length (directory_of (table l))) (length d.keys) (omega (arith, needed)) in
          fault-right (both_tests s l (unused d)) room_test f ∙ rw r

  -- ---- what it leaves

  pub build-refused : {n : ℕ} → fault (build_tests s l d) ≡ some n → Builds (building s l d) (refused n) d
  unfolding building built_by
  build-refused f = record { answers = rw f; directory-is = rw f }

  module _ (f : fault (build_tests s l d) ≡ none) where
    build-lists : fault (both_tests s l (unused d)) ≡ none
    unfolding build_tests
    build-lists = fault_left (both_tests s l (unused d)) room_test f

    pub build-passes : BothPass s l (unused d)
    build-passes = both-pass s l (unused d) build-lists

    pub build-keys : l.used ≤ length l.keys
    build-keys = keys-room s l build-passes.library-passes

    -- what its writing asks
    pub build-room : PlaceRoom d (length (entries_from 0 (take l.used l.keys)))
    unfolding build_tests
    build-room =
        let m = (unrefused room_test (sym (fault-right (both_tests s l (unused d)) room_test build-lists) ∙ f)).0 in
        rw (directory-keys l build-keys) (room_for_places (unused d) (table l) build-passes.places-sound (not-false _ m))

    pub builds : (after : Directory) → after ≡ file (entries_from 0 (take l.used l.keys)) d → Builds (building s l d) (success after.used) after
    unfolding building built_by file
    builds after e =
        let g : after ≡ file (directory_of (table l)) d = e ∙ ap (λ (es : List Entry). file es d) (directory-keys l build-keys) in
        record { answers = rw f (ap (λ (a : Directory). success a.used) g); directory-is = rw f g }
