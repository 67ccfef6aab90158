-- A directory that is filed: what it holds and how long its lists are, that it matches, and what a build writes.
-- Assumes nothing.
use Prim.Native.Nat.{ℕ, ◌≤◌, zero-le}
use native.Mathlib.Omega.{arith}
use mathlib.Core.Path.{◌≡◌, refl, sym, ap, ap₂, ◌∙◌}
use mathlib.Core.Bool.{true, false}
use mathlib.Core.Option.{Option, none}
use mathlib.Core.List.{List, [], ◌∷◌, ◌++◌, map}
use lib.Dec.{leb}
use lib.ListN.{length, length-map}
use borrow.Author.Tests.{not-false, le-leb}
use Rattle.basics.proofs.Bools.{both, and_both}
use Rattle.basics.specs.Lists.{tab, over}
use Rattle.basics.specs.Refusals.{fault, success}
use Rattle.basics.proofs.Refusals.{unrefused, passed}
use Rattle.grid_search.specs.declared.GridSearch.{GridSearch}
use Rattle.table.specs.Library.{Library, table, level, fits}
use Rattle.table.specs.Posts.{Long}
use Rattle.table.proofs.Libraries.{length_over, long}
use Rattle.rows.specs.Damage.{sound, library_tests}
use Rattle.directory.specs.declared.Entry.{Entry}
use Rattle.directory.specs.Entries.{key_of, first_of, count_of, directory_of}
use Rattle.directory.specs.Directory.{Directory, directory, entry_at, entries, zeros, file, places, long_places, sound_places, roomy_places}
use Rattle.directory.specs.Calls.{both_tests, build_tests, built_by, building}
use Rattle.directory.proofs.Passing.{entries-count, Passing}

-- ---- entries filed

entries_over : (es : List Entry) (a b c : List ℕ)
    → tab (length es) (entry_at (directory (map key_of es ++ a) (map first_of es ++ b) (map count_of es ++ c) (length es))) ≡ es
entries_over [] a b c = refl
entries_over (e ∷ es) a b c = ap (λ (r : List Entry). e ∷ r) (entries_over es a b c)

-- what is filed is what is then in use
pub entries-file : (es : List Entry) (d : Directory) → entries (file es d) ≡ es
unfolding entries file over
entries-file es d = entries_over es _ _ _

-- in lists as long as they were, where there is room
pub places-file : (es : List Entry) (d : Directory) → Long (places d) (length es) → places (file es d) ≡ places d
unfolding file
places-file es d h =
    λ i. kept key_of d.keys h.0 i ∷ kept first_of d.firsts h.1.0 i ∷ kept count_of d.counts h.1.1.0 i ∷ []
  where
    kept : (f : Entry → ℕ) (c : List ℕ) → length es ≤ length c → length (over (map f es) (zeros c)) ≡ length c
    kept f c k =
        let z : length (zeros c) ≡ length c = length-map c (λ (n : ℕ). 0) in
        length_over (map f es) (zeros c) (omega (arith, length-map es f, z)) ∙ z

pub used-file : (es : List Entry) (d : Directory) → (file es d).used ≡ length es
unfolding file
used-file es d = refl

-- a directory of the same lists that uses so many places as have room
pub sound-file : (es : List Entry) (d : Directory) → sound_places d ≡ true → fits (places d) (length es) ≡ true → (sound_places (file es d) ≡ true) × (places (file es d) ≡ places d)
unfolding sound_places
sound-file es d e f =
    let m = and_both (level (places d)) (fits (places d) d.used) e in
    let h = places-file es d (long (places d) (length es) m.0 f) in
    (both (ap level h ∙ m.0) (ap₂ fits h (used-file es d) ∙ f), h)

-- ---- a directory that matches

-- has room for the directory of the rows
pub matching-roomy : (s : GridSearch) (l : Library) (d : Directory) → Passing s l d → roomy_places d (table l) ≡ true
unfolding roomy_places sound_places
matching-roomy s l d p =
    let n : length (directory_of (table l)) ≡ d.used = sym (ap length p.entries-are) ∙ entries-count d in
    ap (fits (places d)) n ∙ (and_both (level (places d)) (fits (places d) d.used) p.places-sound).1

-- ---- what a build writes, where it is not refused

module _ (s : GridSearch) (l : Library) (d : Directory) (p : fault (library_tests s l) ≡ none) (t : long_places d ≡ false) (v : sound_places d ≡ true) (r : roomy_places d (table l) ≡ true) where
  build-passes : fault (build_tests s l d) ≡ none
  unfolding build_tests both_tests library_tests long_places sound_places fits
  build-passes =
      let u = unrefused (library_tests s l) p in
      let m : sound s l ≡ true = not-false _ u.1.0 in
      let flat : level (places d) ≡ true = (and_both (level (places d)) (leb d.used (length d.keys)) v).0 in
      let none-used : leb 0 (length d.keys) ≡ true = le-leb 0 (length d.keys) zero-le in
      passed (build_tests s l d) (rw (u.0, t), (rw (m, flat, none-used), (rw r, tt)))

  pub builds : building s l d ≡ record { directory = file (directory_of (table l)) d; answer = success (length (directory_of (table l))) }
  unfolding building built_by
  builds = ap (λ (o : Option ℕ). built_by o l d) build-passes
