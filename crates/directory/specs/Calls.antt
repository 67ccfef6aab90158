-- Calls on a library that has a directory. One statement over all of them: a call with a directory is the call without, with 24 and 13 covering both, 29 directly
-- after them, and 12 covering the directory's places as they would stand after the call; a call that changes the rows leaves the directory of the new rows.
-- Assumes nothing.
use Rattle.std.specs.Prelude.{ℕ, ◌≡◌, cond, not, ◌&&◌, ◌||◌, List, [], ◌∷◌, ◌++◌, length}
use Rattle.std.proofs.Math.Option.{Option, none, some}
use Rattle.basics.specs.Filled.{Filled}
use Rattle.basics.specs.Refusals.{Test, refuse, fault, Answer, refused, success}
use Rattle.grid_search.specs.declared.GridSearch.{GridSearch}
use Rattle.table.specs.Library.{Library, table, space, too_long}
use Rattle.rows.specs.Damage.{sound}
use Rattle.rows.specs.Turn.{Turn}
use Rattle.directory.specs.Entries.{Looked, directory_of, look_up}
use Rattle.directory.specs.Directory.{Directory, directory, entries, file, long_places, sound_places, matches, roomy_places}
use Rattle.directory.specs.declared.Look as code
use Rattle.std.specs.Prelude as prelude
use Rattle.std.specs.Prelude.{Some, None, Result}
use Rattle.basics.specs.declared.Refusal.{Refusal}
use Rattle.basics.specs.Answers.{answered}

-- ---- what turns a library and its directory away

-- 24, 13: the rows' lists and the directory's
unfoldable pub both_tests : GridSearch → Library → Directory → List Test
unfolding too_long space sound long_places sound_places
both_tests s l d =
    refuse 24 (too_long (space l) || long_places d)
    ∷ refuse 13 (not (sound s l && sound_places d))
    ∷ []

-- 24, 13, 29: every call that takes a directory but its build
unfoldable pub directory_tests : GridSearch → Library → Directory → List Test
unfolding both_tests matches table
directory_tests s l d = both_tests s l d ++ (refuse 29 (not (matches (table l) d)) ∷ [])

-- ---- a call that changes the rows

-- the library and the directory as the call leaves them, and its answer
pub record Filed (A : Type 0) : Type 0 where
  pub library : Library
  pub directory : Directory
  pub answer : Answer A

-- the refusal, and both as they were
abbrev pub unfiled : {A : Type 0} → ℕ → Library → Directory → Filed A
unfiled n l d = record { library = l; directory = d; answer = refused n }

-- Past 24, 13 and 29, of the answer without a directory and the library that it leaves: the same refusal; or 12, where the directory of the new rows has no room; or
-- the same answer and library, and the directory of the new rows.
unfoldable pub filed_by : {A : Type 0} → Library → Directory → Answer A → Library → Filed A
unfolding roomy_places table file directory_of
filed_by l d (refused n) new = unfiled n l d
filed_by l d (success a) new =
    cond (roomy_places d (table new)) (record { library = new; directory = file (directory_of (table new)) d; answer = success a }) (unfiled 12 l d)

unfoldable pub filed_unless : {A : Type 0} → Option ℕ → Library → Directory → Turn A → Filed A
unfolding filed_by
filed_unless none l d t = filed_by l d t.answer t.library
filed_unless (some n) l d t = unfiled n l d

-- the call that gives t without a directory
unfoldable pub filing : {A : Type 0} → GridSearch → Library → Directory → Turn A → Filed A
unfolding filed_unless fault directory_tests
filing s l d t = filed_unless (fault (directory_tests s l d)) l d t

-- what is returned, and the library and the directory at exit, is what the definition gives
pub record GivesBoth {A : Type 0} (f : Filed A) (a : Answer A) (l : Library) (d : Directory) : Type 0 where
  pub answers : a ≡ f.answer
  pub library-is : l ≡ f.library
  pub directory-is : d ≡ f.directory

-- ---- a call that asks

-- the call that answers a without a directory
unfoldable pub asked_unless : {A : Type 0} → Option ℕ → Answer A → Answer A
asked_unless none a = a
asked_unless (some n) a = refused n

unfoldable pub asking : {A : Type 0} → GridSearch → Library → Directory → Answer A → Answer A
unfolding asked_unless fault directory_tests
asking s l d a = asked_unless (fault (directory_tests s l d)) a

-- the same of a call that writes the front of a lent list
unfoldable pub filled_unless : Option ℕ → List ℕ → Filled → Filled
filled_unless none list f = f
filled_unless (some n) list f = record { answer = refused n; list = list }

unfoldable pub filling : GridSearch → Library → Directory → List ℕ → Filled → Filled
unfolding filled_unless fault directory_tests
filling s l d list f = filled_unless (fault (directory_tests s l d)) list f

-- ---- the build

-- the directory with no place in use: what a build is handed, whose used count is not read
abbrev pub unused : Directory → Directory
unused d = directory d.keys d.firsts d.counts 0

-- 24, 13, 12
unfoldable pub build_tests : GridSearch → Library → Directory → List Test
unfolding both_tests roomy_places table
build_tests s l d = both_tests s l (unused d) ++ (refuse 12 (not (roomy_places d (table l))) ∷ [])

-- the directory of the rows, and how many places it uses; or the refusal and the directory as it was
pub record Building : Type 0 where
  pub directory : Directory
  pub answer : Answer ℕ

unfoldable pub built_by : Option ℕ → Library → Directory → Building
unfolding file directory_of table
built_by none l d = record { directory = file (directory_of (table l)) d; answer = success (length (directory_of (table l))) }
built_by (some n) l d = record { directory = d; answer = refused n }

unfoldable pub building : GridSearch → Library → Directory → Building
unfolding built_by fault build_tests
building s l d = built_by (fault (build_tests s l d)) l d

-- what is returned, and the directory at exit, is what the definition gives
pub record Builds (b : Building) (a : Answer ℕ) (d : Directory) : Type 0 where
  pub answers : a ≡ b.answer
  pub directory-is : d ≡ b.directory

abbrev pub built : Result ℕ Refusal → Answer ℕ
built = answered (λ n. n)

-- ---- the look-up

-- 24, 13, 29; else the place of the key, or none, and how many places were read
unfoldable pub looking_up : GridSearch → Library → Directory → ℕ → Answer Looked
unfolding asking look_up entries
looking_up s l d key = asking s l d (success (look_up key (entries d)))

-- what the code's look-up tells
abbrev pub place_told : prelude.Option ℕ → Option ℕ
place_told (Some p) = some p
place_told None = none

abbrev pub look_of : code.Look → Looked
look_of l = record { place = place_told l.place; reads = l.reads }

abbrev pub looked_up : Result code.Look Refusal → Answer Looked
looked_up = answered look_of
