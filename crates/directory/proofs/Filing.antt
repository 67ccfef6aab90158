-- What a call that changes the rows answers and leaves where there is a directory, by what it gives without one.
-- Assumes nothing.
use Prim.Native.Nat.{ℕ}
use mathlib.Core.Path.{◌≡◌, refl}
use mathlib.Core.Bool.{true}
use mathlib.Core.Option.{none, some}
use Rattle.basics.specs.Refusals.{fault, refused, success}
use Rattle.grid_search.specs.declared.GridSearch.{GridSearch}
use Rattle.table.specs.Library.{Library, table}
use Rattle.rows.specs.Turn.{Turn, Gives}
use Rattle.directory.specs.Entries.{directory_of}
use Rattle.directory.specs.Directory.{Directory, file, roomy_places}
use Rattle.directory.specs.Calls.{directory_tests, filed_by, filed_unless, filing, GivesBoth}

module _ {A : Type 0} (s : GridSearch) (l : Library) (d : Directory) (t : Turn A) where
  -- 24, 13 or 29
  pub refused-first : {n : ℕ} → fault (directory_tests s l d) ≡ some n → GivesBoth (filing s l d t) (refused n) l d
  unfolding filing filed_unless
  refused-first {n} e = rw e (record { answers = refl; library-is = refl; directory-is = refl })

  module _ (e : fault (directory_tests s l d) ≡ none) where
    -- the refusal of the call without a directory
    pub refused_after : {n : ℕ} {after : Library} → Gives t (refused n) after → GivesBoth (filing s l d t) (refused n) l d
    unfolding filing filed_unless filed_by
    refused_after g = rw (e, ← g.answers) (record { answers = refl; library-is = refl; directory-is = refl })

    -- the same answer and library, and the directory of the new rows, which has room
    pub filed : {a : A} {after : Library} {new : Directory} → Gives t (success a) after → roomy_places d (table after) ≡ true → new ≡ file (directory_of (table after)) d
        → GivesBoth (filing s l d t) (success a) after new
    unfolding filing filed_unless filed_by
    filed g h n = rw (e, ← g.answers, ← g.library-is, h) (record { answers = refl; library-is = refl; directory-is = n })
