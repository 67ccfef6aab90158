-- What the calls on a library with a directory give to C: the number, and everything lent at exit. A search and a listing give what they give without one.
-- Assumes nothing.
use Rattle.std.specs.Prelude.{ℕ, ◌≡◌}
use Rattle.std.proofs.Math.Option.{Option}
use Rattle.basics.specs.Refusals.{Answer, through}
use Rattle.table.specs.Library.{Library}
use Rattle.directory.specs.Entries.{Looked}
use Rattle.directory.specs.Directory.{Directory}
use Rattle.directory.specs.Calls.{Building, Filed}
use Rattle.capi.specs.Answers.{number, written}
use Rattle.capi.specs.Libraries.{ToldFound}

-- a build: the directory at exit, with its used count, is the one that the call leaves
pub record ToldBuilt (b : Building) (r : ℕ) (after : Directory) : Type 0 where
  pub returned : r ≡ number b.answer
  pub directory-is : after ≡ b.directory

-- of a look-up's answer, the place or none, and how many places were read
abbrev pub place_of : Answer Looked → Answer (Option ℕ)
place_of a = through (λ (l : Looked). l.place) a

abbrev pub reads_of : Answer Looked → Answer ℕ
reads_of a = through (λ (l : Looked). l.reads) a

-- a look-up: whether a place is found and its number, told as a search tells an id, and how many places were read
pub record ToldLooked (a : Answer Looked) (r found found' place place' reads reads' : ℕ) : Type 0 where
  pub told : ToldFound (place_of a) r found found' place place'
  pub reads-is : reads' ≡ written (reads_of a) reads

-- an insertion or a striking: the library and the directory at exit are those that the call leaves
pub record ToldFiled (f : Filed ℕ) (r : ℕ) (l : Library) (d : Directory) : Type 0 where
  pub returned : r ≡ number f.answer
  pub library-is : l ≡ f.library
  pub directory-is : d ≡ f.directory

-- a striking also writes how many rows went
pub record ToldTakenOff (f : Filed ℕ) (r : ℕ) (l : Library) (d : Directory) (removed removed' : ℕ) : Type 0 where
  pub told : ToldFiled f r l d
  pub removed_is : removed' ≡ written f.answer removed
