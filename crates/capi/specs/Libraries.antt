-- What insertion, striking, the check and search give to C: the number, and everything lent at exit.
-- Assumes nothing.
use Rattle.std.specs.Prelude.{ℕ, ◌≡◌}
use Rattle.std.proofs.Math.Option.{Option, none, some}
use Rattle.basics.specs.Refusals.{Answer, refused, success, through}
use Rattle.table.specs.Library.{Library}
use Rattle.rows.specs.Turn.{Turn}
use Rattle.rows.specs.Check.{Walk}
use Rattle.capi.specs.Answers.{number, written}

-- an insertion or a striking: the library at exit is the one that the call leaves
pub record ToldTurn (t : Turn ℕ) (r : ℕ) (after : Library) : Type 0 where
  pub returned : r ≡ number t.answer
  pub library-is : after ≡ t.library

-- a striking also writes how many rows went
pub record ToldStruck (t : Turn ℕ) (r : ℕ) (after : Library) (removed removed' : ℕ) : Type 0 where
  pub told : ToldTurn t r after
  pub removed_is : removed' ≡ written t.answer removed

-- whether something is found
abbrev pub flag : Option ℕ → ℕ
flag none = 0
flag (some i) = 1

-- the id found, and where none is the number that was there
abbrev pub id_after : Answer (Option ℕ) → ℕ → ℕ
id_after (refused n) old = old
id_after (success none) old = old
id_after (success (some i)) old = i

-- a search: whether something is found, and its id
pub record ToldFound (a : Answer (Option ℕ)) (r found found' id id' : ℕ) : Type 0 where
  pub returned : r ≡ number a
  pub found-is : found' ≡ written (through flag a) found
  pub id-is : id' ≡ id_after a id

-- of a check's answer, the bad row or none, and how many rows were visited
abbrev pub bad_of : Answer Walk → Answer (Option ℕ)
bad_of a = through (λ (w : Walk). w.bad) a

abbrev pub visited_of : Answer Walk → Answer ℕ
visited_of a = through (λ (w : Walk). w.visited) a

-- a check: whether a row is bad and its number, told as a search tells an id, and how many rows were visited
pub record ToldWalk (a : Answer Walk) (r broken broken' row row' visited visited' : ℕ) : Type 0 where
  pub told : ToldFound (bad_of a) r broken broken' row row'
  pub visited-is : visited' ≡ written (visited_of a) visited
