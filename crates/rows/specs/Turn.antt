-- What a call that changes a library answers and leaves.
-- Assumes nothing.
use Rattle.std.specs.Prelude.{ℕ, ◌≡◌}
use Rattle.std.proofs.Math.Option.{Option, none, some}
use Rattle.basics.specs.Refusals.{Answer, refused, success}
use Rattle.table.specs.Library.{Library}

-- a call's answer, and the library as it leaves it
pub record Turn (A : Type 0) : Type 0 where
  pub library : Library
  pub answer : Answer A

-- the value and the new library, or the refusal and the library as it was
unfoldable pub settle : {A : Type 0} → Option ℕ → A → Library → Library → Turn A
settle none a new old = record { library = new; answer = success a }
settle (some n) a new old = record { library = old; answer = refused n }

-- what is returned, and the library at exit, is what the definition gives
pub record Gives {A : Type 0} (t : Turn A) (a : Answer A) (after : Library) : Type 0 where
  pub answers : a ≡ t.answer
  pub library-is : after ≡ t.library
