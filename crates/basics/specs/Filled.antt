-- What a call that writes the front of a lent list answers and leaves.
-- Assumes nothing.
use Rattle.std.specs.Prelude.{ℕ, List, length}
use Rattle.std.proofs.Math.Option.{Option, none, some}
use Rattle.basics.specs.Lists.{over}
use Rattle.basics.specs.Refusals.{Answer, refused, success}

-- the answer, and the list at exit
pub record Filled : Type 0 where
  pub answer : Answer ℕ
  pub list : List ℕ

-- the number of the entries with the entries at the front, or the refusal with the list as it was
unfoldable pub fill : Option ℕ → List ℕ → List ℕ → Filled
unfolding over
fill none entries list = record { answer = success (length entries); list = over entries list }
fill (some n) entries list = record { answer = refused n; list = list }
