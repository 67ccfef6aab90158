-- What the program says of the text that it puts: it is the definition's for some content of standard input (`files` says why no
-- more can be said).
-- Assumes nothing.
use Rattle.std.specs.Prelude.{ℕ, ◌≡◌, List}
use Rattle.std.proofs.Math.Option.{Option}
use Rattle.surveyed.specs.Surveyed.{surveyed}

pub record Printed (text : List ℕ) : Type 0 where
  pub input : Option (List ℕ)
  pub is : text ≡ surveyed input
