-- What an answer says of the list that was lent.
-- Assumes nothing.
use Prim.Native.Nat.{ℕ}
use native.Mathlib.Omega.{arith}
use mathlib.Core.Path.{◌≡◌, refl}
use mathlib.Core.Option.{Option, none, some}
use mathlib.Core.List.{List}
use lib.ListN.{length}
use Rattle.basics.specs.Lists.{over}
use Rattle.basics.specs.Refusals.{refused, success}
use Rattle.basics.specs.Filled.{fill}

module _ (entries list : List ℕ) (n : ℕ) where
  -- a number of entries: nothing was refused, and they stand at the front
  pub fill-success : (o : Option ℕ) → (fill o entries list).answer ≡ success n → (o ≡ none) × ((fill o entries list).list ≡ over entries list) × (n ≡ length entries)
  unfolding fill
  fill-success none e = (refl, refl, cc)
  fill-success (some m) e = let z : ◌≡◌ {A = ℕ} 0 1 = cc in absurd (omega arith)

  pub fill-refused : (o : Option ℕ) → (fill o entries list).answer ≡ refused n → o ≡ some n
  unfolding fill
  fill-refused none e = let z : ◌≡◌ {A = ℕ} 0 1 = cc in absurd (omega arith)
  fill-refused (some m) e = cc
