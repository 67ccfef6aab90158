-- What a grid is.
-- Assumes nothing.
use Prim.Native.Nat.{ℕ}
use mathlib.Core.Path.{◌≡◌}
use mathlib.Core.Bool.{true}
use Rattle.basics.proofs.Bools.{both}
use Rattle.basics.specs.Lists.{all}
use Rattle.geometry.specs.Position.{dimension}
use Rattle.grid.specs.declared.Divisions.{Divisions}
use Rattle.grid.specs.Divisions.{counts, division}
use Rattle.probe.specs.Containers.{is_grid}

pub is_one : (n : ℕ) (d : Divisions) → dimension n ≡ true → all division (counts n d) ≡ true → is_grid n d ≡ true
unfolding is_grid
is_one n d h k = both h k
