-- The millimetres that `Millimetres::of` answers. Definitions only.
use Rattle.std.specs.Prelude.{ℤ}
use Rattle.std.specs.Prelude as prelude
use Rattle.std.proofs.Math.Option.{Option, none, some}
use Rattle.millimetres.specs.declared.Millimetres.{Millimetres}

-- how many they are, or none
abbrev pub whole_of : prelude.Option Millimetres → Option ℤ
whole_of (prelude.Some m) = some m.count
whole_of prelude.None = none
