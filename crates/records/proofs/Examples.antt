-- A record of document 01's sample, evaluated: (7; 2.00005, 0.5, 0).
use Prim.Native.Nat.{ℕ}
use mathlib.Core.Path.{◌≡◌, refl}
use mathlib.Core.Bool.{false}
use mathlib.Core.List.{List, [], ◌∷◌, ◌++◌}
use lib.IntN.{pos, negsuc}
use lib.Ieee.{fin, binary64, round, nan}
use Rattle.records.specs.Records.{record_at, float_at}

seven : List ℕ
seven =
    (7 ∷ 0 ∷ 0 ∷ 0 ∷ 0 ∷ 0 ∷ 0 ∷ 0 ∷ [])
    ++ ((0x1c ∷ 0xeb ∷ 0xe2 ∷ 0x36 ∷ 0x1a ∷ 0x00 ∷ 0x00 ∷ 0x40 ∷ [])
    ++ ((0 ∷ 0 ∷ 0 ∷ 0 ∷ 0 ∷ 0 ∷ 0xe0 ∷ 0x3f ∷ [])
    ++ (0 ∷ 0 ∷ 0 ∷ 0 ∷ 0 ∷ 0 ∷ 0 ∷ 0 ∷ [])))

read : record_at seven 0 ≡ record { id = 7; x = round binary64 false 200005 100000; y = fin false 1 (negsuc 0); z = fin false 0 (pos 0) }
unfolding record_at seven round
read = refl

-- a NaN's pattern
none : float_at (1 ∷ 0 ∷ 0 ∷ 0 ∷ 0 ∷ 0 ∷ 0xf0 ∷ 0xff ∷ []) 0 ≡ nan
unfolding float_at
none = refl
