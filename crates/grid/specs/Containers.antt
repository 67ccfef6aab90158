-- Module 4: the container of a position, and back from a container's key to its indices and centre. One definition serves any number of axes.
-- Assumes nothing.
use Rattle.std.specs.Prelude.{ℕ, ◌+◌, ◌-◌, ◌*◌, ◌/◌, ◌%◌, ◌<◌, Bool, false, cond, ◌||◌, List, [], ◌∷◌, ltb, eqb, take, get_or, Float, Option, Some, None}
use Rattle.std.specs.Float.Ieee.{lt}
use Rattle.basics.specs.Lists.{zip_with}
use Rattle.floats.specs.Rounded.{◌⊕◌, ◌⊖◌, ◌⊗◌, ◌⊘◌, of_nat, truncate, pow2}
use Rattle.grid.specs.declared.ContainerKey.{ContainerKey}
use Rattle.grid.specs.declared.Pivot.{Pivot}

-- below the low corner or above the high one on some axis
unfoldable pub outside : List Float → List Float → List Float → Bool
unfolding lt
outside (a ∷ los) (b ∷ his) (x ∷ xs) = (lt x a || lt b x) || outside los his xs
outside [] his xs = false
outside (a ∷ los) [] xs = false
outside (a ∷ los) (b ∷ his) [] = false

-- each ratio is the truncated (x - xmin) / side
unfoldable pub ratios : Float → List Float → List Float → List ℕ
unfolding zip_with
ratios side xmin x = zip_with (λ (a b : Float). truncate ((a ⊖ b) ⊘ side)) x xmin

-- 17: a ratio exceeds its divisions
unfoldable pub exceed : List ℕ → List ℕ → Bool
exceed (n ∷ ns) (r ∷ rs) = ltb n r || exceed ns rs
exceed [] rs = false
exceed (n ∷ ns) [] = false

-- a ratio equal to its divisions drops by one
unfoldable pub inner : ℕ → ℕ → ℕ
inner n r = cond (eqb r n) (r - 1) r

-- the index of a ratio along an axis, or none where it exceeds the divisions
unfoldable pub along : ℕ → ℕ → Option ℕ
unfolding inner
along n r = cond (ltb n r) None (Some (inner n r))

-- an index is below the divisions
abbrev pub Fits : ℕ → Option ℕ → Type 0
Fits n None = Unit {0}
Fits n (Some i) = i < n

-- i + j·n0 + k·n0·n1, as i + n0·(j + n1·k)
unfoldable pub combine : List ℕ → List ℕ → ℕ
combine (n ∷ ns) (i ∷ is) = i + n * combine ns is
combine [] is = 0
combine (n ∷ ns) [] = 0

-- as many indices as axes, each below its divisions
abbrev pub InGrid : List ℕ → List ℕ → Type 0
InGrid [] [] = Unit {0}
InGrid [] (i ∷ is) = ⊥
InGrid (n ∷ ns) [] = ⊥
InGrid (n ∷ ns) (i ∷ is) = (i < n) × InGrid ns is

unfoldable pub key_of : List ℕ → Float → List Float → List Float → ℕ
unfolding combine zip_with inner ratios
key_of ns side xmin x = combine ns (zip_with inner ns (ratios side xmin x))

-- where a position falls: the key of its container, or none where 17 applies
unfoldable pub located : List ℕ → Float → List Float → List Float → Option ContainerKey
unfolding exceed ratios key_of
located ns side xmin x = cond (exceed ns (ratios side xmin x)) None (Some (record { 0 = key_of ns side xmin x }))

-- how many containers there are: keys are below this
unfoldable pub containers : List ℕ → ℕ
containers [] = 1
containers (n ∷ ns) = n * containers ns

-- the indices along the first n axes
abbrev pub indices : ℕ → Pivot → List ℕ
indices n p = take n (p.i ∷ p.j ∷ p.k ∷ [])

-- the record with these indices: along an axis that the list lacks, 0
abbrev pub pivot_of : List ℕ → Pivot
pivot_of l = record { i = get_or l 0 0; j = get_or l 1 0; k = get_or l 2 0 }

-- the indices of a key: of the container's lower corner
unfoldable pub pivots : List ℕ → ℕ → List ℕ
pivots [] key = []
pivots (n ∷ ns) key = key % n ∷ pivots ns (key / n)

-- the centre of the container with these indices: xmin + i × side + side / 2
unfoldable pub centre : Float → List Float → List ℕ → List Float
unfolding zip_with
centre side xmin is = zip_with (λ (a : Float) (i : ℕ). a ⊕ of_nat i ⊗ side ⊕ side ⊘ pow2 1) xmin is
