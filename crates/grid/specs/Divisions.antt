-- Module 3: the divisions along each axis.
-- Assumes nothing.
use Rattle.std.specs.Prelude.{ℕ, suc, max, Bool, cond, ◌&&◌, List, [], ◌∷◌, eqb, leb, take, get_or, Float}
use Rattle.std.specs.Float.Ieee.{lt}
use Rattle.floats.specs.Rounded.{◌⊗◌, ◌⊘◌, of_nat, truncate, zero_f}
use Rattle.geometry.specs.Distances.{from}
use Rattle.grid.specs.declared.Divisions.{Divisions}
use Rattle.grid.specs.declared.Longest.{Longest}

-- the divisions along the first n axes
abbrev pub counts : ℕ → Divisions → List ℕ
counts n d = take n (d.x ∷ d.y ∷ d.z ∷ [])

-- the record with these divisions: along an axis that the list lacks, 1
abbrev pub divisions_of : List ℕ → Divisions
divisions_of l = record { x = get_or l 0 1; y = get_or l 1 1; z = get_or l 2 1 }

-- divisions that a sheet or an index may have along an axis: 1 to 1,024
abbrev pub division : ℕ → Bool
division n = leb 1 n && leb n 1024

-- of two axes with their lengths the longer one, and the one found first where they are equal
unfoldable pub longer : Longest → ℕ → Float → Longest
unfolding lt
longer best i d = cond (lt best.delta d) (record { axis = i; delta = d }) best

-- the first longest of the axes from i on and of the one found so far
unfoldable pub longest_from : Longest → ℕ → List Float → Longest
unfolding longer
longest_from best i [] = best
longest_from best i (d ∷ ds) = longest_from (longer best i d) (suc i) ds

unfoldable pub longest : List Float → Longest
unfolding longest_from
longest [] = record { axis = 0; delta = zero_f }
longest (d ∷ ds) = longest_from (record { axis = 0; delta = d }) 1 ds

-- The first longest axis gets the full number; another gets the truncation of (its length / longest) × number, at least 1.
unfoldable pub share : ℕ → Longest → ℕ → Float → ℕ
share number best i d = cond (eqb i best.axis) number (max 1 (truncate (d ⊘ best.delta ⊗ of_nat number)))

unfoldable pub shares : ℕ → Longest → ℕ → List Float → List ℕ
unfolding share
shares number best i [] = []
shares number best i (d ∷ ds) = share number best i d ∷ shares number best (suc i) ds

unfoldable pub num_divisions : ℕ → List Float → List Float → List ℕ
unfolding longest shares from
num_divisions number xmin xmax = let ds = from xmin xmax in shares number (longest ds) 0 ds
