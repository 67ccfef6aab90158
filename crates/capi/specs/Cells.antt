-- An index as C has it, in a list of 6 numbers and a list of 7 floats, and what a build of one gives to C.
-- Assumes nothing.
use Rattle.std.specs.Prelude.{ℕ, ◌≡◌, Bool, not, ◌&&◌, List, [], ◌∷◌, ◌++◌, eqb, length, Float}
use Rattle.basics.specs.Refusals.{Test, refuse, fault, through}
use Rattle.mesh.specs.Mesh.{Mesh}
use Rattle.cell_sizes.specs.declared.Settings.{Settings}
use Rattle.cell_sizes.specs.Large.{measure}
use Rattle.grid_cells.specs.declared.GridCells.{GridCells}
use Rattle.grid_cells.specs.Build.{IndexLists, size_tests, later_tests, make, Build, settle_build}
use Rattle.capi.specs.Answers.{number, written}

-- dimension; divisions along x, y, z; rows in use; large cells in use
abbrev pub cells_numbers : GridCells → List ℕ
cells_numbers g = g.ndim ∷ g.ndiv.x ∷ g.ndiv.y ∷ g.ndiv.z ∷ g.used ∷ g.large ∷ []

-- side length; xmin; xmax
abbrev pub cells_floats : GridCells → List Float
cells_floats g = g.side_length ∷ g.xmin.x ∷ g.xmin.y ∷ g.xmin.z ∷ g.xmax.x ∷ g.xmax.y ∷ g.xmax.z ∷ []

abbrev pub cells_lengths : List ℕ → List Float → Bool
cells_lengths numbers floats = eqb (length numbers) 6 && eqb (length floats) 7

-- what turns the call away: 1, 24, then 13 for an index list of another length, then the other tests of a build
unfoldable pub cells_tests : ℕ → Mesh → Settings → IndexLists → List ℕ → List Float → List Test
unfolding size_tests later_tests
cells_tests n m t l numbers floats = size_tests n m l ++ refuse 13 (not (cells_lengths numbers floats)) ∷ later_tests n m t l

-- the build, with the index in two lists
unfoldable pub build_in_c : ℕ → Mesh → Settings → IndexLists → List ℕ → List Float → Build
unfolding settle_build fault cells_tests make measure
build_in_c n m t l numbers floats = settle_build (fault (cells_tests n m t l numbers floats)) (make n (measure n m t) t) l

-- the number r; rows and large cells at exit are those of the build; and both index lists' new content
pub record ToldCells (b : Build) (r : ℕ) (lists : IndexLists) (numbers numbers' : List ℕ) (floats floats' : List Float) : Type 0 where
  pub returned : r ≡ number b.answer
  pub lists-are : lists ≡ b.lists
  pub numbers-written : numbers' ≡ written (through cells_numbers b.answer) numbers
  pub floats-written : floats' ≡ written (through cells_floats b.answer) floats

-- ---- what the private functions ensure

-- 1, 24, and 13 by the index lists
unfoldable pub cells_list_tests : ℕ → Mesh → IndexLists → List ℕ → List Float → List Test
cells_list_tests n m l numbers floats = size_tests n m l ++ refuse 13 (not (cells_lengths numbers floats)) ∷ []
