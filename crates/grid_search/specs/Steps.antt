-- What the crate's inner functions ensure. Definitions only.
use Rattle.std.specs.Prelude.{ℕ, ◌≡◌, cond, not, List, [], ◌∷◌, map, eqb, ltb, Float}
use Rattle.std.specs.Float.Ieee.{lt, le}
use Rattle.basics.specs.Refusals.{Test, refuse}
use Rattle.floats.specs.Rounded.{zero_f}
use Rattle.geometry.specs.declared.Position.{Position}
use Rattle.geometry.specs.Position.{position_of}
use Rattle.grid_search.specs.Sheet.{out_of_limits, in_order}

-- the tests 3 to 9 of `sheet_tests`, of settings in force
unfoldable pub in_force_tests : List Float → List Float → ℕ → Float → Float → List Test
unfolding out_of_limits in_order lt le
in_force_tests lo hi number tolerance border =
    refuse 3 (out_of_limits lo hi tolerance border)
    ∷ refuse 4 (eqb number 0)
    ∷ refuse 5 (eqb number 1)
    ∷ refuse 6 (ltb 1024 number)
    ∷ refuse 7 (not (in_order lo hi))
    ∷ refuse 8 (le tolerance zero_f)
    ∷ refuse 9 (lt border zero_f)
    ∷ []

-- p is the corner x with each coordinate moved where the border is above 0, by each function that the move computes
abbrev pub Widened : (Float → Float → Type 0) → Float → List Float → Position → Type 0
Widened moves border x p = (f : Float → Float) → ((a b : Float) → moves a b → b ≡ f a) → p ≡ position_of (cond (lt zero_f border) (map f x) x)
