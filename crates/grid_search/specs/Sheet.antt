-- Module 5: the sheet that settings give, in the Rust's order of operations; what turns the settings away; and when a sheet handed back is good.
-- Assumes nothing.
use Rattle.std.specs.Prelude.{ℕ, Bool, true, false, cond, not, ◌&&◌, ◌||◌, List, [], ◌∷◌, map, ltb, eqb, length, Float, Option, Some, None, Result}
use Rattle.std.specs.Float.{binary64}
use Rattle.std.specs.Float.Ieee.{round, lt, le}
use Rattle.basics.specs.Lists.{all, fold_all, zip_with}
use Rattle.basics.specs.Refusals.{Test, refuse, fault, Answer, refused, success, answer}
use Rattle.basics.specs.declared.Refusal.{Refusal}
use Rattle.basics.specs.Answers.{answered}
use Rattle.floats.specs.Rounded.{◌⊕◌, ◌⊖◌, ◌⊗◌, ◌⊘◌, of_nat, zero_f, pow2, pow2⁻}
use Rattle.floats.specs.Tests.{max_of, finite, same_bits}
use Rattle.floats.specs.Sqrt.{sqrt_of}
use Rattle.geometry.specs.declared.Position.{Position}
use Rattle.geometry.specs.Position.{coords, position_of, dimension, coordinate}
use Rattle.geometry.specs.Distances.{from}
use Rattle.grid.specs.declared.Divisions.{Divisions}
use Rattle.grid.specs.Divisions.{divisions_of, num_divisions}
use Rattle.grid_search.specs.declared.GridSearch.{GridSearch}

-- ---- settings: left out means 100 divisions, tolerance 1e-4, border 1e-2, each the binary64 nearest to that decimal

unfoldable pub number_of : Option ℕ → ℕ
number_of None = 100
number_of (Some n) = n

unfoldable pub tolerance_of : Option Float → Float
unfolding round
tolerance_of None = round binary64 false 1 10000
tolerance_of (Some t) = t

unfoldable pub border_of : Option Float → Float
unfolding round
border_of None = round binary64 false 1 100
border_of (Some b) = b

-- ---- what they give

unfoldable pub largest : List Float → Float
unfolding fold_all max_of
largest xs = fold_all max_of zero_f xs

-- the corners moved outwards by a border above 0
unfoldable pub lowered : Float → List Float → List Float
unfolding lt
lowered border lo = cond (lt zero_f border) (map (λ (a : Float). a ⊖ border) lo) lo

unfoldable pub raised : Float → List Float → List Float
unfolding lt
raised border hi = cond (lt zero_f border) (map (λ (a : Float). a ⊕ border) hi) hi

-- the largest (xmax - xmin) / divisions
unfoldable pub side_of : List Float → List Float → List ℕ → Float
unfolding largest zip_with from
side_of xmin xmax ns = largest (zip_with (λ (d : Float) (n : ℕ). d ⊘ of_nat n) (from xmin xmax) ns)

-- the high corner of the containers: xmin + side × divisions
unfoldable pub covered_of : Float → List Float → List ℕ → List Float
unfolding zip_with
covered_of side xmin ns = zip_with (λ (a : Float) (n : ℕ). a ⊕ side ⊗ of_nat n) xmin ns

-- the root of the dimension: √2 or √3, to the nearest binary64
unfoldable pub diagonal : ℕ → Float
unfolding sqrt_of
diagonal n = sqrt_of (of_nat n)

unfoldable pub sheet_from : List Float → List Float → Option ℕ → Option Float → Option Float → GridSearch
unfolding number_of tolerance_of border_of lowered raised side_of covered_of diagonal num_divisions
sheet_from lo hi number tolerance border =
    -- the divisions come from the corners before the border widens them
    let ns = num_divisions (number_of number) lo hi in
    let xmin = lowered (border_of border) lo in
    let side = side_of xmin (raised (border_of border) hi) ns in
    let d = diagonal (length lo) in
    record {
      ndim = length lo;
      low = position_of lo;
      high = position_of hi;
      number = number;
      tolerance = tolerance;
      border_tol = border;
      ndiv = divisions_of ns;
      xmin = position_of xmin;
      xmax = position_of (covered_of side xmin ns);
      side_length = side;
      tol_dist = d ⊗ tolerance_of tolerance;
      radius = d ⊗ side ⊘ pow2 1;
    }

-- ---- what turns settings away: 1 to 10

-- tolerance or border above 1,024, or a positive tolerance below 1/1,048,576
unfoldable pub past_limits : Float → Float → Bool
unfolding lt
past_limits tolerance border = lt (pow2 10) tolerance || (lt (pow2 10) border || (lt zero_f tolerance && lt tolerance (pow2⁻ 20)))

-- 3: a float not finite, a coordinate past its magnitude, tolerance or border past their limits
unfoldable pub out_of_limits : List Float → List Float → Float → Float → Bool
unfolding all finite past_limits
out_of_limits lo hi tolerance border = not (all coordinate lo && (all coordinate hi && (finite tolerance && finite border))) || past_limits tolerance border

-- 7: the high corner is above the low one on every axis
unfoldable pub in_order : List Float → List Float → Bool
unfolding lt
in_order (a ∷ los) (b ∷ his) = lt a b && in_order los his
in_order [] his = true
in_order (a ∷ los) [] = true

unfoldable pub sheet_tests : List Float → List Float → Option ℕ → Option Float → Option Float → List Test
unfolding out_of_limits in_order number_of tolerance_of border_of sheet_from lt le
sheet_tests lo hi number tolerance border =
    refuse 1 (not (dimension (length lo)))
    ∷ refuse 2 (not (eqb (length hi) (length lo)))
    ∷ refuse 3 (out_of_limits lo hi (tolerance_of tolerance) (border_of border))
    ∷ refuse 4 (eqb (number_of number) 0)
    ∷ refuse 5 (eqb (number_of number) 1)
    ∷ refuse 6 (ltb 1024 (number_of number))
    ∷ refuse 7 (not (in_order lo hi))
    ∷ refuse 8 (le (tolerance_of tolerance) zero_f)
    ∷ refuse 9 (lt (border_of border) zero_f)
    ∷ refuse 10 (le (sheet_from lo hi number tolerance border).side_length (pow2 1 ⊗ tolerance_of tolerance))
    ∷ []

unfoldable pub new_sheet : List Float → List Float → Option ℕ → Option Float → Option Float → Answer GridSearch
unfolding sheet_from fault sheet_tests answer
new_sheet lo hi number tolerance border = answer (fault (sheet_tests lo hi number tolerance border)) (sheet_from lo hi number tolerance border)

-- the answer's number or its sheet
abbrev pub made : Result GridSearch Refusal → Answer GridSearch
made = answered (λ (s : GridSearch). s)

-- ---- a sheet handed back: it is the one that its settings give, bit for bit

unfoldable pub same_position : Position → Position → Bool
unfolding same_bits
same_position p q = same_bits p.x q.x && (same_bits p.y q.y && same_bits p.z q.z)

unfoldable pub same_divisions : Divisions → Divisions → Bool
same_divisions d e = eqb d.x e.x && (eqb d.y e.y && eqb d.z e.z)

-- The settings that a sheet gives are its own but for the axes past its dimension, so those and the dimension are compared too.
unfoldable pub same_sheet : GridSearch → GridSearch → Bool
unfolding same_position same_divisions same_bits
same_sheet s t =
    eqb s.ndim t.ndim
    && (same_position s.low t.low
    && (same_position s.high t.high
    && (same_divisions s.ndiv t.ndiv
    && (same_position s.xmin t.xmin
    && (same_position s.xmax t.xmax
    && (same_bits s.side_length t.side_length
    && (same_bits s.tol_dist t.tol_dist
    && same_bits s.radius t.radius)))))))

unfoldable pub agrees : GridSearch → Answer GridSearch → Bool
unfolding same_sheet
agrees s (refused n) = false
agrees s (success t) = same_sheet s t

unfoldable pub sheet_ok : GridSearch → Bool
unfolding agrees new_sheet
sheet_ok s = agrees s (new_sheet (coords s.ndim s.low) (coords s.ndim s.high) s.number s.tolerance s.border_tol)
