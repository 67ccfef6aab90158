-- A sheet as the C interface has it, in a list of 8 numbers and a list of 17 floats: what `gemlab_grid_search_new` writes, and how a sheet that is handed in is read.
-- Assumes nothing.
use Rattle.std.specs.Prelude.{ℕ, zero, suc, ◌+◌, Bool, cond, ◌&&◌, ◌||◌, ◌≡◌, List, [], ◌∷◌, eqb, length, get_or, Float, Option, Some, None}
use Rattle.std.specs.Float.{nan}
use Rattle.basics.specs.Refusals.{Answer, refused, through}
use Rattle.floats.specs.Rounded.{zero_f}
use Rattle.floats.specs.Tests.{same_bits}
use Rattle.geometry.specs.declared.Position.{Position}
use Rattle.geometry.specs.Position.{dimension}
use Rattle.grid_search.specs.declared.GridSearch.{GridSearch}
use Rattle.grid_search.specs.Sheet.{new_sheet}
use Rattle.capi.specs.Answers.{number as returns, written}

-- ---- a setting: a flag that says whether it is given, and its value

-- any flag but 0 means given
abbrev pub given : {A : Type 0} → ℕ → A → Option A
given zero a = None
given (suc flag) a = Some a

abbrev pub given_number : ℕ → ℕ → Option ℕ
given_number = given

abbrev pub given_float : ℕ → Float → Option Float
given_float = given

-- written back: 1 and the value, or 0 and 0
abbrev pub flag_of : {A : Type 0} → Option A → ℕ
flag_of None = 0
flag_of (Some a) = 1

abbrev pub entry_of : {A : Type 0} → A → Option A → A
entry_of empty None = empty
entry_of empty (Some a) = a

-- ---- what is written

-- dimension; divisions given, divisions; tolerance given; border given; divisions along x, y, z
abbrev pub numbers_of : GridSearch → List ℕ
numbers_of s =
    s.ndim
    ∷ flag_of s.number
    ∷ entry_of 0 s.number
    ∷ flag_of s.tolerance
    ∷ flag_of s.border_tol
    ∷ s.ndiv.x
    ∷ s.ndiv.y
    ∷ s.ndiv.z
    ∷ []

-- low corner; high corner; tolerance; border; xmin; xmax; side length; tol_dist; radius
abbrev pub floats_of : GridSearch → List Float
floats_of s =
    s.low.x ∷ s.low.y ∷ s.low.z
    ∷ s.high.x ∷ s.high.y ∷ s.high.z
    ∷ entry_of zero_f s.tolerance
    ∷ entry_of zero_f s.border_tol
    ∷ s.xmin.x ∷ s.xmin.y ∷ s.xmin.z
    ∷ s.xmax.x ∷ s.xmax.y ∷ s.xmax.z
    ∷ s.side_length
    ∷ s.tol_dist
    ∷ s.radius
    ∷ []

-- ---- the call: lists of another length are 13 before everything else

abbrev pub sheet_lengths : List ℕ → List Float → Bool
sheet_lengths numbers floats = eqb (length numbers) 8 && eqb (length floats) 17

unfoldable pub new_in_c : List Float → List Float → Option ℕ → Option Float → Option Float → List ℕ → List Float → Answer GridSearch
unfolding new_sheet
new_in_c xmin xmax ndiv tolerance border numbers floats = cond (sheet_lengths numbers floats) (new_sheet xmin xmax ndiv tolerance border) (refused 13)

-- the number r, and both lists' new content
pub record ToldSheet (x : Answer GridSearch) (r : ℕ) (numbers numbers' : List ℕ) (floats floats' : List Float) : Type 0 where
  pub returned : r ≡ returns x
  pub numbers-written : numbers' ≡ written (through numbers_of x) numbers
  pub floats-written : floats' ≡ written (through floats_of x) floats

-- ---- how a sheet is read

-- a flag is 0 or 1, and with 0 the entry is 0, which is `empty`
abbrev pub setting_read : ℕ → Bool → Bool
setting_read flag empty = eqb flag 1 || (eqb flag 0 && empty)

abbrev pub number_read : ℕ → ℕ → Bool
number_read flag n = setting_read flag (eqb n 0)

abbrev pub float_read : ℕ → Float → Bool
float_read flag x = setting_read flag (same_bits x zero_f)

-- the lists can be those of a sheet: their lengths, the dimension, and the settings with their flags
unfoldable pub readable : List ℕ → List Float → Bool
unfolding same_bits
readable numbers floats =
    sheet_lengths numbers floats
    && (dimension (get_or numbers 0 0)
    && (number_read (get_or numbers 1 0) (get_or numbers 2 0)
    && (float_read (get_or numbers 3 0) (get_or floats 6 nan)
    && float_read (get_or numbers 4 0) (get_or floats 7 nan))))

abbrev pub position_at : ℕ → List Float → Position
position_at i floats = record { x = get_or floats i nan; y = get_or floats (i + 1) nan; z = get_or floats (i + 2) nan }

unfoldable pub read_sheet : List ℕ → List Float → GridSearch
read_sheet numbers floats = record {
  ndim = get_or numbers 0 0;
  low = position_at 0 floats;
  high = position_at 3 floats;
  number = given_number (get_or numbers 1 0) (get_or numbers 2 0);
  tolerance = given_float (get_or numbers 3 0) (get_or floats 6 nan);
  border_tol = given_float (get_or numbers 4 0) (get_or floats 7 nan);
  ndiv = record { x = get_or numbers 5 0; y = get_or numbers 6 0; z = get_or numbers 7 0 };
  xmin = position_at 8 floats;
  xmax = position_at 11 floats;
  side_length = get_or floats 14 nan;
  tol_dist = get_or floats 15 nan;
  radius = get_or floats 16 nan;
}

-- for lists that are not readable stands what empty ones hold: a sheet of dimension 0, which no call takes for good
unfoldable pub sheet_of : List ℕ → List Float → GridSearch
unfolding readable read_sheet
sheet_of numbers floats = cond (readable numbers floats) (read_sheet numbers floats) (read_sheet [] [])
