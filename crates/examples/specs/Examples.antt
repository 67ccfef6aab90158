-- The lines of document 01's 'Positions tried' that it marks with a star, and lines for document 02's requests,
-- evaluated against the definitions that the contracts cite: one list, one proof.
-- Assumes nothing.
use Rattle.std.specs.Prelude.{ℕ, ◌≡◌, Bool, true, false, List, [], ◌∷◌, ◌++◌, map, replicate, pos, negsuc, Float, Some}
use Rattle.std.proofs.Math.Option.{Option, none, some, Option-elim}
use Rattle.std.specs.Float.{nan, inf, fin}
use Rattle.std.specs.Float.Ieee.{lt}
use Rattle.basics.specs.Refusals.{Answer, refused, success}
use Rattle.floats.specs.Rounded.{zero_f, pow2, pow2⁻}
use Rattle.floats.specs.Sqrt.{sqrt_of}
use Rattle.geometry.specs.Position.{position_of}
use Rattle.geometry.specs.Distances.{point_square, point_point, point_circle_answer}
use Rattle.geometry.specs.declared.Zeta.{Zeta}
use Rattle.geometry.specs.Cells.{zetas, triangle_coords, inside}
use Rattle.grid.specs.Divisions.{counts}
use Rattle.grid_search.specs.declared.GridSearch.{GridSearch}
use Rattle.grid_search.specs.Sheet.{new_sheet}
use Rattle.grid_search.specs.Examples.{S, low_of_s, high_of_s}
use Rattle.table.specs.Rows.{key_in}
use Rattle.table.specs.Library.{Library, table}
use Rattle.rows.specs.Turn.{Turn}
use Rattle.rows.specs.Check.{Walk, checking}
use Rattle.rows.specs.Insert.{container_of, insertion}
use Rattle.strike.specs.Strike.{striking}
use Rattle.search.specs.Search.{search_answer}
use Rattle.directory.specs.Entries.{Looked}
use Rattle.directory.specs.Directory.{Directory, directory}
use Rattle.directory.specs.Calls.{Filed, filing, Building, building, looking_up}

-- what a line states: floats, numbers, a test's outcome, or a refusal
pub data Stated : Type 0 where
  floats : List Float → Stated
  numbers : List ℕ → Stated
  test : Bool → Stated
  number : ℕ → Stated
  nothing : Stated
  accepted : Stated
  refusal : ℕ → Stated

-- ---- the answers as statements

unfoldable pub of_sheet : Answer GridSearch → Stated
of_sheet (refused n) = refusal n
of_sheet (success s) = accepted

-- of an insertion or a striking
unfoldable pub of_change : Answer ℕ → Stated
of_change (refused n) = refusal n
of_change (success n) = number n

unfoldable pub of_search : Answer (Option ℕ) → Stated
of_search (refused n) = refusal n
of_search (success none) = nothing
of_search (success (some i)) = number i

-- of a check: the bad row and the rows visited, or the rows visited alone
unfoldable pub of_check : Answer Walk → Stated
unfolding Option-elim
of_check (refused n) = refusal n
of_check (success w) = numbers (Option-elim w.bad [] (λ (i : ℕ). i ∷ []) ++ w.visited ∷ [])

-- of a look-up: the place found and the places read, or the places read alone
unfoldable pub of_look_up : Answer Looked → Stated
unfolding Option-elim
of_look_up (refused n) = refusal n
of_look_up (success w) = numbers (Option-elim w.place [] (λ (i : ℕ). i ∷ []) ++ w.reads ∷ [])

unfoldable pub of_distance : Answer Float → Stated
of_distance (refused n) = refusal n
of_distance (success d) = floats (d ∷ [])

-- the keys of the rows in use
unfoldable pub keys_of : Library → Stated
unfolding table
keys_of l = numbers (map key_in (table l))

-- ---- the floats of the lines

abbrev pub half : Float
half = fin false 1 (negsuc 0)

-- 1.5, 2.5, 3.5, 5.5
abbrev pub one_and_half : Float
one_and_half = fin false 3 (negsuc 0)

abbrev pub two_and_half : Float
two_and_half = fin false 5 (negsuc 0)

abbrev pub three_and_half : Float
three_and_half = fin false 7 (negsuc 0)

abbrev pub five_and_half : Float
five_and_half = fin false 11 (negsuc 0)

-- the next binary64 above 8: 8 + 2 ^ -49
abbrev pub above8 : Float
above8 = fin false 4503599627370497 (negsuc 48)

-- 3 - 9 / 4096
abbrev pub below_three : Float
below_three = fin false 12279 (negsuc 11)

-- the binary64 of 2.5001: a tenth of a millimetre beside 2.5
abbrev pub tenth_beside : Float
tenth_beside = fin false 5629724714194489 (negsuc 50)

-- 2.5 - 2 ^ -10, 2.5 + 2 ^ -10 and 1.5 + 2 ^ -36
abbrev pub below_two_and_half : Float
below_two_and_half = fin false 2559 (negsuc 9)

abbrev pub above_two_and_half : Float
above_two_and_half = fin false 2561 (negsuc 9)

abbrev pub above_one_and_half : Float
above_one_and_half = fin false 103079215105 (negsuc 35)

-- ---- on sheet S: corners (0, 0) and (8, 4), divisions 8, border 0, tolerance 1/512

-- S with another tolerance
unfoldable pub with_tolerance : Float → Stated
unfolding of_sheet new_sheet
with_tolerance t = of_sheet (new_sheet low_of_s high_of_s (Some 8) (Some t) (Some zero_f))

-- a library with room for n rows and so many in use, whatever stands in it; with none in use
unfoldable pub holding : ℕ → ℕ → Library
holding n used = record { keys = replicate n 77; ids = replicate n 5; xs = replicate n nan; ys = replicate n (inf true); zs = replicate n half; used = used }

unfoldable pub room : ℕ → Library
unfolding holding
room n = holding n 0

-- id 7 at (2, 1), then at (5.5, 2.5); id 8 at (3 - 9/4096, 0.5), or at (6, 3)
unfoldable pub seven : ℕ → Turn ℕ
unfolding insertion S room
seven n = insertion S (room n) 7 (pow2 1 ∷ pow2 0 ∷ [])

unfoldable pub moved : Turn ℕ
unfolding insertion S seven
moved = insertion S (seven 8).library 7 (five_and_half ∷ two_and_half ∷ [])

unfoldable pub eight : Library → Turn ℕ
unfolding insertion S
eight l = insertion S l 8 (below_three ∷ half ∷ [])

unfoldable pub six_three : Library → Turn ℕ
unfolding insertion S
six_three l = insertion S l 8 (fin false 6 (pos 0) ∷ fin false 3 (pos 0) ∷ [])

-- 7 struck off; 7 at (2, 1), and then struck off
unfoldable pub retire : Library → Turn ℕ
unfolding striking S
retire l = striking S l 7

unfoldable pub seven_gone : ℕ → Turn ℕ
unfolding retire seven
seven_gone n = retire (seven n).library

-- 7 at (2, 1), then 8 at (3 - 9/4096, 0.5), and 7 struck off
unfoldable pub closed : ℕ → Turn ℕ
unfolding retire eight seven
closed n = retire (eight (seven n).library).library

unfoldable pub find : Library → Float → Float → Stated
unfolding of_search search_answer S
find l x y = of_search (search_answer S l (x ∷ y ∷ []))

-- a mark more
unfoldable pub with : ℕ → Float → Float → Library → Library
unfolding insertion S
with i x y l = (insertion S l i (x ∷ y ∷ [])).library

-- 7 at (2.5, 1.5), and 8 a tenth of a millimetre beside it
unfoldable pub anchors : ℕ → Library
unfolding with room
anchors n = with 8 tenth_beside one_and_half (with 7 two_and_half one_and_half (room n))

-- one mark to the right of (2.5, 1.5), and then another as far to the left
unfoldable pub sides : ℕ → ℕ → Library
unfolding with room
sides i j = with j below_two_and_half one_and_half (with i above_two_and_half one_and_half (room 4))

-- 3 at (2.5 + 2 ^ -10, 1.5 + 2 ^ -36), and 5 at (2.5 + 2 ^ -10, 1.5): their squares from (2.5, 1.5) are 2 ^ -20 + 2 ^ -72 and 2 ^ -20
unfoldable pub equal_roots : ℕ → Library
unfolding with room
equal_roots n = with 5 above_two_and_half one_and_half (with 3 above_two_and_half above_one_and_half (room n))

-- 6, 2 and 9 at (2.5, 1.5)
unfoldable pub stacked : ℕ → Library
unfolding with room
stacked n = with 9 two_and_half one_and_half (with 2 two_and_half one_and_half (with 6 two_and_half one_and_half (room n)))

-- four rows of 7 at (2, 1), with these keys and third coordinates
unfoldable pub four_with : List ℕ → List Float → Library
four_with keys zs = record { keys = keys; ids = replicate 4 7; xs = replicate 4 (pow2 1); ys = replicate 4 (pow2 0); zs = zs; used = 4 }

-- the same with +0 as every third coordinate
unfoldable pub four : List ℕ → Library
unfolding four_with
four keys = four_with keys (replicate 4 zero_f)

unfoldable pub check : Library → Stated
unfolding of_check checking S
check l = of_check (checking S l)

-- 7 at (2, 1) and 8 at (3 - 9/4096, 0.5): rows of keys 1, 2, 2, 9, 10, with room for so many
unfoldable pub beside : ℕ → Library
unfolding eight seven
beside n = (eight (seven n).library).library

-- a directory of n places with so many in use, whatever stands in it; and the one that is built for these rows in n places
unfoldable pub places : ℕ → ℕ → Directory
places n used = directory (replicate n 9) (replicate n 9) (replicate n 9) used

unfoldable pub build : ℕ → Building
unfolding building S beside places
build n = building S (beside 8) (places n 3)

-- a key looked up in it
unfoldable pub look : ℕ → Stated
unfolding of_look_up looking_up S beside build
look key = of_look_up (looking_up S (beside 8) (build 6).directory key)

-- through it, or through one that lacks places: 7 at (5.5, 2.5) too; 7 struck off
unfoldable pub filed_moved : ℕ → Filed ℕ
unfolding filing insertion S beside build
filed_moved n = filing S (beside 8) (build n).directory (insertion S (beside 8) 7 (five_and_half ∷ two_and_half ∷ []))

unfoldable pub filed_gone : Filed ℕ
unfolding filing striking S beside build
filed_gone = filing S (beside 8) (build 6).directory (striking S (beside 8) 7)

-- a directory's keys, first rows and numbers of rows
unfoldable pub three_of : Directory → Stated
three_of d = numbers (d.keys ++ d.firsts ++ d.counts)

-- from (2.5, 1.5): the square of the distance, and the distance
unfoldable pub square_to : Float → Float → Float
unfolding point_square
square_to x y = point_square (x ∷ y ∷ []) (two_and_half ∷ one_and_half ∷ [])

unfoldable pub distance_to : Float → Float → Float
unfolding point_point
distance_to x y = point_point (x ∷ y ∷ []) (two_and_half ∷ one_and_half ∷ [])

-- the triangle (0, 0), (4, 0), (0, 4)
unfoldable pub in_triangle : Float → Float → Zeta
unfolding triangle_coords
in_triangle x y =
    triangle_coords (position_of (zero_f ∷ zero_f ∷ [])) (position_of (pow2 2 ∷ zero_f ∷ [])) (position_of (zero_f ∷ pow2 2 ∷ [])) (position_of (x ∷ y ∷ []))

-- ---- the list: what the definitions give, and what the documents state

pub record Line : Type 0 where
  pub given : Stated
  pub stated : Stated

unfoldable pub line : Stated → Stated → Line
line g s = record { given = g; stated = s }

unfoldable pub lines : List Line
unfolding line sqrt_of container_of S find seven moved eight six_three retire seven_gone closed holding with_tolerance point_circle_answer of_distance of_change keys_of in_triangle inside
    anchors sides equal_roots stacked square_to distance_to lt check four four_with build look filed_moved filed_gone three_of of_look_up looking_up beside places
lines =
    -- S has divisions 8 and 4, and side 1
    line (numbers (counts 2 S.ndiv)) (numbers (8 ∷ 4 ∷ []))
    ∷ line (floats (S.side_length ∷ [])) (floats (pow2 0 ∷ []))
    -- the roots of 2.25 and 0.25
    ∷ line (floats (sqrt_of (fin false 9 (negsuc 1)) ∷ [])) (floats (fin false 3 (negsuc 0) ∷ []))
    ∷ line (floats (sqrt_of (pow2⁻ 2) ∷ [])) (floats (half ∷ []))
    -- the keys of (0, 0), (3.5, 2.5) and (8, 4); the next float above 8
    ∷ line (number (container_of S (zero_f ∷ zero_f ∷ []))) (number 0)
    ∷ line (number (container_of S (three_and_half ∷ two_and_half ∷ []))) (number 19)
    ∷ line (number (container_of S (pow2 3 ∷ pow2 2 ∷ []))) (number 31)
    ∷ line (find (room 8) above8 (pow2 2)) (refusal 11)
    -- id 7 at (2, 1) into empty rows; with 3 free rows
    ∷ line (of_change (seven 8).answer) (number 4)
    ∷ line (keys_of (seven 8).library) (numbers (1 ∷ 2 ∷ 9 ∷ 10 ∷ []))
    ∷ line (of_change (seven 3).answer) (refusal 12)
    -- afterwards (2, 1) finds 7; at (5.5, 2.5) key 21 is added, and (2, 1) still finds 7
    ∷ line (find (seven 8).library (pow2 1) (pow2 0)) (number 7)
    ∷ line (keys_of moved.library) (numbers (1 ∷ 2 ∷ 9 ∷ 10 ∷ 21 ∷ []))
    ∷ line (find moved.library (pow2 1) (pow2 0)) (number 7)
    -- id 8 alone at (3 - 9/4096, 0.5), and (3, 0.5)
    ∷ line (keys_of (eight (room 8)).library) (numbers (2 ∷ []))
    ∷ line (find (eight (room 8)).library (fin false 3 (pos 0)) half) (nothing)
    -- S with tolerance 0.5, and with 0.4375
    ∷ line (with_tolerance half) (refusal 10)
    ∷ line (with_tolerance (fin false 7 (negsuc 3))) (accepted)
    -- the circle of centre (4, 2) and radius 1: (5, 2) and (4, 2)
    ∷ line (of_distance (point_circle_answer (pow2 2 ∷ pow2 1 ∷ []) (pow2 0) (fin false 5 (pos 0) ∷ pow2 1 ∷ []))) (floats (zero_f ∷ []))
    ∷ line (of_distance (point_circle_answer (pow2 2 ∷ pow2 1 ∷ []) (pow2 0) (pow2 2 ∷ pow2 1 ∷ []))) (floats (fin true 1 (pos 0) ∷ []))
    -- the triangle's coordinates of (1, 1) and (2, 2), which is inside
    ∷ line (floats (zetas 3 (in_triangle (pow2 0) (pow2 0)))) (floats (half ∷ pow2⁻ 2 ∷ pow2⁻ 2 ∷ []))
    ∷ line (floats (zetas 3 (in_triangle (pow2 1) (pow2 1)))) (floats (zero_f ∷ half ∷ half ∷ []))
    ∷ line (test (inside zero_f (zetas 3 (in_triangle (pow2 1) (pow2 1))))) (test true)
    -- Document 02, request a: of 7 at (2, 1) 4 rows go, (2, 1) finds Nothing, and striking again is 26
    ∷ line (of_change (seven_gone 8).answer) (number 4)
    ∷ line (find (seven_gone 8).library (pow2 1) (pow2 0)) (nothing)
    ∷ line (of_change (retire (seven_gone 8).library).answer) (refusal 26)
    -- and damage comes before 26: in a library with more rows in use than it has room for, in which 7 has none
    ∷ line (of_change (retire (holding 2 3)).answer) (refusal 13)
    -- with room for 4 rows: beside 7 at (2, 1), 8 at (6, 3) is 12; once 7 is struck off it is accepted, with 4 rows
    ∷ line (of_change (six_three (seven 4).library).answer) (refusal 12)
    ∷ line (of_change (six_three (seven_gone 4).library).answer) (number 4)
    ∷ line (keys_of (six_three (seven_gone 4).library).library) (numbers (21 ∷ 22 ∷ 29 ∷ 30 ∷ []))
    -- with room for 6 rows: the row of 8 moves to the front, and every entry past it is 0 or +0, whatever stood there
    ∷ line (of_change (closed 6).answer) (number 4)
    ∷ line (numbers (closed 6).library.keys) (numbers (2 ∷ replicate 5 0))
    ∷ line (numbers (closed 6).library.ids) (numbers (8 ∷ replicate 5 0))
    ∷ line (floats (closed 6).library.xs) (floats (below_three ∷ replicate 5 zero_f))
    ∷ line (floats (closed 6).library.ys) (floats (half ∷ replicate 5 zero_f))
    ∷ line (floats (closed 6).library.zs) (floats (replicate 6 zero_f))
    ∷ line (number (closed 6).library.used) (number 1)
    -- Document 02, request b: with the pole on 8's place 8 is found, although 7 is near, and on 7's place 7
    ∷ line (find (anchors 4) tenth_beside one_and_half) (number 8)
    ∷ line (find (anchors 4) two_and_half one_and_half) (number 7)
    -- equally near on both sides: the lower id, whether it was inserted last and stands to the left or first and to the right
    ∷ line (find (sides 9 4) two_and_half one_and_half) (number 4)
    ∷ line (find (sides 4 9) two_and_half one_and_half) (number 4)
    -- 3 has the larger square and the roots are equal: the lower id, 3, where a choice by squares would name 5
    ∷ line (test (lt (square_to above_two_and_half one_and_half) (square_to above_two_and_half above_one_and_half))) (test true)
    ∷ line (floats (distance_to above_two_and_half above_one_and_half ∷ distance_to above_two_and_half one_and_half ∷ [])) (floats (pow2⁻ 10 ∷ pow2⁻ 10 ∷ []))
    ∷ line (find (equal_roots 4) two_and_half one_and_half) (number 3)
    -- one position under several ids: the lowest, on it and beside it
    ∷ line (find (stacked 4) two_and_half one_and_half) (number 2)
    ∷ line (find (stacked 4) above_two_and_half one_and_half) (number 2)
    -- Document 02, request c: no row of 7 at (2, 1) is bad, and 4 are visited; without rows none is
    ∷ line (check (four (1 ∷ 2 ∷ 9 ∷ 10 ∷ []))) (numbers (4 ∷ []))
    ∷ line (check (room 8)) (numbers (0 ∷ []))
    -- key 2 after key 9, and key 2 twice: the later of the two rows is told, and every other call is 13
    ∷ line (check (four (1 ∷ 9 ∷ 2 ∷ 10 ∷ []))) (numbers (2 ∷ 3 ∷ []))
    ∷ line (check (four (1 ∷ 2 ∷ 2 ∷ 10 ∷ []))) (numbers (2 ∷ 3 ∷ []))
    ∷ line (find (four (1 ∷ 9 ∷ 2 ∷ 10 ∷ [])) (pow2 1) (pow2 0)) (refusal 13)
    -- S has 32 containers: keys 31 and 32 in the last row
    ∷ line (check (four (1 ∷ 2 ∷ 9 ∷ 31 ∷ []))) (numbers (4 ∷ []))
    ∷ line (check (four (1 ∷ 2 ∷ 9 ∷ 32 ∷ []))) (numbers (3 ∷ 4 ∷ []))
    -- -0 in row 1, and a row out of order after it or a key too high before it: the lower row is told
    ∷ line (check (four_with (1 ∷ 2 ∷ 9 ∷ 8 ∷ []) (zero_f ∷ fin true 0 (pos 0) ∷ zero_f ∷ zero_f ∷ []))) (numbers (1 ∷ 2 ∷ []))
    ∷ line (check (four_with (32 ∷ 2 ∷ 9 ∷ 10 ∷ []) (zero_f ∷ fin true 0 (pos 0) ∷ zero_f ∷ zero_f ∷ []))) (numbers (0 ∷ 1 ∷ []))
    -- more rows in use than there is room for
    ∷ line (check (holding 2 3)) (refusal 13)
    -- Document 02, request e: the directory of rows of keys 1, 2, 2, 9, 10 in six places, the last two zero; its used count is not read; three places are too few
    ∷ line (of_change (build 6).answer) (number 4)
    ∷ line (three_of (build 6).directory) (numbers (1 ∷ 2 ∷ 9 ∷ 10 ∷ 0 ∷ 0 ∷ 0 ∷ 1 ∷ 3 ∷ 4 ∷ 0 ∷ 0 ∷ 1 ∷ 2 ∷ 1 ∷ 1 ∷ 0 ∷ 0 ∷ []))
    ∷ line (of_change (build 3).answer) (refusal 12)
    -- look-ups: of places 0 to 3 place 1 is read first, the lower of the two in the middle; then place 0, or 2 and then 3
    ∷ line (look 2) (numbers (1 ∷ 1 ∷ []))
    ∷ line (look 1) (numbers (0 ∷ 2 ∷ []))
    ∷ line (look 9) (numbers (2 ∷ 2 ∷ []))
    ∷ line (look 10) (numbers (3 ∷ 3 ∷ []))
    -- keys that no row has: below, between and above those in use, which is no container of S
    ∷ line (look 0) (numbers (2 ∷ []))
    ∷ line (look 5) (numbers (2 ∷ []))
    ∷ line (look 77) (numbers (3 ∷ []))
    -- 7 at (5.5, 2.5) opens a place of key 21, which four places have no room for; striking 7 leaves 8's alone
    ∷ line (three_of (filed_moved 6).directory) (numbers (1 ∷ 2 ∷ 9 ∷ 10 ∷ 21 ∷ 0 ∷ 0 ∷ 1 ∷ 3 ∷ 4 ∷ 5 ∷ 0 ∷ 1 ∷ 2 ∷ 1 ∷ 1 ∷ 1 ∷ 0 ∷ []))
    ∷ line (of_change (filed_moved 4).answer) (refusal 12)
    ∷ line (three_of filed_gone.directory) (numbers (2 ∷ 0 ∷ 0 ∷ 0 ∷ 0 ∷ 0 ∷ 0 ∷ 0 ∷ 0 ∷ 0 ∷ 0 ∷ 0 ∷ 1 ∷ 0 ∷ 0 ∷ 0 ∷ 0 ∷ 0 ∷ []))
    -- places in use that are not the directory of the rows, and more in use than there are
    ∷ line (of_look_up (looking_up S (beside 8) (places 6 4) 2)) (refusal 29)
    ∷ line (of_look_up (looking_up S (beside 8) (places 3 4) 2)) (refusal 13)
    ∷ []

-- each line gives what it states
abbrev pub Agree : List Line → Type 0
Agree [] = Unit {0}
Agree (l ∷ ls) = (l.given ≡ l.stated) × Agree ls

-- ---- beside them: 12 is judged on the rows as they would stand after the call; a mark is found wherever it has a row

-- four rows, all in use: 7 at (2, 1)
unfoldable pub four_rows : Library
unfolding four
four_rows = four (1 ∷ 2 ∷ 9 ∷ 10 ∷ [])

-- 7 at (2, 1) once more
unfoldable pub full : Turn ℕ
unfolding insertion S four_rows
full = insertion S four_rows 7 (pow2 1 ∷ pow2 0 ∷ [])

-- 7 at the next float above 8
unfoldable pub beyond : Turn ℕ
unfolding insertion S room
beyond = insertion S (room 8) 7 (above8 ∷ pow2 2 ∷ [])

unfoldable pub others : List Line
unfolding line of_change of_search search_answer keys_of find full beyond moved S
others =
    line (of_change full.answer) (number 4)
    ∷ line (keys_of full.library) (numbers (1 ∷ 2 ∷ 9 ∷ 10 ∷ []))
    ∷ line (of_change beyond.answer) (refusal 11)
    ∷ line (keys_of beyond.library) (numbers [])
    ∷ line (find moved.library five_and_half two_and_half) (number 7)
    ∷ line (of_search (search_answer S (room 8) [])) (refusal 2)
    ∷ []
