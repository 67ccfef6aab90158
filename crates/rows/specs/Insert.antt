-- Module 6: where a mark goes, what turns an insertion away, and what it answers and leaves.
-- Assumes nothing.
use Rattle.std.specs.Prelude.{ℕ, ◌/◌, ◌%◌, ◌^◌, Bool, cond, not, List, [], ◌∷◌, ◌++◌, map, eqb, length, Float, Result}
use Rattle.basics.specs.Lists.{all, any, keep, tab}
use Rattle.basics.specs.Refusals.{Test, refuse, fault, Answer}
use Rattle.floats.specs.Rounded.{◌⊕◌, ◌⊖◌}
use Rattle.geometry.specs.Position.{coords, position_of, coordinate}
use Rattle.grid.specs.Divisions.{counts}
use Rattle.grid.specs.Containers.{outside, ratios, exceed, key_of}
use Rattle.grid_search.specs.declared.GridSearch.{GridSearch}
use Rattle.grid_search.specs.Sheet.{tolerance_of}
use Rattle.table.specs.declared.Row.{Row}
use Rattle.table.specs.Rows.{put_in}
use Rattle.table.specs.Library.{Library, table, write, space, roomy}
use Rattle.rows.specs.Damage.{library_tests}
use Rattle.rows.specs.Turn.{Turn, settle}
use Rattle.basics.specs.declared.Refusal.{Refusal}
use Rattle.basics.specs.Answers.{answered}

-- ---- on the sheet

unfoldable pub outside_sheet : GridSearch → List Float → Bool
unfolding outside
outside_sheet s x = outside (coords s.ndim s.xmin) (coords s.ndim s.xmax) x

-- the key of a position's container
unfoldable pub container_of : GridSearch → List Float → ℕ
unfolding key_of
container_of s x = key_of (counts s.ndim s.ndiv) s.side_length (coords s.ndim s.xmin) x

-- a ratio of the position exceeds its divisions
unfoldable pub overshoots : GridSearch → List Float → Bool
unfolding exceed ratios
overshoots s x = exceed (counts s.ndim s.ndiv) (ratios s.side_length (coords s.ndim s.xmin) x)

-- ---- the halo

-- Corner c of the halo: on each axis x - tolerance or x + tolerance, as the axis's binary digit of c is 0 or 1.
unfoldable pub corner : Float → List Float → ℕ → List Float
corner t [] c = []
corner t (x ∷ xs) c = cond (eqb (c % 2) 0) (x ⊖ t) (x ⊕ t) ∷ corner t xs (c / 2)

-- the 4 or 8 corners
unfoldable pub halo : Float → List Float → List (List Float)
unfolding corner
halo t x = tab (2 ^ length x) (corner t x)

-- the position, and those of its halo corners that fall within the sheet
unfoldable pub points : GridSearch → List Float → List (List Float)
unfolding keep outside_sheet halo tolerance_of
points s x = x ∷ keep (λ (c : List Float). not (outside_sheet s c)) (halo (tolerance_of s.tolerance) x)

-- the containers that a mark goes into
unfoldable pub targets : GridSearch → List Float → List ℕ
unfolding points container_of
targets s x = map (container_of s) (points s x)

-- ---- the rows after an insertion

-- the mark's row in each of its containers: an existing row of that container and id takes the new coordinates
unfoldable pub rows_with : GridSearch → ℕ → List Float → List Row → List Row
unfolding put_in targets
rows_with s i x rows = put_in i (position_of x) (targets s x) rows

-- ---- what turns an insertion away: 24, 13, 2, 3, 11, 17, 12

-- a position, for which these points are looked up: 2, 3, 11, 17
unfoldable pub position_tests : GridSearch → List Float → List (List Float) → List Test
unfolding all any outside_sheet overshoots
position_tests s x looked =
    refuse 2 (not (eqb (length x) s.ndim))
    ∷ refuse 3 (not (all coordinate x))
    ∷ refuse 11 (outside_sheet s x)
    ∷ refuse 17 (any (overshoots s) looked)
    ∷ []

-- the table as it would stand after the call has no room: 12
unfoldable pub room_tests : Library → List Row → List Test
unfolding roomy space
room_tests l rows = refuse 12 (not (roomy (space l) rows)) ∷ []

unfoldable pub insert_tests : GridSearch → Library → ℕ → List Float → List Test
unfolding library_tests position_tests points room_tests rows_with table
insert_tests s l i x = library_tests s l ++ (position_tests s x (points s x) ++ room_tests l (rows_with s i x (table l)))

-- ---- what it answers and leaves: the number of rows in use, or the refusal and the library as it was

unfoldable pub insertion : GridSearch → Library → ℕ → List Float → Turn ℕ
unfolding settle fault insert_tests rows_with table write
insertion s l i x = let rows = rows_with s i x (table l) in settle (fault (insert_tests s l i x)) (length rows) (write rows l) l

-- the answer's number or its count
abbrev pub inserted : Result ℕ Refusal → Answer ℕ
inserted = answered (λ (n : ℕ). n)
