-- Runs on document 01's sheet S, evaluated, without a directory and with one: ids 6, 7 and 8, refused calls, strikings, the history of 7 alone in another
-- library, and the distances of a mark that moved.
use Prim.Native.Nat.{ℕ}
use mathlib.Core.Path.{◌≡◌, refl}
use mathlib.Core.Bool.{Bool, true, false}
use mathlib.Core.Option.{none, some}
use mathlib.Core.List.{List, [], ◌∷◌, map}
use lib.IntN.{pos, negsuc}
use lib.ListN.{replicate}
use lib.Ieee.{Float, nan, fin, add, sub, mul, div, of_int, to_unsigned}
use Rattle.basics.specs.Refusals.{refused, success}
use Rattle.floats.specs.Rounded.{◌⊖◌, zero_f, pow2, pow2⁻}
use Rattle.floats.specs.Tests.{within}
use Rattle.std.specs.Prelude.{Some}
use Rattle.grid_search.specs.declared.GridSearch.{GridSearch}
use Rattle.grid_search.specs.Sheet.{sheet_from}
use Rattle.table.specs.Rows.{key_in, before, same}
use Rattle.table.specs.Library.{Library}
use Rattle.directory.specs.Directory.{directory}
use Rattle.independence.specs.Holdings.{Holding, bare, indexed, rows_in}
use Rattle.listing.specs.declared.Filter.TheVariants.{Everything}
use Rattle.listing.specs.Place.{Asked, line}
use Rattle.independence.specs.Run.{Change, insert, strike, Call, change, search, list, counted, found, listed, run, replies}
use Rattle.independence.specs.Histories.{history}
use Rattle.independence.specs.Queries.{near, distance, on}
use Rattle.independence.specs.Claims.{replay}

-- corners (0,0) and (8,4), divisions 8, border 0, tolerance 1/512
S : GridSearch
unfolding sheet_from
S = sheet_from (zero_f ∷ zero_f ∷ []) (pow2 3 ∷ pow2 2 ∷ []) (Some 8) (Some (pow2⁻ 9)) (Some zero_f)

-- no row in use, and the lists full of one thing or another
empty : ℕ → ℕ → Float → Library
empty n k x = record { keys = replicate n k; ids = replicate n k; xs = replicate n x; ys = replicate n x; zs = replicate n x; used = 0 }

-- 7 at (2,1) and at (5.5,2.5); 6 at (2,1); 8 at (3 - 9/4096, 0.5); 7 outside, at (9,1)
seven : Change
seven = insert 7 (pow2 1 ∷ pow2 0 ∷ [])

seven_again : Change
seven_again = insert 7 (fin false 11 (negsuc 0) ∷ fin false 5 (negsuc 0) ∷ [])

six : Change
six = insert 6 (pow2 1 ∷ pow2 0 ∷ [])

eight : Change
unfolding sub
eight = insert 8 ((fin false 3 (pos 0) ⊖ fin false 9 (negsuc 11)) ∷ pow2⁻ 1 ∷ [])

outside : Change
outside = insert 7 (fin false 9 (pos 0) ∷ pow2 0 ∷ [])

-- a line whose ends are one point, and the line through (2,0) and (2,4)
pinched : Asked
pinched = line (pow2 0 ∷ pow2 0 ∷ []) (pow2 0 ∷ pow2 0 ∷ [])

upright : Asked
upright = line (pow2 1 ∷ zero_f ∷ []) (pow2 1 ∷ pow2 2 ∷ [])

calls : List Call
unfolding six seven seven_again eight outside pinched upright
calls =
    list pinched Everything []
    ∷ change seven
    ∷ change eight
    ∷ list pinched Everything []
    ∷ change outside
    ∷ search (pow2 1 ∷ pow2 0 ∷ [])
    ∷ search (fin false 3 (pos 0) ∷ pow2⁻ 1 ∷ [])
    ∷ change seven_again
    ∷ change six
    ∷ search (pow2 1 ∷ pow2 0 ∷ [])
    ∷ list upright Everything (0 ∷ 0 ∷ 9 ∷ [])
    ∷ list upright Everything (0 ∷ [])
    ∷ []

-- two libraries of one space, and the first with a directory of so many places, full of one thing
l : Holding
unfolding empty
l = bare (empty 10 5 zero_f)

l' : Holding
unfolding empty
l' = bare (empty 10 900 nan)

with : ℕ → Holding
unfolding empty
with n = indexed (empty 10 5 zero_f) (directory (replicate n 7) (replicate n 7) (replicate n 7) 0)

-- 15 where there are rows and not before; 11 for the position outside; Nothing 1.125 tolerances away; then 6, the lower of two equally near (2,1); 14 for the short list
all-replies : replies S l calls
    ≡ listed (record { answer = success 0; list = [] })
    ∷ counted (success 4)
    ∷ counted (success 5)
    ∷ listed (record { answer = refused 15; list = [] })
    ∷ counted (refused 11)
    ∷ found (success (some 7))
    ∷ found (success none)
    ∷ counted (success 6)
    ∷ counted (success 10)
    ∷ found (success (some 6))
    ∷ listed (record { answer = success 2; list = 6 ∷ 7 ∷ 9 ∷ [] })
    ∷ listed (record { answer = refused 14; list = 0 ∷ [] })
    ∷ []
unfolding replies S l calls add sub mul div of_int to_unsigned within before same
all-replies = refl

-- the refused insertion is no part of the history
history_of_7 : history 7 S l calls ≡ seven ∷ seven_again ∷ []
unfolding history S l calls add sub mul div of_int to_unsigned within before same
history_of_7 = refl

-- the containers in use, and those of 7 alone
keys : map key_in (rows_in (run S l calls)) ≡ 1 ∷ 1 ∷ 2 ∷ 2 ∷ 2 ∷ 9 ∷ 9 ∷ 10 ∷ 10 ∷ 21 ∷ []
unfolding run S l calls add sub mul div of_int to_unsigned within before same
keys = refl

keys_alone : map key_in (rows_in (run S l' (replay 7 S l calls))) ≡ 1 ∷ 2 ∷ 9 ∷ 10 ∷ 21 ∷ []
unfolding run history S l l' calls add sub mul div of_int to_unsigned within before same
keys_alone = refl

-- 7 is near (2,1) and on the line in both, though search now names 6
asked : Holding → List Bool
unfolding near on upright pinched
asked m = near S m (pow2 1 ∷ pow2 0 ∷ []) 7 ∷ on S m upright Everything 7 ∷ near S m (fin false 3 (pos 0) ∷ pow2⁻ 1 ∷ []) 7 ∷ on S m pinched Everything 7 ∷ []

both : asked (run S l calls) ≡ true ∷ true ∷ false ∷ false ∷ []
unfolding asked run S l calls add sub mul div of_int to_unsigned within before same
both = refl

alone : asked (run S l' (replay 7 S l calls)) ≡ true ∷ true ∷ false ∷ false ∷ []
unfolding asked run history S l l' calls add sub mul div of_int to_unsigned within before same
alone = refl

-- ---- a run with strikings: 7 is struck off, and later inserted again

retired : List Call
unfolding six seven seven_again eight
retired =
    change (strike 7)
    ∷ change seven
    ∷ change six
    ∷ change (strike 7)
    ∷ search (pow2 1 ∷ pow2 0 ∷ [])
    ∷ change (strike 7)
    ∷ change eight
    ∷ change seven_again
    ∷ change (strike 6)
    ∷ search (pow2 1 ∷ pow2 0 ∷ [])
    ∷ []

-- 26 where 7 has no row, at first and once it is struck off; 4 rows of it went, and 4 of 6, after which nothing is near (2,1)
retired_replies : replies S l retired
    ≡ counted (refused 26)
    ∷ counted (success 4)
    ∷ counted (success 8)
    ∷ counted (success 4)
    ∷ found (success (some 6))
    ∷ counted (refused 26)
    ∷ counted (success 5)
    ∷ counted (success 6)
    ∷ counted (success 4)
    ∷ found (success none)
    ∷ []
unfolding replies S l retired add sub mul div of_int to_unsigned within before same
retired_replies = refl

-- the accepted striking is part of the history, and the refused ones are not
retired_history : history 7 S l retired ≡ seven ∷ strike 7 ∷ seven_again ∷ []
unfolding history S l retired add sub mul div of_int to_unsigned within before same
retired_history = refl

-- what is left: 8 in container 2 and 7 in 21; and 7 alone, in the library that was given its history
retired_keys : map key_in (rows_in (run S l retired)) ≡ 2 ∷ 21 ∷ []
unfolding run S l retired add sub mul div of_int to_unsigned within before same
retired_keys = refl

retired_alone : map key_in (rows_in (run S l' (replay 7 S l retired))) ≡ 21 ∷ []
unfolding run history S l l' retired add sub mul div of_int to_unsigned within before same
retired_alone = refl

-- which accepted each of it
replayed : replies S l' (replay 7 S l retired) ≡ counted (success 4) ∷ counted (success 4) ∷ counted (success 1) ∷ []
unfolding replies history S l l' retired add sub mul div of_int to_unsigned within before same
replayed = refl

-- 7 is not near (2,1) any more, nor on the line, in either
gone : asked (run S l retired) ≡ false ∷ false ∷ false ∷ false ∷ []
unfolding asked run S l retired add sub mul div of_int to_unsigned within before same
gone = refl

gone_alone : asked (run S l' (replay 7 S l retired)) ≡ false ∷ false ∷ false ∷ false ∷ []
unfolding asked run history S l l' retired add sub mul div of_int to_unsigned within before same
gone_alone = refl

-- ---- a mark that moved: 7 at (2 - 2^-11, 1.5), beside the next container, then at (2 - 3 * 2^-10, 1.5); 8 at (2 - 3 * 2^-11, 1.5 + 5 * 2^-12)

-- (2 - 3 * 2^-11, 1.5)
pole : List Float
pole = fin false 4093 (negsuc 10) ∷ fin false 3 (negsuc 0) ∷ []

strayed : List Call
unfolding pole
strayed =
    change (insert 7 (fin false 4095 (negsuc 10) ∷ fin false 3 (negsuc 0) ∷ []))
    ∷ change (insert 7 (fin false 2045 (negsuc 9) ∷ fin false 3 (negsuc 0) ∷ []))
    ∷ change (insert 8 (fin false 4093 (negsuc 10) ∷ fin false 6149 (negsuc 11) ∷ []))
    ∷ search pole
    ∷ []

-- 8 is found: the row that 7 left in the next container is nearer, and does not count
strayed_replies : replies S l strayed ≡ counted (success 2) ∷ counted (success 2) ∷ counted (success 4) ∷ found (success (some 8)) ∷ []
unfolding replies S l strayed add sub mul div of_int to_unsigned within before same
strayed_replies = refl

-- 7 is near too, and farther than 8 by the row that counts
strayed_near : near S (run S l strayed) pole 7 ≡ true
unfolding near run S l strayed pole add sub mul div of_int to_unsigned within before same
strayed_near = refl

strayed_distances : map (distance S (run S l strayed) pole) (7 ∷ 8 ∷ []) ≡ fin false 3 (negsuc 10) ∷ fin false 5 (negsuc 11) ∷ []
unfolding distance run S l strayed pole add sub mul div of_int to_unsigned within before same
strayed_distances = refl

-- ---- the same runs with a directory

-- of five places: the containers in use, their first rows and numbers of rows
filed : (run S (with 5) calls).directory ≡ some (directory (1 ∷ 2 ∷ 9 ∷ 10 ∷ 21 ∷ []) (0 ∷ 2 ∷ 5 ∷ 7 ∷ 9 ∷ []) (2 ∷ 3 ∷ 2 ∷ 2 ∷ 1 ∷ []) 5)
unfolding run S with calls add sub mul div of_int to_unsigned within before same
filed = refl

-- after strikings, with zeros past the places in use
refiled : (run S (with 5) retired).directory ≡ some (directory (2 ∷ 21 ∷ 0 ∷ 0 ∷ 0 ∷ []) (0 ∷ 1 ∷ 0 ∷ 0 ∷ 0 ∷ []) (1 ∷ 1 ∷ 0 ∷ 0 ∷ 0 ∷ []) 2)
unfolding run S with retired add sub mul div of_int to_unsigned within before same
refiled = refl

-- of four places: 7 at (5.5,2.5) needs a fifth, and is refused with 12; what came before it stays
crowded : replies S (with 4) (change seven ∷ change seven_again ∷ search (pow2 1 ∷ pow2 0 ∷ []) ∷ []) ≡ counted (success 4) ∷ counted (refused 12) ∷ found (success (some 7)) ∷ []
unfolding replies S with seven seven_again add sub mul div of_int to_unsigned within before same
crowded = refl

-- a directory that does not match is 29, before anything else
mismatched : replies S (indexed (empty 10 5 zero_f) (directory (1 ∷ []) (0 ∷ []) (0 ∷ []) 1)) (change outside ∷ list pinched Everything [] ∷ [])
    ≡ counted (refused 29) ∷ listed (record { answer = refused 29; list = [] }) ∷ []
unfolding replies S empty outside pinched add sub mul div of_int to_unsigned within before same
mismatched = refl
