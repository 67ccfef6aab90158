-- Demand 3, clause by clause: what is claimed of every list of calls, insertions and strikings among them, on a library with its directory or without one;
-- what a striking frees; and that a directory changes no answer.
-- `proofs/Theorems.antt` has a proof of each claim. Words in quotes are document 01's or, of a striking, document 02's.
-- Assumes nothing.
use Rattle.std.specs.Prelude.{ℕ, ◌+◌, ◌≤◌, ◌≡◌, Bool, true, false, cond, not, ◌||◌, List, [], ◌∷◌, ◌++◌, map, eqb, length, Float}
use Rattle.std.proofs.Math.Option.{Option, none, some}
use Rattle.std.specs.Float.Ieee.{le, eq}
use Rattle.basics.specs.Lists.{all, has, over}
use Rattle.basics.specs.Refusals.{fault, refused, success}
use Rattle.geometry.specs.declared.Position.{Position}
use Rattle.grid_search.specs.declared.GridSearch.{GridSearch}
use Rattle.grid_search.specs.Sheet.{sheet_ok}
use Rattle.table.specs.declared.Row.{Row}
use Rattle.table.specs.Rows.{Slot, slot_of, sorted, row_for, own}
use Rattle.table.specs.Library.{Library, level}
use Rattle.rows.specs.Insert.{rows_with}
use Rattle.sorting.specs.Ascent.{ascending}
use Rattle.listing.specs.declared.Filter.{Filter}
use Rattle.listing.specs.Place.{Asked}
use Rattle.directory.specs.Directory.{Directory, roomy_places}
use Rattle.directory.specs.Calls.{directory_tests, building}
use Rattle.independence.specs.Holdings.{Holding, bare, indexed, rows_in, lent, long_in, roomy_in, places_used, holding_tests, searching, listing_in}
use Rattle.independence.specs.Run.{Change, insert, strike, Call, change, Reply, counted, step, refusal, accepted, run, replies}
use Rattle.independence.specs.Histories.{history, others, built, placed}
use Rattle.independence.specs.Queries.{near, distance, ids_in, on}

-- "Empty means used count 0, rows of any content": the lists hold anything. And "an empty library's directory has no place in use".
pub record Empty (h : Holding) : Type 0 where
  pub none_used : h.library.used ≡ 0
  pub no_place : places_used h.directory ≡ 0

-- ---- 1. Independence between ids

-- the id's history in the library h, as calls on another library
abbrev pub replay : ℕ → GridSearch → Holding → List Call → List Call
replay i s h calls = map change (history i s h calls)

-- the id i in the library h after all the calls, and in the library h' after the history of i alone
pub record Alike (s : GridSearch) (h h' : Holding) (calls : List Call) (i : ℕ) : Type 0 where
  -- h' accepts each insertion and striking of the history
  pub accepts : all accepted (replies s h' (replay i s h calls)) ≡ true
  -- its rows are then those that h has of i
  pub rows : rows_in (run s h' (replay i s h calls)) ≡ own i (rows_in (run s h calls))
  -- i is near a position in h exactly if it is near it in h', for every position
  pub near_alike : (x : List Float) → near s (run s h calls) x i ≡ near s (run s h' (replay i s h calls)) x i
  -- i is listed in h exactly if it is listed in h', for every place and filter
  pub on_alike : (p : Asked) (f : Filter) → on s (run s h calls) p f i ≡ on s (run s h' (replay i s h calls)) p f i

-- For every sheet, every two empty libraries of one space, both with a directory or both without, whatever their lists hold, every list of calls, accepted or refused, and every id.
-- Nothing is asked of the sheet and the space: where the sheet is not good, or the lists are of unequal length or too long, both libraries refuse every call.
abbrev pub Independence : Type 0
Independence = (s : GridSearch) (h h' : Holding) → Empty h → Empty h' → lent h ≡ lent h' → (calls : List Call) (i : ℕ) → Alike s h h' calls i

-- ---- 2. An id that is near a position, or listed, stays so whatever other ids do, and one that is not does not become so

pub record Unmoved (s : GridSearch) (h : Holding) (calls : List Call) (i : ℕ) : Type 0 where
  pub near_still : (x : List Float) → near s (run s h calls) x i ≡ near s h x i
  pub on_still : (p : Asked) (f : Filter) → on s (run s h calls) p f i ≡ on s h p f i

-- in any library, empty or not
abbrev pub Permanence : Type 0
Permanence = (s : GridSearch) (h : Holding) (calls : List Call) (i : ℕ) → others i calls ≡ true → Unmoved s h calls i

-- ---- 3. No run damages a library

-- a refusal that is about what was handed in as the library and its directory: 24, 13 or 29
unfoldable pub blames : Option ℕ → Bool
blames none = false
blames (some n) = eqb n 24 || (eqb n 13 || eqb n 29)

pub record Undamaged (s : GridSearch) (h : Holding) (calls : List Call) : Type 0 where
  -- the library passes 24 and 13 after the calls, and its directory 29: it is that of the rows
  pub passes : fault (holding_tests s (run s h calls)) ≡ none
  -- in the space that was lent
  pub same_space : lent (run s h calls) ≡ lent h
  -- and no call of the run is refused with 24, 13 or 29
  pub blameless : all (λ (r : Reply). not (blames (refusal r))) (replies s h calls) ≡ true

-- from every library that passes 24 and 13, and where it has a directory 29
abbrev pub Soundness : Type 0
Soundness = (s : GridSearch) (h : Holding) → fault (holding_tests s h) ≡ none → (calls : List Call) → Undamaged s h calls

-- which an empty one does on a good sheet, its lists being of one length of at most 65,536, and so those of its directory
abbrev pub Start : Type 0
Start = (s : GridSearch) (h : Holding) → sheet_ok s ≡ true → level (lent h).rows ≡ true → level (lent h).places ≡ true → long_in (lent h) ≡ false → Empty h → fault (holding_tests s h) ≡ none

-- ---- 4. "A library's used rows are exactly its histories' rows"

-- where a row has its mark
unfoldable pub standing : Option Row → Option Position
standing none = none
standing (some r) = some r.at

pub record OfHistories (s : GridSearch) (h : Holding) (calls : List Call) : Type 0 where
  -- the rows are in strict order of key, then id
  pub order : sorted (map slot_of (rows_in (run s h calls))) ≡ true
  -- those of an id are the rows that its history makes of none
  pub of_id : (i : ℕ) → own i (rows_in (run s h calls)) ≡ built s (history i s h calls) []
  -- which is: "each insertion of its history sets the id's row, in every container where module 6 puts the mark, to that insertion's coordinates",
  -- and each striking of it leaves the id no row
  pub of_slot : (p : Slot) → standing (row_for p (rows_in (run s h calls))) ≡ placed s p.key (history p.id s h calls) none
  -- and there are no other rows: they are the only ones in strict order of which that holds
  pub only : (rows : List Row) → sorted (map slot_of rows) ≡ true → ((i : ℕ) → own i rows ≡ built s (history i s h calls) []) → rows ≡ rows_in (run s h calls)

abbrev pub Rows : Type 0
Rows = (s : GridSearch) (h : Holding) → Empty h → (calls : List Call) → OfHistories s h calls

-- ---- 5. "each call's answer is the one that the table and order above give on the histories' rows so far"

pub record Answered (s : GridSearch) (h : Holding) (before : List Call) (c : Call) (after : List Call) : Type 0 where
  -- a call is answered on the library that the calls before it left
  pub in_turn : replies s h (before ++ c ∷ after) ≡ replies s h before ++ (step s (run s h before) c).reply ∷ replies s (run s h (before ++ c ∷ [])) after
  -- and as on every library of that space that passes 24, 13 and 29 and has the histories' rows so far, whatever stands past them
  pub by_rows : (m : Holding) → lent m ≡ lent h → fault (holding_tests s m) ≡ none → ((i : ℕ) → own i (rows_in m) ≡ built s (history i s h before) [])
      → (step s (run s h before) c).reply ≡ (step s m c).reply
  -- where the library that was handed in fails them, every call is refused with their number
  pub turned_away : (n : ℕ) → fault (holding_tests s h) ≡ some n → refusal (step s (run s h before) c).reply ≡ some n

abbrev pub Answers : Type 0
Answers = (s : GridSearch) (h : Holding) → Empty h → (before : List Call) (c : Call) (after : List Call) → Answered s h before c after

-- ---- 6. What near and listed are to the answers of `search` and of a listing

pub record Finding (s : GridSearch) (h : Holding) (x : List Float) : Type 0 where
  -- the id found is near; no near id is computed nearer, and none at the same computed distance is lower
  pub is_near : (j : ℕ) → searching s h x ≡ success (some j) → near s h x j ≡ true
  pub is_nearest : (j : ℕ) → searching s h x ≡ success (some j) → (i : ℕ) → near s h x i ≡ true → le (distance s h x j) (distance s h x i) ≡ true
  pub is_lowest : (j : ℕ) → searching s h x ≡ success (some j) → (i : ℕ) → near s h x i ≡ true → eq (distance s h x i) (distance s h x j) ≡ true → j ≤ i
  -- Nothing, and a refusal, mean that no id is near
  pub nothing_near : searching s h x ≡ success none → (i : ℕ) → near s h x i ≡ false
  pub refused_near : (n : ℕ) → searching s h x ≡ refused n → (i : ℕ) → near s h x i ≡ false

pub record Writing (s : GridSearch) (h : Holding) (p : Asked) (f : Filter) (list : List ℕ) : Type 0 where
  -- a listing writes the ids that are on the place, and counts them
  pub writes : (n : ℕ) → (listing_in s h p f list).answer ≡ success n
      → ((listing_in s h p f list).list ≡ over (ids_in s h p f) list) × (n ≡ length (ids_in s h p f)) × ((i : ℕ) → has i (ids_in s h p f) ≡ on s h p f i)
  -- these ids ascend strictly, and are at most as many as the rows in use
  pub ascend : ascending (ids_in s h p f) ≡ true
  pub no_more : length (ids_in s h p f) ≤ h.library.used
  -- so a list as long as the rows in use is never too short: 14
  pub long_enough : h.library.used ≤ length list → (listing_in s h p f list).answer ≡ refused 14 → ⊥
  -- a refusal that is not about the lent list means that no id is on the place
  pub refused_on : (n : ℕ) → (listing_in s h p f list).answer ≡ refused n → eqb n 14 ≡ false → (i : ℕ) → on s h p f i ≡ false

abbrev pub Meaning : Type 0
Meaning = (s : GridSearch) (h : Holding) → ((x : List Float) → Finding s h x) × ((p : Asked) (f : Filter) (list : List ℕ) → Writing s h p f list)

-- ---- 7. Striking "frees their room for later insertions": what had no room is accepted once it has

-- The insertion of j at x had no room in h; m is what is left of h once i is struck off and n rows have gone.
pub record Freed (s : GridSearch) (h m : Holding) (i n j : ℕ) (x : List Float) : Type 0 where
  -- n rows more are free, in the space that was lent
  pub as_lent : lent m ≡ lent h
  pub more_free : m.library.used + n ≡ h.library.used
  -- where the rows as the insertion would leave them have room now, it is accepted, and answers their number
  pub accepts : roomy_in (lent h) (rows_with s j x (rows_in m)) ≡ true → (step s m (change (insert j x))).reply ≡ counted (success (length (rows_with s j x (rows_in m))))
  -- where they have none, it is refused with 12 again: nothing else turns it away
  pub refuses : roomy_in (lent h) (rows_with s j x (rows_in m)) ≡ false → (step s m (change (insert j x))).reply ≡ counted (refused 12)
  -- those rows are n fewer than in h, for another id: so without a directory it is accepted exactly where at most n rows were wanting
  pub needs_less : eqb j i ≡ false → length (rows_with s j x (rows_in m)) + n ≡ length (rows_with s j x (rows_in h))

-- in any library, empty or not
abbrev pub Freeing : Type 0
Freeing = (s : GridSearch) (h : Holding) (i n j : ℕ) (x : List Float)
    → (step s h (change (strike i))).reply ≡ counted (success n)
    → (step s h (change (insert j x))).reply ≡ counted (refused 12)
    → Freed s h (step s h (change (strike i))).holding i n j x

-- ---- 8. "its number must vanish from the catalogue"

-- the id has no row, is near no position and on no place
pub record Vanished (s : GridSearch) (m : Holding) (i : ℕ) : Type 0 where
  pub no_row : own i (rows_in m) ≡ []
  pub near_nothing : (x : List Float) → near s m x i ≡ false
  pub on_nothing : (p : Asked) (f : Filter) → on s m p f i ≡ false

-- once it is struck off, in any library, empty or not
abbrev pub Vanishing : Type 0
Vanishing = (s : GridSearch) (h : Holding) (i n : ℕ) → (step s h (change (strike i))).reply ≡ counted (success n)
    → Vanished s (step s h (change (strike i))).holding i

-- ---- 9. "Search and listings through the directory must give the same result as without, for every table and matching directory, and the updated directory must equal the one built afresh"

-- a call on the library l with its directory d, and the same call on l alone
pub record Through (s : GridSearch) (l : Library) (d : Directory) (c : Call) : Type 0 where
  -- the same reply; but 12, where the directory of the rows as the call would leave them has no room
  pub reply_is : (step s (indexed l d) c).reply ≡ cond (roomy_places d (rows_in (step s (bare l) c).holding)) (step s (bare l) c).reply (counted (refused 12))
  -- where it has room, the same library is left
  pub library_is : roomy_places d (rows_in (step s (bare l) c).holding) ≡ true → (step s (indexed l d) c).holding.library ≡ (step s (bare l) c).holding.library

-- so of a search and of a listing, which change no row, the very same answer; and a striking is never 12
pub record Plainly (s : GridSearch) (l : Library) (d : Directory) : Type 0 where
  pub searches : (x : List Float) → searching s (indexed l d) x ≡ searching s (bare l) x
  pub lists : (p : Asked) (f : Filter) (list : List ℕ) → listing_in s (indexed l d) p f list ≡ listing_in s (bare l) p f list
  pub strikes : (i : ℕ) → (step s (indexed l d) (change (strike i))).reply ≡ (step s (bare l) (change (strike i))).reply

-- what a change that is accepted leaves as the directory: what a build writes for the new rows, which accepts them
pub record Afresh (s : GridSearch) (l : Library) (d : Directory) (c : Change) : Type 0 where
  pub directory_is : (step s (indexed l d) (change c)).holding.directory ≡ some (building s (step s (indexed l d) (change c)).holding.library d).directory
  pub builds : (building s (step s (indexed l d) (change c)).holding.library d).answer ≡ success (places_used (step s (indexed l d) (change c)).holding.directory)

-- for every directory that matches
abbrev pub SameThrough : Type 0
SameThrough = (s : GridSearch) (l : Library) (d : Directory) → fault (directory_tests s l d) ≡ none → ((c : Call) → Through s l d c) × Plainly s l d

abbrev pub UpToDate : Type 0
UpToDate = (s : GridSearch) (l : Library) (d : Directory) (c : Change) → accepted (step s (indexed l d) (change c)).reply ≡ true → Afresh s l d c
