-- Calls on a library, with its directory or without one, one after the other. Each is answered by the definition that the contract of its function cites:
-- `insertion`, `striking`, `search_answer`, `listing`,
-- and with a directory the same through it.
-- Assumes nothing.
use Rattle.std.specs.Prelude.{ℕ, Bool, List, [], ◌∷◌, Float}
use Rattle.std.proofs.Math.Option.{Option, none, some}
use Rattle.basics.specs.Refusals.{Answer, refused, success, is_none}
use Rattle.grid_search.specs.declared.GridSearch.{GridSearch}
use Rattle.table.specs.Library.{Library}
use Rattle.rows.specs.Turn.{Turn}
use Rattle.rows.specs.Insert.{insertion}
use Rattle.strike.specs.Strike.{striking}
use Rattle.listing.specs.declared.Filter.{Filter}
use Rattle.listing.specs.Place.{Asked}
use Rattle.basics.specs.Filled.{Filled}
use Rattle.independence.specs.Holdings.{Holding, held_by, searching, listing_in}

-- a call that changes rows, and only rows of one id: an insertion of that id at a position, or its striking
pub data Change : Type 0 where
  insert : ℕ → List Float → Change
  strike : ℕ → Change

-- a call with all that is handed to it: a listing is lent a list to write ids into
pub data Call : Type 0 where
  change : Change → Call
  search : List Float → Call
  list : Asked → Filter → List ℕ → Call

-- what a call gives back: of an insertion, the number of rows in use; of a striking, that of the rows that went; of a listing, what it leaves in the lent list too
pub data Reply : Type 0 where
  counted : Answer ℕ → Reply
  found : Answer (Option ℕ) → Reply
  listed : Filled → Reply

-- ---- one call

-- what was handed in as a call leaves it, and the call's reply
pub record Step : Type 0 where
  pub holding : Holding
  pub reply : Reply

-- what a change answers and leaves, without a directory
unfoldable pub changing : GridSearch → Library → Change → Turn ℕ
unfolding insertion striking
changing s l (insert i x) = insertion s l i x
changing s l (strike i) = striking s l i

unfoldable pub step : GridSearch → Holding → Call → Step
unfolding changing held_by searching listing_in
step s h (change c) = let t = held_by s h.library h.directory (changing s h.library c) in record { holding = t.holding; reply = counted t.answer }
step s h (search x) = record { holding = h; reply = found (searching s h x) }
step s h (list p f lent) = record { holding = h; reply = listed (listing_in s h p f lent) }

-- document 01's number where the call was refused
unfoldable pub refusal_in : {A : Type 0} → Answer A → Option ℕ
refusal_in (refused n) = some n
refusal_in (success a) = none

unfoldable pub refusal : Reply → Option ℕ
unfolding refusal_in
refusal (counted a) = refusal_in a
refusal (found a) = refusal_in a
refusal (listed t) = refusal_in t.answer

unfoldable pub accepted : Reply → Bool
unfolding is_none refusal
accepted r = is_none (refusal r)

-- ---- one call after the other

-- what was handed in after all the calls
unfoldable pub run : GridSearch → Holding → List Call → Holding
unfolding step
run s h [] = h
run s h (c ∷ calls) = run s (step s h c).holding calls

-- the reply of each call
unfoldable pub replies : GridSearch → Holding → List Call → List Reply
unfolding step
replies s h [] = []
replies s h (c ∷ calls) = let t = step s h c in t.reply ∷ replies s t.holding calls
