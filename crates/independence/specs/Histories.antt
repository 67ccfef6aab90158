-- An id's history, and the rows that a history makes.
-- Assumes nothing.
use Rattle.std.specs.Prelude.{ℕ, Bool, true, cond, not, ◌&&◌, List, [], ◌∷◌, eqb}
use Rattle.std.proofs.Math.Option.{Option, none, some}
use Rattle.basics.specs.Lists.{all, has}
use Rattle.geometry.specs.declared.Position.{Position}
use Rattle.geometry.specs.Position.{position_of}
use Rattle.grid_search.specs.declared.GridSearch.{GridSearch}
use Rattle.table.specs.declared.Row.{Row}
use Rattle.table.specs.Rows.{without}
use Rattle.rows.specs.Insert.{targets, rows_with}
use Rattle.independence.specs.Holdings.{Holding}
use Rattle.independence.specs.Run.{Change, insert, strike, Call, change, search, list, step, accepted}

-- the id whose rows a change is about
unfoldable pub whose : Change → ℕ
whose (insert i x) = i
whose (strike i) = i

-- An id's history is its accepted insertions and strikings in order.
unfoldable pub history : ℕ → GridSearch → Holding → List Call → List Change
unfolding whose step accepted
history i s h [] = []
history i s h (change c ∷ calls) =
    let t = step s h (change c) in
    let rest = history i s t.holding calls in
    cond (eqb (whose c) i && accepted t.reply) (c ∷ rest) rest
history i s h (search x ∷ calls) = history i s h calls
history i s h (list p f lent ∷ calls) = history i s h calls

-- the calls are of other ids, or change nothing
unfoldable pub other : ℕ → Call → Bool
unfolding whose
other i (change c) = not (eqb (whose c) i)
other i (search x) = true
other i (list p f lent) = true

unfoldable pub others : ℕ → List Call → Bool
unfolding all other
others i calls = all (other i) calls

-- ---- the rows of a history

-- the rows after a change that is accepted: module 6, and a striking leaves the id no row
unfoldable pub effect : GridSearch → Change → List Row → List Row
unfolding rows_with without
effect s (insert i x) rows = rows_with s i x rows
effect s (strike i) rows = without i rows

-- the rows after these changes, one after the other
unfoldable pub built : GridSearch → List Change → List Row → List Row
unfolding effect
built s [] rows = rows
built s (c ∷ changes) rows = built s changes (effect s c rows)

-- The same container by container: "each insertion of its history sets the id's row, in every container where module 6 puts the mark, to that insertion's coordinates".
-- A striking sets it to none.
-- Where the id stands in the container of a key after a change of it, and before that change:
unfoldable pub placing : GridSearch → ℕ → Change → Option Position → Option Position
unfolding has targets
placing s key (insert i x) at = cond (has key (targets s x)) (some (position_of x)) at
placing s key (strike i) at = none

unfoldable pub placed : GridSearch → ℕ → List Change → Option Position → Option Position
unfolding placing
placed s key [] at = at
placed s key (c ∷ changes) at = placed s key changes (placing s key c at)
