-- The walk over the rows: the tests of a row as the code makes them, a turn of the walk, its end, and what it then tells.
-- Assumes nothing.
use Prim.Native.Nat.{ℕ, zero, suc, ◌+◌, ◌%◌, ◌^◌, ◌≤◌, ◌<◌}
use native.Mathlib.Numerals.{add-one}
use native.Mathlib.Omega.{arith}
use mathlib.Core.Path.{◌≡◌, refl, sym, ap, ◌∙◌}
use mathlib.Core.Bool.{Bool, true, false, cond, ◌&&◌, and-false, and_comm, or-false}
use mathlib.Core.List.{List, [], ◌∷◌}
use mathlib.Core.Option.{Option, none, some}
use lib.Dec.{ltb, leb, leb-zero, leb-suc-suc}
use lib.ListN.{length, drop, drop_of_length-le}
use lib.Ieee.{Float}
use mir.Val.{bool_byte}
use borrow.Author.Tests.{ltb-true}
use Rattle.basics.specs.Refusals.{Answer, success}
use Rattle.basics.proofs.Bools.{by_test, and_left, and_right}
use Rattle.basics.proofs.Lists.{drop-tab}
use Rattle.basics.proofs.Numbers.{at_most}
use Rattle.table.specs.declared.Row.{Row}
use Rattle.table.specs.Rows.{Slot, slotted, slot_of, before}
use Rattle.table.specs.Library.{Library, row_at, rows_of, table}
use Rattle.table.proofs.Libraries.{length-table}
use Rattle.rows.specs.Check.{above, Walk, walk_from, walk}
use Rattle.rows.specs.Posts.{third, good_parts, good_in, slot_before}

-- ---- a row and the one before it

-- the key raised by one where the id is higher tells whether a slot stands above the one before it
pub told-above : (bound last key id : ℕ) → key < 2 ^ 32 → leb bound (key % 2 ^ 32 + bool_byte (ltb last id)) ≡ above (slot_before bound last) (slotted key id)
unfolding above before
told-above zero last key id h = leb-zero (key % 2 ^ 32 + bool_byte (ltb last id))
told-above (suc k) last key id h =
    by_test (ltb last id)
    (λ t. let f : key % 2 ^ 32 + bool_byte (ltb last id) ≡ suc key = rw t (omega arith) in rw (f, t, leb-suc-suc) (sym (at_most k key)))
    (λ t. let f : key % 2 ^ 32 + bool_byte (ltb last id) ≡ key = rw t (omega arith) in rw (f, t, and-false, or-false))

-- the tests of a row in the code's order: what is told of its place is right where its key is low enough
pub in_order : (t k a x y : Bool) {r : Bool} → (k ≡ true → r ≡ a) → (t && (k && (r && (x && y)))) ≡ ((t && (k && (x && y))) && a)
in_order false k a x y h = refl
in_order true false a x y h = refl
in_order true true a x y h = rw (h refl) (and_comm a (x && y))

-- the key of a row that passes is low enough
pub low-key : (n count key : ℕ) (x y z : Float) (a : Bool) → (good_parts n count key x y z && a) ≡ true → key < count
low-key n count key x y z a e = ltb-true key count (and_left (ltb key count) _ (and_right (third n z) _ (and_left (good_parts n count key x y z) a e)))

-- the slot of a row before, as the code keeps it
pub kept : (key id : ℕ) → slot_before (key + 1) id ≡ some (slotted key id)
kept key id = rw add-one

-- ---- the walk

module _ (good : Row → Bool) (l : Library) (i : ℕ) (p : Option Slot) (walks : walk good (table l) ≡ walk_from good i p (drop i (table l))) where
  abbrev passes : Bool
  passes = good (row_at l i) && above p (slot_of (row_at l i))

  turn : i < l.used → walk good (table l) ≡ cond passes (walk_from good (i + 1) (some (slot_of (row_at l i))) (drop (i + 1) (table l))) (record { bad = some i; visited = i + 1 })
  unfolding walk_from table rows_of
  turn h = walks ∙ rw (add-one, drop-tab l.used (row_at l) i h)

  -- row i is the lowest bad one
  pub stops : i < l.used → passes ≡ false → record { bad = some i; visited = i + 1 } ≡ walk good (table l)
  stops h e = sym (turn h ∙ rw e)

  -- it is not bad
  pub goes_on : i < l.used → passes ≡ true → walk good (table l) ≡ walk_from good (i + 1) (some (slot_of (row_at l i))) (drop (i + 1) (table l))
  goes_on h e = turn h ∙ rw e

  -- there is none
  pub ends : l.used ≤ i → record { bad = none; visited = i } ≡ walk good (table l)
  unfolding walk_from
  ends h = let e : length (table l) ≤ i = omega (arith, length-table l) in sym (walks ∙ rw (drop_of_length-le (table l) e))

-- two tests that agree on every row tell the same
from-same : (p q : Row → Bool) → ((r : Row) → p r ≡ q r) → (n : ℕ) (o : Option Slot) (rows : List Row) → walk_from p n o rows ≡ walk_from q n o rows
unfolding walk_from
from-same p q h n o [] = refl
from-same p q h n o (r ∷ rows) = rw (h r, from-same p q h (suc n) (some (slot_of r)) rows)

pub walk_same : (p q : Row → Bool) → ((r : Row) → p r ≡ q r) → (rows : List Row) → walk p rows ≡ walk q rows
unfolding walk
walk_same p q h rows = from-same p q h 0 none rows

-- a walk of so many axes, by their number
pub on-axes : (count : ℕ) (rows : List Row) {n m : ℕ} {r : Answer Walk} → n ≡ m → r ≡ success (walk (good_in m count) rows) → r ≡ success (walk (good_in n count) rows)
on-axes count rows e w = w ∙ sym (ap (λ (k : ℕ). success (walk (good_in k count) rows)) e)
