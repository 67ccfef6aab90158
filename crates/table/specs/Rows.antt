-- The rows of the table, their order, and what a store, a look-up and a search are to give.
-- Assumes nothing.
use Rattle.std.specs.Prelude.{ℕ, suc, Bool, true, false, not, ◌&&◌, ◌||◌, cond, List, [], ◌∷◌, get_or, ltb, eqb, Float}
use Rattle.std.proofs.Math.Option.{Option, none, some}
use Rattle.basics.specs.Lists.{tab, keep}
use Rattle.geometry.specs.declared.Position.{Position}
use Rattle.table.specs.declared.Row.{Row}

-- ---- slots: what the rows are ordered by

pub record Slot : Type 0 where
  pub key : ℕ
  pub id : ℕ

abbrev pub slotted : ℕ → ℕ → Slot
slotted key id = record { key = key; id = id }

abbrev pub slot_of : Row → Slot
slot_of r = record { key = r.key.0; id = r.id.0 }

-- by key, then by id
unfoldable pub before : Slot → Slot → Bool
before p q = ltb p.key q.key || (eqb p.key q.key && ltb p.id q.id)

unfoldable pub same : Slot → Slot → Bool
same p q = eqb p.key q.key && eqb p.id q.id

-- p stands before the first of the list, and each of the list before the next
unfoldable pub chain : Slot → List Slot → Bool
chain p [] = true
chain p (q ∷ qs) = before p q && chain q qs

-- in strict order
unfoldable pub sorted : List Slot → Bool
unfolding chain
sorted [] = true
sorted (p ∷ ps) = chain p ps

-- how many slots from the front stand before p
unfoldable pub lower : Slot → List Slot → ℕ
lower p [] = 0
lower p (q ∷ qs) = cond (before q p) (suc (lower p qs)) 0

-- whether p itself is there
unfoldable pub held : Slot → List Slot → Bool
held p [] = false
held p (q ∷ qs) = cond (before q p) (held p qs) (same q p)

-- how many of the keys from the front are lower: where the rows of a container begin
unfoldable pub lead : ℕ → List ℕ → ℕ
lead key [] = 0
lead key (k ∷ ks) = cond (ltb k key) (suc (lead key ks)) 0

-- how many of the keys from the front are this one: how many rows a container has from its first on
unfoldable pub run : ℕ → List ℕ → ℕ
run key [] = 0
run key (k ∷ ks) = let rest = run key ks in cond (eqb k key) (suc rest) 0

-- the slot at an index of two lists, and the first n of them
abbrev pub slot_at : List ℕ → List ℕ → ℕ → Slot
slot_at keys ids i = record { key = get_or keys i 0; id = get_or ids i 0 }

unfoldable pub slots_of : List ℕ → List ℕ → ℕ → List Slot
slots_of keys ids n = tab n (slot_at keys ids)

-- ---- rows

abbrev pub row_of : ℕ → ℕ → Float → Float → Float → Row
row_of key id x y z = record { key = record { 0 = key }; id = record { 0 = id }; at = record { x = x; y = y; z = z } }

-- the fields of a row
abbrev pub key_in : Row → ℕ
key_in r = r.key.0

abbrev pub id_in : Row → ℕ
id_in r = r.id.0

abbrev pub x_in : Row → Float
x_in r = r.at.x

abbrev pub y_in : Row → Float
y_in r = r.at.y

abbrev pub z_in : Row → Float
z_in r = r.at.z

-- the row of r's slot is replaced by r, or r is put in before the first that stands after it
unfoldable pub put_row : Row → List Row → List Row
put_row r [] = r ∷ []
put_row r (s ∷ rest) =
    cond (before (slot_of s) (slot_of r)) (s ∷ put_row r rest)
    (cond (same (slot_of s) (slot_of r)) (r ∷ rest) (r ∷ s ∷ rest))

-- a mark's row in the container of a key
abbrev pub row_in : ℕ → Position → ℕ → Row
row_in i p k = record { key = record { 0 = k }; id = record { 0 = i }; at = p }

-- a mark's row in each of several containers, one after the other
unfoldable pub put_in : ℕ → Position → List ℕ → List Row → List Row
unfolding put_row
put_in i p [] rows = rows
put_in i p (k ∷ ks) rows = put_in i p ks (put_row (row_in i p k) rows)

-- the rows of one id
unfoldable pub own : ℕ → List Row → List Row
unfolding keep
own i rows = keep (λ (r : Row). eqb (id_in r) i) rows

-- the rows of other ids, in their order
unfoldable pub without : ℕ → List Row → List Row
unfolding keep
without i rows = keep (λ (r : Row). not (eqb (id_in r) i)) rows

-- the row of a slot, if there is one
unfoldable pub row_for : Slot → List Row → Option Row
row_for p [] = none
row_for p (r ∷ rest) = cond (same (slot_of r) p) (some r) (row_for p rest)
