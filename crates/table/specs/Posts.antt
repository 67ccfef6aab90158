-- What the functions over the rows ask and ensure. Definitions only.
use Rattle.std.specs.Prelude.{ℕ, zero, suc, ◌≤◌, ◌≡◌, true, false, List, [], ◌∷◌, map, length, set, Float, Result, Ok, Err}
use Rattle.floats.specs.Rounded.{zero_f}
use Rattle.geometry.specs.declared.Position.{Position}
use Rattle.table.specs.declared.Row.{Row}
use Rattle.table.specs.Rows.{Slot, slot_of, sorted, slots_of, lower, held, key_in, id_in, x_in, y_in, z_in, put_in}
use Rattle.table.specs.Library.{Library, library, table, write, lengths}

-- ---- keys with ids

-- the first `used` entries of two lists are slots in strict order
pub record Ordered (keys ids : List ℕ) (used : ℕ) : Type 0 where
  pub in_keys : used ≤ length keys
  pub in_ids : used ≤ length ids
  pub order : sorted (slots_of keys ids used) ≡ true

-- p is in the list of slots, at that index, or would stand at that index
abbrev pub Finds : Slot → List Slot → Result ℕ ℕ → Type 0
Finds p slots (Ok at) = (at ≡ lower p slots) × (held p slots ≡ true)
Finds p slots (Err at) = (at ≡ lower p slots) × (held p slots ≡ false)

-- n is the number of rows once a mark of this id is in each of the containers, whatever the rows of these slots hold and wherever the mark stands
abbrev pub CountAfter : List Slot → ℕ → List ℕ → ℕ → Type 0
CountAfter slots i ks n = (p : Position) (rows : List Row) → map slot_of rows ≡ slots → n ≡ length (put_in i p ks rows)

-- ---- one list: l with v at index `at`, and its elements from there up to index n moved up by one: what stood at n is gone

unfoldable pub opened : {A : Type 0} → ℕ → ℕ → A → List A → List A
opened at n v [] = []
opened zero zero v (x ∷ l) = v ∷ l
opened zero (suc n) v (x ∷ l) = v ∷ opened zero n x l
opened (suc at) zero v (x ∷ l) = x ∷ l
opened (suc at) (suc n) v (x ∷ l) = x ∷ opened at n v l

-- the same list with v from an index to its end

unfoldable pub cleared : {A : Type 0} → A → ℕ → List A → List A
cleared v n [] = []
cleared v zero (x ∷ l) = v ∷ cleared v zero l
cleared v (suc n) (x ∷ l) = x ∷ cleared v n l

-- ---- a library

-- each list has at least n entries
abbrev pub Long : List ℕ → ℕ → Type 0
Long [] n = Unit {0}
Long (m ∷ ms) n = (n ≤ m) × Long ms n

abbrev pub Room : Library → ℕ → Type 0
Room l n = Long (lengths l) n

-- the lists hold the rows in use, and these are in strict order
pub record InOrder (l : Library) : Type 0 where
  pub room : Room l l.used
  pub order : sorted (map slot_of (table l)) ≡ true

-- and there is room for the rows that f makes of them
pub record Takes (f : List Row → List Row) (l : Library) : Type 0 where
  pub rows : InOrder l
  pub room : Room l (length (f (table l)))

-- f makes the rows in use after a call of those before it; what stands past them is as it was
abbrev pub Becomes : (List Row → List Row) → Library → Library → Type 0
Becomes f l after = after ≡ write (f (table l)) l

-- one thing done to each list with the row's field
abbrev pub each_of : ((A : Type 0) → A → List A → List A) → Row → Library → Library
each_of F row l = library (F ℕ (key_in row) l.keys) (F ℕ (id_in row) l.ids) (F Float (x_in row) l.xs) (F Float (y_in row) l.ys) (F Float (z_in row) l.zs) l.used

-- the field is written at an index; the field is put in there, and those from there up to n move up
abbrev pub written : ℕ → (A : Type 0) → A → List A → List A
written at A v l = set l at v

abbrev pub between : ℕ → ℕ → (A : Type 0) → A → List A → List A
between at n A v l = opened at n v l

-- the library with another count
abbrev pub counted : ℕ → Library → Library
counted n l = library l.keys l.ids l.xs l.ys l.zs n

-- 0 or +0 in every entry from an index to the end
abbrev pub cleared_from : ℕ → Library → Library
cleared_from n l = library (cleared 0 n l.keys) (cleared 0 n l.ids) (cleared zero_f n l.xs) (cleared zero_f n l.ys) (cleared zero_f n l.zs) l.used
