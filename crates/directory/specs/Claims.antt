-- What is claimed of a directory. Proofs: proofs/Theorems.antt.
-- Assumes nothing.
use Rattle.std.specs.Prelude.{ℕ, ◌≤◌, ◌<◌, ◌≡◌, Bool, true, not, ◌&&◌, List, map, ltb, eqb, length, get_or}
use Rattle.std.proofs.Math.Option.{some}
use Rattle.basics.specs.Lists.{all, keep, has}
use Rattle.basics.specs.Refusals.{is_none, success}
use Rattle.grid_search.specs.declared.GridSearch.{GridSearch}
use Rattle.sorting.specs.Ascent.{ascending}
use Rattle.table.specs.declared.Row.{Row}
use Rattle.table.specs.Rows.{slot_of, sorted, key_in}
use Rattle.table.specs.Library.{Library, table}
use Rattle.directory.specs.declared.Entry.{Entry}
use Rattle.directory.specs.Entries.{key_of, directory_of, Looked, look_up}
use Rattle.directory.specs.Directory.{Directory, entries}
use Rattle.directory.specs.Calls.{looking_up}

-- ---- 1. "for each container in use its key, first row and number of rows, ascending by key"

-- how many rows have a lower key, and how many have this one
unfoldable pub lower_rows : ℕ → List Row → ℕ
unfolding keep
lower_rows key rows = length (keep (λ (r : Row). ltb (key_in r) key) rows)

unfoldable pub rows_within : ℕ → List Row → ℕ
unfolding keep
rows_within key rows = length (keep (λ (r : Row). eqb (key_in r) key) rows)

-- an entry is right: its first row is the one after all rows of lower keys, and it counts the rows of its key, of which there is one or more
unfoldable pub right : List Row → Entry → Bool
unfolding lower_rows rows_within
right rows e = eqb e.first (lower_rows e.key rows) && (eqb e.count (rows_within e.key rows) && ltb 0 e.count)

-- of rows in order
pub record Listing (rows : List Row) (es : List Entry) : Type 0 where
  -- keys ascend strictly
  pub ascend : ascending (map key_of es) ≡ true
  -- each entry is right
  pub all_right : all (right rows) es ≡ true
  -- and each row's container has one
  pub none_missing : all (λ (r : Row). has (key_in r) (map key_of es)) rows ≡ true

abbrev pub Meant : Type 0
Meant = (rows : List Row) → sorted (map slot_of rows) ≡ true → Listing rows (directory_of rows)

-- ---- 2. A look-up "finds a key's place, or none", and reads at most 17 places

pub record Finding (key : ℕ) (rows : List Row) : Type 0 where
  -- the place found is one in use, and has the key
  pub at_key : (p : ℕ) → (look_up key (directory_of rows)).place ≡ some p → (p < length (directory_of rows)) × (get_or (map key_of (directory_of rows)) p 0 ≡ key)
  -- one is found exactly if a row has the key
  pub exactly : is_none (look_up key (directory_of rows)).place ≡ not (has key (map key_in rows))
  -- as many rows as a library may have take no more than 17 reads
  pub few-reads : length rows ≤ 65536 → (look_up key (directory_of rows)).reads ≤ 17

-- of rows in order, and of any key
abbrev pub LookUps : Type 0
LookUps = (key : ℕ) (rows : List Row) → sorted (map slot_of rows) ≡ true → Finding key rows

-- so of the call, where it is not refused
pub record LookedRight (l : Library) (d : Directory) (key : ℕ) (k : Looked) : Type 0 where
  -- the place found is one in use, and has the key
  pub at_key : (p : ℕ) → k.place ≡ some p → (p < d.used) × (get_or (map key_of (entries d)) p 0 ≡ key)
  -- one is found exactly if a row has the key
  pub exactly : is_none k.place ≡ not (has key (map key_in (table l)))
  -- at most 17 places are read
  pub few-reads : k.reads ≤ 17

abbrev pub LookUpCalls : Type 0
LookUpCalls = (s : GridSearch) (l : Library) (d : Directory) (key : ℕ) (k : Looked) → looking_up s l d key ≡ success k → LookedRight l d key k
