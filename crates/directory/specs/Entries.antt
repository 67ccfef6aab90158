-- What a directory is of rows: for each container in use its key, first row and number of rows. And which places a look-up of a key reads.
-- Assumes nothing.
use Rattle.std.specs.Prelude.{ℕ, zero, suc, ◌+◌, ◌-◌, ◌/◌, Bool, true, false, cond, ◌&&◌, List, [], ◌∷◌, map, ltb, eqb, length, get_or}
use Rattle.std.proofs.Math.Option.{Option, none, some}
use Rattle.table.specs.declared.Row.{Row}
use Rattle.directory.specs.declared.Entry.{Entry}
use Rattle.table.specs.Rows.{key_in}

abbrev pub entry : ℕ → ℕ → ℕ → Entry
entry key first count = record { key = key; first = first; count = count }

-- the fields of an entry
abbrev pub key_of : Entry → ℕ
key_of e = e.key

abbrev pub first_of : Entry → ℕ
first_of e = e.first

abbrev pub count_of : Entry → ℕ
count_of e = e.count

-- Row n, of key k, stands directly before the rows of these entries: it is one more of the first entry's, or has an entry of its own.
unfoldable pub join : ℕ → ℕ → List Entry → List Entry
join n k [] = entry k n 1 ∷ []
join n k (e ∷ es) = cond (eqb e.key k) (entry k n (suc e.count) ∷ es) (entry k n 1 ∷ e ∷ es)

-- the entries of rows with these keys, the first of which is row n: rows of one key that stand side by side have one entry
unfoldable pub entries_from : ℕ → List ℕ → List Entry
unfolding join
entries_from n [] = []
entries_from n (k ∷ ks) = join n k (entries_from (suc n) ks)

-- the directory of rows: of those of a library, which are in order, each container in use has one entry, and keys ascend
unfoldable pub directory_of : List Row → List Entry
unfolding entries_from
directory_of rows = entries_from 0 (map key_in rows)

-- ---- equal lists of entries

unfoldable pub same_entry : Entry → Entry → Bool
same_entry d e = eqb d.key e.key && (eqb d.first e.first && eqb d.count e.count)

unfoldable pub same_entries : List Entry → List Entry → Bool
unfolding same_entry
same_entries [] [] = true
same_entries [] (e ∷ es) = false
same_entries (d ∷ ds) [] = false
same_entries (d ∷ ds) (e ∷ es) = same_entry d e && same_entries ds es

-- ---- the look-up of a key

-- the place found, or none, and how many places were read
pub record Looked : Type 0 where
  pub place : Option ℕ
  pub reads : ℕ

-- One place more was read, and another look follows it.
unfoldable pub one_more : Looked → Looked
one_more l = record { place = l.place; reads = suc l.reads }

-- The look-up among the n places from `at` on that are left, whose keys ascend: the middle one is read, of two the lower; it is the place, or those below
-- it are left where its key is higher, or those above it where its key is lower. `turns` is at least n: each read leaves fewer places.
unfoldable pub look_among : ℕ → ℕ → List ℕ → ℕ → ℕ → Looked
unfolding one_more
look_among zero key keys at n = record { place = none; reads = 0 }
look_among (suc turns) key keys at zero = record { place = none; reads = 0 }
look_among (suc turns) key keys at (suc n) =
    let middle = at + n / 2 in
    let k = get_or keys middle 0 in
    let up = ltb k key in
    let rest = look_among turns key keys (cond up (suc middle) at) (cond up (n - n / 2) (n / 2)) in
    cond (eqb k key) (record { place = some middle; reads = 1 }) (one_more rest)

-- the look-up among all the places in use
unfoldable pub look_up : ℕ → List Entry → Looked
unfolding look_among
look_up key es = look_among (length es) key (map key_of es) 0 (length es)
