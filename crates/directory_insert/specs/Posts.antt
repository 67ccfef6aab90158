-- What the crate's inner functions ask and ensure. Definitions only.
use Rattle.std.specs.Prelude.{ℕ, zero, suc, ◌+◌, ◌^◌, ◌≤◌, ◌<◌, ◌≡◌, Bool, true, false, cond, List, [], ◌∷◌, map, ltb, eqb, length, take, get_or, Result, Ok, Err}
use Rattle.std.specs.List.Sorted.{IsNonDecreasing}
use Rattle.basics.specs.Lists.{over}
use Rattle.basics.specs.Refusals.{success}
use Rattle.geometry.specs.declared.Position.{Position}
use Rattle.table.specs.declared.Row.{Row}
use Rattle.table.specs.Rows.{slot_of, sorted, lead, put_in}
use Rattle.table.specs.Library.{Library, table, write}
use Rattle.table.specs.Posts.{Takes, Becomes}
use Rattle.directory.specs.declared.Entry.{Entry}
use Rattle.directory.specs.Entries.{entry, key_of, first_of, count_of, directory_of}
use Rattle.directory.specs.Directory.{Directory, entries, sound_places}
use Rattle.directory.specs.Calls.{Filed, filed_by}
use Rattle.directory.specs.Posts.{PlaceRoom}

-- ---- one more row in a directory

-- a container's rows begin one later
abbrev pub later : Entry → Entry
later e = entry e.key (suc e.first) e.count

-- One more row of a key, where there are n rows: its container has one more, or one is opened in the order of keys, and its rows begin where those of the next begin,
-- or after all. The rows of the containers after it begin one later.
unfoldable pub entered : ℕ → ℕ → List Entry → List Entry
entered key n [] = entry key n 1 ∷ []
entered key n (e ∷ es) =
    let rest = entered key n es in
    cond (ltb e.key key) (e ∷ rest)
    (cond (eqb e.key key) (entry key e.first (suc e.count) ∷ map later es) (entry key e.first 1 ∷ map later (e ∷ es)))

-- whether the first key that is not lower is this one
unfoldable pub found : ℕ → List ℕ → Bool
found key [] = false
found key (k ∷ ks) = let rest = found key ks in cond (ltb k key) rest (eqb k key)

-- the place of a key, or where it would stand
abbrev pub FindsPlace : ℕ → List ℕ → Result ℕ ℕ → Type 0
FindsPlace key keys (Ok at) = (at ≡ lead key keys) × (found key keys ≡ true)
FindsPlace key keys (Err at) = (at ≡ lead key keys) × (found key keys ≡ false)

-- n is how many places are in use once a mark is in each of the containers, for any rows in order whose directory has these keys
abbrev pub PlacesAfter : List ℕ → List ℕ → ℕ → Type 0
PlacesAfter keys ks n = (i : ℕ) (p : Position) (rows : List Row) → sorted (map slot_of rows) ≡ true → map key_of (directory_of rows) ≡ keys → n ≡ length (directory_of (put_in i p ks rows))

-- ---- the lists of a directory

-- the entries of a list from an index up to n, each one more
unfoldable pub stepped : ℕ → ℕ → List ℕ → List ℕ
stepped from n [] = []
stepped zero zero (x ∷ l) = x ∷ l
stepped zero (suc n) (x ∷ l) = suc x ∷ stepped zero n l
stepped (suc from) zero (x ∷ l) = x ∷ l
stepped (suc from) (suc n) (x ∷ l) = x ∷ stepped from n l

-- the directory with these entries in use: what stands past them stays
unfoldable pub write_places : List Entry → Directory → Directory
unfolding over
write_places es d = record {
  keys = over (map key_of es) d.keys;
  firsts = over (map first_of es) d.firsts;
  counts = over (map count_of es) d.counts;
  used = length es;
}

-- the places in use are of n rows, keys do not descend, and there is room for one more row of a key
pub record Enters (key n : ℕ) (d : Directory) : Type 0 where
  pub rising : IsNonDecreasing (take d.used d.keys)
  pub room : PlaceRoom d d.used
  pub enough : PlaceRoom d (length (entered key n (entries d)))
  pub few : n + 1 < 2 ^ 64
  pub small : (i : ℕ) → i < d.used → (get_or d.firsts i 0 ≤ n) × (get_or d.counts i 0 ≤ n)

-- ---- a library and its directory

-- the library takes what f makes of its rows, and the directory is that of its rows
pub record TakesBoth (f : List Row → List Row) (l : Library) (d : Directory) : Type 0 where
  pub rows : Takes f l
  pub layout : sound_places d ≡ true
  pub matching : entries d ≡ directory_of (table l)

-- and has room for that of the rows that f makes
pub record TakesAll (f : List Row → List Row) (l : Library) (d : Directory) : Type 0 where
  pub both : TakesBoth f l d
  pub room : PlaceRoom d (length (directory_of (f (table l))))

-- f makes the rows in use after a call of those before it, and the directory is that of the rows; what stands past them is as it was
pub record BecomesBoth (f : List Row → List Row) (l : Library) (d : Directory) (after : Library) (dir-after : Directory) : Type 0 where
  pub rows : Becomes f l after
  pub places-are : dir-after ≡ write_places (directory_of (f (table l))) d

-- what f makes of the rows is stored, and the directory is that of the rows with zeros past it; or 12, where it has too few places
abbrev pub storing : (List Row → List Row) → Library → Directory → Filed ℕ
storing f l d = filed_by l d (success (length (f (table l)))) (write (f (table l)) l)
