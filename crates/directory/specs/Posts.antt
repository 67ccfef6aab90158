-- What the crate's inner functions ask and ensure. Definitions only.
use Rattle.std.specs.Prelude.{ℕ, ◌+◌, ◌≡◌, Bool, false, List, [], ◌∷◌, map, length, take, set}
use Rattle.table.specs.Posts.{Long, cleared}
use Rattle.directory.specs.declared.Entry.{Entry}
use Rattle.directory.specs.Entries.{key_of, first_of, count_of, same_entry}
use Rattle.directory.specs.Directory.{Directory, directory, places}

-- each list has at least n places
abbrev pub PlaceRoom : Directory → ℕ → Type 0
PlaceRoom d n = Long (places d) n

-- an entry is the first of a list
unfoldable pub leads : Entry → List Entry → Bool
unfolding same_entry
leads d [] = false
leads d (e ∷ es) = same_entry d e

-- a list begins with the new entries, and is as long as the old one
pub record Fronted (new old after : List ℕ) : Type 0 where
  pub front : new ≡ take (length new) after
  pub long : length after ≡ length old

-- the entries stand at the front of the lists: what is past them is not told
pub record Written (es : List Entry) (d after : Directory) : Type 0 where
  pub count : after.used ≡ length es
  pub keys : Fronted (map key_of es) d.keys after.keys
  pub firsts : Fronted (map first_of es) d.firsts after.firsts
  pub counts : Fronted (map count_of es) d.counts after.counts

-- an entry is written at a place, or behind those in use
abbrev pub placed : ℕ → Entry → Directory → Directory
placed at e d = directory (set d.keys at e.key) (set d.firsts at e.first) (set d.counts at e.count) d.used

abbrev pub pushed : Entry → Directory → Directory
pushed e d = directory (set d.keys d.used e.key) (set d.firsts d.used e.first) (set d.counts d.used e.count) (d.used + 1)

-- the first n places are in use, and there are zeros past them
abbrev pub cut_off : ℕ → Directory → Directory
cut_off n d = directory (cleared 0 n d.keys) (cleared 0 n d.firsts) (cleared 0 n d.counts) n
