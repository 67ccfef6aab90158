-- A directory as it is lent: three lists and a used count. Its meaning is the list of the entries in use.
-- Assumes nothing.
use Rattle.std.specs.Prelude.{ℕ, Bool, ◌&&◌, List, [], ◌∷◌, map, ltb, length, get_or}
use Rattle.basics.specs.Lists.{any, tab, over}
use Rattle.table.specs.declared.Row.{Row}
use Rattle.table.specs.Library.{level, fits}
use Rattle.directory.specs.declared.Entry.{Entry}
use Rattle.directory.specs.Entries.{entry, key_of, first_of, count_of, directory_of, same_entries}

pub record Directory : Type 0 where
  pub keys : List ℕ
  pub firsts : List ℕ
  pub counts : List ℕ
  pub used : ℕ

abbrev pub directory : List ℕ → List ℕ → List ℕ → ℕ → Directory
directory keys firsts counts used = record { keys = keys; firsts = firsts; counts = counts; used = used }

-- the entry at a place of the lists, and those in use
abbrev pub entry_at : Directory → ℕ → Entry
entry_at d i = entry (get_or d.keys i 0) (get_or d.firsts i 0) (get_or d.counts i 0)

unfoldable pub entries : Directory → List Entry
entries d = tab d.used (entry_at d)

-- zeros in every place
abbrev pub zeros : List ℕ → List ℕ
zeros l = map (λ (n : ℕ). 0) l

-- the directory with these entries in use, and zeros past them to the end of the lists
unfoldable pub file : List Entry → Directory → Directory
unfolding over
file es d = record {
  keys = over (map key_of es) (zeros d.keys);
  firsts = over (map first_of es) (zeros d.firsts);
  counts = over (map count_of es) (zeros d.counts);
  used = length es;
}

-- how many places each list has
abbrev pub places : Directory → List ℕ
places d = length d.keys ∷ length d.firsts ∷ length d.counts ∷ []

-- 24: a list holds more than 65,536 entries
unfoldable pub long_places : Directory → Bool
unfolding any
long_places d = any (λ (n : ℕ). ltb 65536 n) (places d)

-- the directory's part of 13: the lists are of one length, and the used count is not above it
unfoldable pub sound_places : Directory → Bool
unfolding level fits
sound_places d = level (places d) && fits (places d) d.used

-- the used places are the directory of these rows: else 29
unfoldable pub matches : List Row → Directory → Bool
unfolding same_entries entries directory_of
matches rows d = same_entries (entries d) (directory_of rows)

-- there are places enough for the directory of these rows: else 12
unfoldable pub roomy_places : Directory → List Row → Bool
unfolding fits directory_of
roomy_places d rows = fits (places d) (length (directory_of rows))
