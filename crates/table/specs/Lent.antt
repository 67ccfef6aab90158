-- A library as the code lends it, as the record that all definitions are over.
-- Assumes nothing.
use Rattle.std.specs.Prelude.{◌≡◌}
use Rattle.table.specs.declared.Library as shared
use Rattle.table.specs.declared.LibraryMut as owned
use Rattle.table.specs.Library.{Library, library}

-- to be read, and to be changed
abbrev pub lent : shared.Library → Library
lent l = library l.keys.now l.ids.now l.xs.now l.ys.now l.zs.now l.used

abbrev pub lent_mut : owned.LibraryMut → Library
lent_mut l = library l.keys.now l.ids.now l.xs.now l.ys.now l.zs.now l.used

-- the five lists are the same memory
abbrev pub SameLists : owned.LibraryMut → owned.LibraryMut → Type 0
SameLists old new =
    (new.keys.ghost_name ≡ old.keys.ghost_name)
    × (new.ids.ghost_name ≡ old.ids.ghost_name)
    × (new.xs.ghost_name ≡ old.xs.ghost_name)
    × (new.ys.ghost_name ≡ old.ys.ghost_name)
    × (new.zs.ghost_name ≡ old.zs.ghost_name)
