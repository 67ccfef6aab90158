-- A directory as the code lends it, as the record that all definitions are over.
-- Assumes nothing.
use Rattle.std.specs.Prelude.{◌≡◌}
use Rattle.directory.specs.declared.Directory as shared
use Rattle.directory.specs.declared.DirectoryMut as owned
use Rattle.directory.specs.Directory.{Directory, directory}

-- to be read, and to be changed
abbrev pub kept : shared.Directory → Directory
kept d = directory d.keys.now d.firsts.now d.counts.now d.used

abbrev pub kept_mut : owned.DirectoryMut → Directory
kept_mut d = directory d.keys.now d.firsts.now d.counts.now d.used

-- the three lists are the same memory
abbrev pub SamePlaces : owned.DirectoryMut → owned.DirectoryMut → Type 0
SamePlaces old new =
    (new.keys.ghost_name ≡ old.keys.ghost_name)
    × (new.firsts.ghost_name ≡ old.firsts.ghost_name)
    × (new.counts.ghost_name ≡ old.counts.ghost_name)
