-- The lists of an index as the code lends them, as the record that all definitions are over.
-- Assumes nothing.
use Rattle.std.specs.Prelude.{◌≡◌}
use Rattle.grid_cells.specs.declared.lists.IndexLists as shared
use Rattle.grid_cells.specs.declared.lists.IndexListsMut as owned
use Rattle.grid_cells.specs.Build.{IndexLists, index_lists}

-- to be read, and to be changed
abbrev pub lent : shared.IndexLists → IndexLists
lent l = index_lists l.keys.now l.cells.now l.large.now

abbrev pub lent_mut : owned.IndexListsMut → IndexLists
lent_mut l = index_lists l.keys.now l.cells.now l.large.now

-- the three lists are the same memory
abbrev pub SameLists : owned.IndexListsMut → owned.IndexListsMut → Type 0
SameLists old new = (new.keys.ghost_name ≡ old.keys.ghost_name) × (new.cells.ghost_name ≡ old.cells.ghost_name) × (new.large.ghost_name ≡ old.large.ghost_name)
