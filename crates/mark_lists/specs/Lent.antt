-- Marks as the code lends them, as the record that all definitions are over.
-- Assumes nothing.
use Rattle.std.specs.Prelude.{◌≡◌}
use Rattle.mark_lists.specs.declared.MarkLists as shared
use Rattle.mark_lists.specs.declared.MarkListsMut as owned
use Rattle.mark_lists.specs.MarkLists.{MarkList, mark_list}

-- to be read, and to be changed
abbrev pub lent : shared.MarkLists → MarkList
lent l = mark_list l.ids.now l.xs.now l.ys.now l.zs.now l.used

abbrev pub lent_mut : owned.MarkListsMut → MarkList
lent_mut l = mark_list l.ids.now l.xs.now l.ys.now l.zs.now l.used

-- the four lists are the same memory
abbrev pub SameLists : owned.MarkListsMut → owned.MarkListsMut → Type 0
SameLists old new =
    (new.ids.ghost_name ≡ old.ids.ghost_name)
    × (new.xs.ghost_name ≡ old.xs.ghost_name)
    × (new.ys.ghost_name ≡ old.ys.ghost_name)
    × (new.zs.ghost_name ≡ old.zs.ghost_name)
