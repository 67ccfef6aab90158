-- What the functions over marks ask and ensure. Definitions only.
use Rattle.std.specs.Prelude.{ℕ, ◌+◌, not, List, [], ◌∷◌, Float}
use Rattle.basics.specs.Refusals.{Test, refuse}
use Rattle.table.specs.Posts.{Long, written}
use Rattle.records.specs.declared.Record.{Record}
use Rattle.mark_lists.specs.MarkLists.{MarkList, mark_list, mark_lengths, too_many, same_lengths}

-- what turns lists away: 24 and 13
unfoldable pub lists_tests : MarkList → List Test
unfolding too_many same_lengths
lists_tests l = refuse 24 (too_many l) ∷ refuse 13 (not (same_lengths l)) ∷ []

-- each list has at least n entries
abbrev pub Room : MarkList → ℕ → Type 0
Room l n = Long (mark_lengths l) n

-- one thing done to each list with the mark's field
abbrev pub each_of : ((A : Type 0) → A → List A → List A) → Record → MarkList → MarkList
each_of F m l = mark_list (F ℕ m.id l.ids) (F Float m.x l.xs) (F Float m.y l.ys) (F Float m.z l.zs) l.used

-- the mark stands behind those in use, and is in use
abbrev pub pushed : Record → MarkList → MarkList
pushed m l = let stored = each_of (written l.used) m l in mark_list stored.ids stored.xs stored.ys stored.zs (l.used + 1)
