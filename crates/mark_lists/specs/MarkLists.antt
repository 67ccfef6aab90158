-- Marks in lent lists: four lists and a used count. Their meaning is the list of the marks in use; entries past the count are of any content.
-- Assumes nothing.
use Rattle.std.specs.Prelude.{ℕ, Bool, List, [], ◌∷◌, map, ltb, length, get_or, Float}
use Rattle.std.specs.Float.{nan}
use Rattle.basics.specs.Lists.{any, tab, over}
use Rattle.table.specs.Library.{level, fits}
use Rattle.records.specs.declared.Record.{Record}

pub record MarkList : Type 0 where
  pub ids : List ℕ
  pub xs : List Float
  pub ys : List Float
  pub zs : List Float
  pub used : ℕ

abbrev pub mark_list : List ℕ → List Float → List Float → List Float → ℕ → MarkList
mark_list ids xs ys zs used = record { ids = ids; xs = xs; ys = ys; zs = zs; used = used }

-- the mark at an index of the lists
abbrev pub mark_at : MarkList → ℕ → Record
mark_at l i = record { id = get_or l.ids i 0; x = get_or l.xs i nan; y = get_or l.ys i nan; z = get_or l.zs i nan }

-- the marks in use
unfoldable pub marks_in : MarkList → List Record
marks_in l = tab l.used (mark_at l)

-- the lists with these marks in use: what stands past them stays
unfoldable pub write_marks : List Record → MarkList → MarkList
unfolding over
write_marks marks l = record {
  ids = over (map (λ (m : Record). m.id) marks) l.ids;
  xs = over (map (λ (m : Record). m.x) marks) l.xs;
  ys = over (map (λ (m : Record). m.y) marks) l.ys;
  zs = over (map (λ (m : Record). m.z) marks) l.zs;
  used = length marks;
}

-- how many entries each list has
abbrev pub mark_lengths : MarkList → List ℕ
mark_lengths l = length l.ids ∷ length l.xs ∷ length l.ys ∷ length l.zs ∷ []

-- 24: a list holds more than 65,536 entries, used or not (marks count as rows)
unfoldable pub too_many : MarkList → Bool
unfolding any
too_many l = any (λ (n : ℕ). ltb 65536 n) (mark_lengths l)

-- the lists are of one length; where they are not, that is 13
unfoldable pub same_lengths : MarkList → Bool
unfolding level
same_lengths l = level (mark_lengths l)

-- that many marks have room
unfoldable pub holds : MarkList → ℕ → Bool
unfolding fits
holds l n = fits (mark_lengths l) n
