-- Marks stored one after the other, as the walk along the lines goes.
-- Assumes nothing.
use Prim.Native.Nat.{ℕ, ◌+◌, ◌<◌}
use native.Mathlib.Omega.{arith}
use mathlib.Core.Path.{◌≡◌, sym, ap, subst, ◌∙◌}
use mathlib.Core.Bool.{true}
use mathlib.Core.List.{List, [], ◌∷◌, map}
use lib.ListN.{length, get_or, take, length-map, get_or-map}
use lib.Seq.{take_all, length-take-le}
use Rattle.basics.specs.Lists.{all}
use Rattle.basics.proofs.Lists.{all_at}
use Rattle.table.specs.Posts.{Long}
use Rattle.records.specs.declared.Record.{Record}
use Rattle.lines.specs.Lines.{lines}
use Rattle.mark_lists.specs.MarkLists.{MarkList, mark_list, write_marks, mark_lengths}
use Rattle.mark_lists.specs.Posts.{Room, pushed}
use Rattle.mark_lists.proofs.Laws.{none_written, next-written, lengths-written}
use Rattle.survey_import.specs.Marks.{good_line, mark_of}
use Rattle.survey_import.proofs.Walk.{Walking, walk_start, walk-next, walk_end, line_there, line-is}

-- the marks of the lines passed stand at the lists' start
pub record Storing (text : List ℕ) (l₀ l : MarkList) (left : List (List ℕ)) : Type 0 where
  pub walk : Walking text left l.used
  pub stored : l ≡ write_marks (take l.used (map mark_of (lines text))) l₀

pub storing-start : (text : List ℕ) (l : MarkList) → Storing text l (mark_list l.ids l.xs l.ys l.zs 0) (lines text)
storing-start text l = record { walk = walk_start text; stored = none_written l }

module _ {text : List ℕ} {l₀ l : MarkList} {left : List (List ℕ)} (s : Storing text l₀ l left) (room : Room l₀ (length (lines text))) where
  abbrev marks : List Record
  marks = map mark_of (lines text)

  length-marks : length marks ≡ length (lines text)
  length-marks = length-map (lines text) mark_of

  lengths_kept : mark_lengths l ≡ mark_lengths l₀
  lengths_kept =
      let n : length (take l.used marks) ≡ l.used = length-take-le l.used marks (omega (arith, length-marks, s.walk.counted)) in
      ap mark_lengths s.stored ∙ lengths-written (take l.used marks) l₀ (rw n (omega (arith, s.walk.counted)))

  module _ {line : List ℕ} {rest : List (List ℕ)} (is : left ≡ line ∷ rest) where
    there : l.used < length (lines text)
    there = line_there s.walk is

    pub mark_room : Room l (l.used + 1)
    mark_room = subst (λ (ns : List ℕ). Long ns (l.used + 1)) (sym lengths_kept) (omega (arith, there))

    pub line-good : all good_line (lines text) ≡ true → good_line line ≡ true
    line-good e = sym (ap good_line (line-is s.walk is)) ∙ all_at good_line (lines text) l.used [] there e

    pub storing-next : {m : Record} {after : MarkList} → m ≡ mark_of line → after ≡ pushed m l → Storing text l₀ after rest
    storing-next {m} {after} e a =
        let same : m ≡ get_or marks l.used (mark_of []) = e ∙ sym (ap mark_of (line-is s.walk is)) ∙ sym (get_or-map mark_of (lines text) l.used []) in
        let used : after.used ≡ l.used + 1 = ap (λ (p : MarkList). p.used) a in
        record {
          walk = rw used (walk-next s.walk is);
          stored =
              a
              ∙ ap (λ (k : Record). pushed k l) same
              ∙ ap (pushed (get_or marks l.used (mark_of []))) s.stored
              ∙ next-written marks (mark_of []) l₀ l.used (omega (arith, there, length-marks)) (omega (arith, there))
              ∙ ap (λ (n : ℕ). write_marks (take n marks) l₀) (sym used);
        }

  pub storing_end : left ≡ [] → l ≡ write_marks marks l₀
  storing_end h = s.stored ∙ ap (λ (ms : List Record). write_marks ms l₀) (take_all l.used marks (omega (arith, length-marks, walk_end s.walk h)))
