-- The walk over the marks: what is known of the first i of them, a turn that finds a bad one, a turn that puts a line, and the end.
-- Assumes nothing.
use Prim.Native.Nat.{ℕ, ◌+◌, ◌*◌, ◌^◌, ◌≤◌, ◌<◌}
use native.Mathlib.Omega.{arith}
use mathlib.Core.Path.{◌≡◌, refl, sym, ap, ◌∙◌}
use mathlib.Core.Bool.{false}
use lib.ListN.{length, get_or, take, drop}
use lib.Seq.{take_all}
use Rattle.std.specs.Prelude.{Option, Some, None, Result, Ok, Err, IsErr, IsErrAnd}
use Rattle.std.specs.Option.{ok_or}
use Rattle.std.proofs.lemmas.List.{take_more}
use Rattle.basics.specs.Lists.{all}
use Rattle.basics.specs.declared.Refusal.{Refusal}
use Rattle.basics.specs.declared.Refusal.TheVariants.{NoDecimal}
use Rattle.basics.proofs.Walks.{all_stop, all-next, all_end}
use Rattle.records.specs.declared.Record.{Record}
use Rattle.text.specs.declared.Writer.{Writer}
use Rattle.text.specs.Writers.{Puts}
use Rattle.text.proofs.Laws.{puts_nothing, puts_both}
use Rattle.mark_lists.specs.MarkLists.{MarkList, mark_at, marks_in}
use Rattle.mark_lists.proofs.Laws.{length-marks, mark_in_lem}
use Rattle.survey_export.specs.declared.Decimals.{Decimals}
use Rattle.survey_export.specs.Export.{line_text, good_mark, text_of}
use Rattle.survey_export.specs.Posts.{Stands, PutsMarks}
use Rattle.survey_export.specs.Told.{Told, Tells}
use Rattle.survey_export.proofs.Laws.{line-is, line-most, longest, text_more}

-- ---- what was told of a mark, as `?` hands it on

pub told-ok : (m : Record) (r : Option Decimals) {d : Decimals} → Tells m r → Ok d ≡ ok_or r NoDecimal → Told m d
told-ok m (Some c) {d} t e = let same : d ≡ c = cc in rw same t
told-ok m None {d} t e = absurd (cc)

pub told-err : (m : Record) (r : Option Decimals) {e : Refusal} → Tells m r → Err e ≡ ok_or r NoDecimal → (good_mark m ≡ false) × (e ≡ NoDecimal)
told-err m (Some c) {e = f} t e = absurd (cc)
told-err m None {e = f} t e = (t, cc)

-- ---- the walk

-- the first i marks are good, and their text was put
pub record Sofar (l : MarkList) (old now : Writer) (i : ℕ) : Type 0 where
  pub judged : all good_mark (marks_in l) ≡ all good_mark (drop i (marks_in l))
  pub put : Puts (text_of (take i (marks_in l))) old now
  pub short : now.at ≤ longest * i

pub sofar_none : (l : MarkList) (w : Writer) → w.at ≡ 0 → Sofar l w w 0
unfolding text_of
sofar_none l w e = record { judged = refl; put = puts_nothing w; short = omega arith }

module _ {l : MarkList} {old now : Writer} {i : ℕ} (s : Sofar l old now i) where
  module _ (h : i < l.used) {m : Record} (e : m ≡ mark_at l i) where
    inside : i < length (marks_in l)
    inside = omega (arith, length-marks l)

    is_mark : get_or (marks_in l) i m ≡ m
    is_mark = mark_in_lem l i m h ∙ sym e

    pub bad_mark : {f : Refusal} → (good_mark m ≡ false) × (f ≡ NoDecimal) → (r : Result Unit Refusal) → IsErr r × IsErrAnd r (λ (d : Refusal). d ≡ f) → PutsMarks (marks_in l) old r now
    bad_mark b (Ok u) k = absurd k.1
    bad_mark b (Err d) k = (all_stop good_mark (marks_in l) i s.judged m inside (ap good_mark is_mark ∙ b.0), k.1 ∙ b.1)

    module _ {d : Decimals} (t : Told m d) (small : m.id < 2 ^ 64) where
      line_short : length (line_text m.id d.x.count d.y.count d.z.count) ≤ longest
      line_short = rw (line-is m d t) (line-most m t.good small)

      pub fits : l.used ≤ 65536 → now.at + length (line_text m.id d.x.count d.y.count d.z.count) < 2 ^ 64
      fits few = omega (arith, line_short, s.short)

      pub next_mark : {after : Writer} → Puts (line_text m.id d.x.count d.y.count d.z.count) now after → Sofar l old after (i + 1)
      next_mark p = record {
        judged = all-next good_mark (marks_in l) i s.judged m inside (ap good_mark is_mark ∙ t.good);
        put = rw (take_more (marks_in l) i m inside, is_mark, text_more) (puts_both s.put (rw (line-is m d t) at p));
        short = omega (arith, line_short, s.short, p.put.past);
      }

  pub all-marks : l.used ≤ i → Stands (marks_in l) old now
  all-marks h =
      let whole : length (marks_in l) ≤ i = omega (arith, length-marks l) in
      record { good = all_end good_mark (marks_in l) i s.judged whole; put = rw take_all at s.put }
