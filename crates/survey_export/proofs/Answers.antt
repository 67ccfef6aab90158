-- What an export answers: by the tests that led to it, and what the answer says of the marks and of the buffer.
-- Assumes nothing.
use Prim.Native.Nat.{ℕ, ◌≤◌, ◌<◌}
use native.Mathlib.Omega.{arith}
use mathlib.Core.Path.{◌≡◌, sym, ap, ◌∙◌}
use mathlib.Core.Bool.{Bool, true, false, not, and-false, not-not}
use mathlib.Core.Option.{Option, none, some, some-ne-none}
use mathlib.Core.List.{List}
use lib.ListN.{length}
use borrow.Author.Tests.{lt-ltb, le-ltb, ltb-false, leb-true, lt-leb, le-leb}
use Rattle.std.specs.Prelude.{Result, Ok, Err}
use Rattle.basics.specs.Lists.{all, any, over}
use Rattle.basics.specs.Refusals.{fault, success}
use Rattle.basics.specs.declared.Refusal.{Refusal}
use Rattle.basics.specs.Answers.{refusal_number}
use Rattle.basics.specs.Filled.{Filled, fill}
use Rattle.basics.proofs.Answers.{Raised}
use Rattle.basics.proofs.Bools.{by_test, or_left, clash}
use Rattle.basics.proofs.Refusals.{unrefused}
use Rattle.table.specs.Library.{fits}
use Rattle.mark_lists.specs.MarkLists.{MarkList, marks_in, too_many, same_lengths, holds}
use Rattle.mark_lists.specs.Posts.{lists_tests, Room}
use Rattle.mark_lists.proofs.Laws.{room}
use Rattle.text.specs.declared.Writer.{Writer}
use Rattle.text.proofs.Laws.{put-over}
use Rattle.survey_export.specs.Export.{good_mark, text_of, export_tests, exporting, Exports}
use Rattle.survey_export.specs.Posts.{Stands, PutsMarks}

-- ---- the tests

yes : {b : Bool} → not b ≡ false → b ≡ true
yes {b} e = sym (not-not b) ∙ ap not e

-- the lists are in order: neither 24 nor 13 says anything
pub record Sound (l : MarkList) : Type 0 where
  pub few : too_many l ≡ false
  pub level : same_lengths l ≡ true
  pub in_use : holds l l.used ≡ true

-- no test fails
pub record Accepted (l : MarkList) (space : ℕ) : Type 0 where
  pub sound : Sound l
  pub good : all good_mark (marks_in l) ≡ true
  pub roomy : length (text_of (marks_in l)) ≤ space

module _ (l : MarkList) where
  pub most : Sound l → l.used ≤ 65536
  unfolding too_many any holds fits
  most s = omega (arith, leb-true l.used (length l.ids) s.in_use, ltb-false 65536 (length l.ids) (or_left _ _ s.few))

  pub room-used : Sound l → Room l l.used
  room-used s = room l l.used s.level s.in_use

  module _ (space : ℕ) where
    pub accepts : Accepted l space → fault (export_tests l space) ≡ none
    unfolding export_tests fault
    accepts a = rw (a.sound.few, a.sound.level, a.sound.in_use, a.good, le-ltb space (length (text_of (marks_in l))) a.roomy)

    -- the first that fails
    pub fault_lists : {n : ℕ} → some n ≡ fault (lists_tests l) → fault (export_tests l space) ≡ some n
    unfolding export_tests lists_tests fault
    fault_lists {n} e =
        by_test (too_many l) (λ t. rw t (sym (rw t at e)))
        (λ f. by_test (same_lengths l) (λ t. absurd (some-ne-none n (rw (f, t) at e))) (λ g. rw (f, g) (sym (rw (f, g) at e))))

    fault_used : too_many l ≡ false → holds l l.used ≡ false → fault (export_tests l space) ≡ some 13
    unfolding export_tests fault
    fault_used f h = rw (f, h, and-false)

    fault_mark : Sound l → all good_mark (marks_in l) ≡ false → fault (export_tests l space) ≡ some 28
    unfolding export_tests fault
    fault_mark s f = rw (s.few, s.level, s.in_use, f)

    fault_room : Sound l → all good_mark (marks_in l) ≡ true → space < length (text_of (marks_in l)) → fault (export_tests l space) ≡ some 14
    unfolding export_tests fault
    fault_room s t h = rw (s.few, s.level, s.in_use, t, lt-ltb space (length (text_of (marks_in l))) h)

  -- what is known of lists that the tests let pass
  lists_pass : none ≡ fault (lists_tests l) → (too_many l ≡ false) × (same_lengths l ≡ true)
  unfolding lists_tests
  lists_pass e = let p = unrefused (lists_tests l) (sym e) in (p.0, yes p.1.0)

  -- and whose marks in use are in them
  pub sound : none ≡ fault (lists_tests l) → l.used ≤ length l.ids → Sound l
  unfolding holds fits
  sound e h = let p = lists_pass e in record { few = p.0; level = p.1; in_use = le-leb l.used (length l.ids) h }

  -- or are not
  pub fault_past : none ≡ fault (lists_tests l) → length l.ids < l.used → (space : ℕ) → fault (export_tests l space) ≡ some 13
  unfolding holds fits
  fault_past e h space = fault_used space (lists_pass e).0 (lt-leb l.used (length l.ids) h)

  -- a mark was found that is none of decimals
  pub fault_found : Sound l → (old new : Writer) (e : Refusal) → PutsMarks (marks_in l) old (Err e) new → (space : ℕ) → fault (export_tests l space) ≡ some (refusal_number e)
  fault_found s old new e p space = rw p.1 (fault_mark space s p.0)

  -- the marks were put into no buffer, and how long their text is was learnt
  module _ {measure first : Writer} (start : measure.at ≡ 0) (p : Stands (marks_in l) measure first) where
    pub measured : first.at ≡ length (text_of (marks_in l))
    measured = omega (arith, p.put.put.past)

    pub fault_short : Sound l → (space : ℕ) → space < first.at → fault (export_tests l space) ≡ some 14
    fault_short s space h = fault_room space s p.good (rw measured at h)

    pub all_fits : Sound l → (space : ℕ) → first.at ≤ space → Accepted l space
    all_fits s space h = record { sound = s; good = p.good; roomy = rw measured at h }

-- ---- the answer

module _ (l : MarkList) (buffer : List ℕ) where
  export_is : (o : Option ℕ) → fault (export_tests l (length buffer)) ≡ o → exporting l buffer ≡ fill o (text_of (marks_in l)) buffer
  unfolding exporting
  export_is o e = ap (λ (f : Option ℕ). fill f (text_of (marks_in l)) buffer) e

  pub turned_away : (e : Refusal) → fault (export_tests l (length buffer)) ≡ some (refusal_number e) → Exports (exporting l buffer) (Err e) buffer
  unfolding fill
  turned_away e k =
      let f = export_is (some (refusal_number e)) k in
      record { answers = sym (ap (λ (w : Filled). w.answer) f); text_is = sym (ap (λ (w : Filled). w.list) f) }

  -- by `?`
  pub raised : (e : Refusal) → fault (export_tests l (length buffer)) ≡ some (refusal_number e) → (r : Result ℕ Refusal) → Raised e r → Exports (exporting l buffer) r buffer
  raised e k (Ok n) h = absurd h.1
  raised e k (Err d) h = rw h.1 (turned_away e k)

  -- put again, where they fit, they stand at the buffer's front
  put_again : Accepted l (length buffer) → (r : Result Unit Refusal) (old new : Writer) → old.at ≡ 0 → old.buffer.now ≡ buffer
      → PutsMarks (marks_in l) old r new → new.buffer.now ≡ over (text_of (marks_in l)) buffer
  put_again a (Ok u) old new start same p = put-over (rw (start, same) at p.put.put) a.roomy
  put_again a (Err e) old new start same p = clash a.good p.0

  pub written : Accepted l (length buffer) → (n : ℕ) → n ≡ length (text_of (marks_in l))
      → (r : Result Unit Refusal) (old new : Writer) → old.at ≡ 0 → old.buffer.now ≡ buffer → PutsMarks (marks_in l) old r new
      → (after : List ℕ) → after ≡ new.buffer.now → Exports (exporting l buffer) (Ok n) after
  unfolding fill
  written a n m r old new start same p after k =
      let f = export_is none (accepts l (length buffer) a) in
      record { answers = ap success m ∙ sym (ap (λ (w : Filled). w.answer) f); text_is = k ∙ put_again a r old new start same p ∙ sym (ap (λ (w : Filled). w.list) f) }
