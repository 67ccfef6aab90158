-- The claims of specs/Claims.antt.
-- Assumes nothing.
use Prim.Native.Nat.{ℕ, ◌≤◌}
use native.Mathlib.Omega.{arith}
use mathlib.Core.Path.{◌≡◌, refl, sym, ap, ◌∙◌, subst}
use mathlib.Core.Bool.{Bool, true, false, not, not-not}
use mathlib.Core.Option.{Option, none, some}
use mathlib.Core.List.{List, map}
use lib.Dec.{ltb}
use lib.ListN.{length, take, length-map}
use Rattle.basics.specs.Lists.{all, any}
use Rattle.basics.specs.Refusals.{success, fault}
use Rattle.basics.specs.Filled.{fill}
use Rattle.basics.proofs.Filled.{fill-success}
use Rattle.basics.proofs.Refusals.{unrefused, passed}
use Rattle.records.specs.declared.Record.{Record}
use Rattle.text.proofs.Laws.{over-front}
use Rattle.lines.specs.Lines.{lines}
use Rattle.table.specs.Library.{level, fits}
use Rattle.millimetres.proofs.Theorems.{theorem as values}
use Rattle.decimals.specs.Decimals.{millimetres}
use Rattle.decimals.proofs.Laws.{coordinate-size}
use Rattle.mark_lists.specs.MarkLists.{MarkList, marks_in, write_marks, mark_lengths, too_many, same_lengths, holds}
use Rattle.mark_lists.proofs.Laws.{length-marks, room, marks-written, used-written, lengths-written}
use Rattle.survey_import.specs.Marks.{mark_of, malformed, bad_line}
use Rattle.survey_import.specs.Import.{Import, import_tests, settle_import, import_lines, importing}
use Rattle.survey_export.specs.Export.{good_mark, text_of, export_tests, exporting}
use Rattle.survey_export.proofs.Answers.{accepts}
use Rattle.survey_claims.specs.Claims.{Decimals, Gave, RoundTrip, Accepted}
use Rattle.survey_claims.proofs.Marks.{bare, back, decimal_field}
use Rattle.survey_claims.proofs.Texts.{text_lines, lines-good, lines-marks, well_formed, all_well, marks-good}

pub decimals : Decimals
decimals = record {
  rounded = λ f c. values.rounded (millimetres f) (coordinate-size f c);
  taken = decimal_field;
  written = λ x h d. back x d h;
  no_minus_zero = λ f c e. values.no_minus_zero (millimetres f) (coordinate-size f c) e;
}

-- ---- an import whose tests pass

taken : (k : MarkList) (ls : List (List ℕ)) → fault (import_tests k ls) ≡ none
    → import_lines k ls ≡ record { lists = write_marks (map mark_of ls) k; answer = success (write_marks (map mark_of ls) k).used; line = none }
unfolding import_lines settle_import
taken k ls e = rw e

gave : (k : MarkList) (ls : List (List ℕ)) → fault (import_tests k ls) ≡ none → Gave (map mark_of ls) (import_lines k ls)
gave k ls e =
    subst (Gave (map mark_of ls)) (sym (taken k ls e))
    (record { answer_is = ap success (used-written (map mark_of ls) k); no_line = refl; marks_are = marks-written (map mark_of ls) k })

passes : (k : MarkList) (ls : List (List ℕ)) → too_many k ≡ false → same_lengths k ≡ true → malformed ls ≡ false → holds k (length ls) ≡ true → fault (import_tests k ls) ≡ none
unfolding import_tests
passes k ls m e w h = passed _ (m, (ap not e, (w, (ap not h, tt))))

-- ---- an export that was accepted

pub record Written (l : MarkList) (buffer : List ℕ) (n : ℕ) : Type 0 where
  pub text_is : take n (exporting l buffer).list ≡ text_of (marks_in l)
  pub good : all good_mark (marks_in l) ≡ true

written : (l : MarkList) (buffer : List ℕ) (n : ℕ) → (exporting l buffer).answer ≡ success n → Written l buffer n
unfolding exporting export_tests
written l buffer n e =
    let f = fill-success (text_of (marks_in l)) buffer n (fault (export_tests l (length buffer))) e in
    let p = unrefused (export_tests l (length buffer)) f.0 in
    record {
      text_is = (over-front (text_of (marks_in l)) buffer (exporting l buffer).list n f.1 f.2).1;
      good = sym (not-not (all good_mark (marks_in l))) ∙ ap not p.1.1.0;
    }

-- ---- the claims

pub round_trip : RoundTrip
unfolding importing
round_trip l buffer n h s e k m v r =
    let w = written l buffer n e in
    let marks = marks_in l in
    let ls : lines (take n (exporting l buffer).list) ≡ map bare marks = ap lines w.text_is ∙ text_lines marks in
    let count : length (map bare marks) ≡ l.used = length-map marks bare ∙ length-marks l in
    let ok : fault (import_tests k (map bare marks)) ≡ none =
    passes k (map bare marks) m v (well_formed (map bare marks) (omega (arith, count)) (lines-good marks w.good h)) (rw count r)
    in
    rw ls (subst (λ (ms : List Record). Gave ms (import_lines k (map bare marks))) (lines-marks marks w.good h) (gave k (map bare marks) ok))

-- an import that answered a number of marks was not refused
not-refused : (o : Option ℕ) (line : ℕ) (new old : MarkList) (n : ℕ) → (settle_import o line new old).answer ≡ success n → o ≡ none
unfolding settle_import
not-refused none line new old n e = refl
not-refused (some m) line new old n e = absurd (let z : ◌≡◌ {A = ℕ} 0 1 = cc in omega arith)

-- the tests of an export ask the lists for their lengths alone, and for the marks in use
module _ (l k : MarkList) (same : mark_lengths l ≡ mark_lengths k) where
  same_many : too_many l ≡ too_many k
  unfolding too_many
  same_many = ap (any (λ (n : ℕ). ltb 65536 n)) same

  same-same_lengths : same_lengths l ≡ same_lengths k
  unfolding same_lengths
  same-same_lengths = ap level same

  same-holds : (n : ℕ) → holds l n ≡ holds k n
  unfolding holds
  same-holds n = ap (λ (ns : List ℕ). fits ns n) same

export_taken : (l : MarkList) (buffer : List ℕ) → fault (export_tests l (length buffer)) ≡ none → (exporting l buffer).answer ≡ success (length (text_of (marks_in l)))
unfolding exporting fill
export_taken l buffer e = rw e

module _ (k : MarkList) (ls : List (List ℕ)) (e : fault (import_tests k ls) ≡ none) where
  abbrev marks : List Record
  marks = map mark_of ls

  tests : (too_many k ≡ false) × (not (same_lengths k) ≡ false) × (malformed ls ≡ false) × (not (holds k (length ls)) ≡ false)
  unfolding import_tests
  tests = let p = unrefused (import_tests k ls) e in (p.0, p.1.0, p.1.1.0, p.1.1.1.0)

  yes : (b : Bool) → not b ≡ false → b ≡ true
  yes b h = sym (not-not b) ∙ ap not h

  count : length marks ≡ length ls
  count = length-map ls mark_of

  has_room : holds k (length marks) ≡ true
  has_room = ap (holds k) count ∙ yes (holds k (length ls)) tests.3

  lengths : mark_lengths (write_marks marks k) ≡ mark_lengths k
  lengths = lengths-written marks k (room k (length marks) (yes (same_lengths k) tests.1) has_room)

  given : (buffer : List ℕ) → length (text_of (marks_in (write_marks marks k))) ≤ length buffer
      → (exporting (write_marks marks k) buffer).answer ≡ success (length (text_of (marks_in (write_marks marks k))))
  given buffer long =
      export_taken (write_marks marks k) buffer
      (accepts (write_marks marks k) (length buffer) (record {
        sound = record {
          few = same_many (write_marks marks k) k lengths ∙ tests.0;
          level = same-same_lengths (write_marks marks k) k lengths ∙ yes (same_lengths k) tests.1;
          in_use = same-holds (write_marks marks k) k lengths (write_marks marks k).used ∙ ap (holds k) (used-written marks k) ∙ has_room;
        };
        good = ap (all good_mark) (marks-written marks k) ∙ marks-good ls (all_well ls tests.2);
        roomy = long;
      }))

lines-taken : (k : MarkList) (ls : List (List ℕ)) (n : ℕ) → (import_lines k ls).answer ≡ success n → fault (import_tests k ls) ≡ none
unfolding import_lines
lines-taken k ls n e = not-refused (fault (import_tests k ls)) (bad_line ls) (write_marks (map mark_of ls) k) k n e

-- what an import gave
abbrev Given : MarkList → Type 0
Given l = (buffer : List ℕ) → length (text_of (marks_in l)) ≤ length buffer → (exporting l buffer).answer ≡ success (length (text_of (marks_in l)))

pub accepted : Accepted
unfolding importing
accepted k text n e =
    let ok = lines-taken k (lines text) n e in
    subst Given (sym (ap (λ (i : Import). i.lists) (taken k (lines text) ok))) (given k (lines text) ok)
