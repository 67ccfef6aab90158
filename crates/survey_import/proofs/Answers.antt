-- What an import answers and leaves: a law for each way out of the code.
-- Assumes nothing.
use Prim.Native.Nat.{ℕ, ◌≤◌, ◌<◌}
use native.Mathlib.Omega.{arith}
use mathlib.Core.Path.{◌≡◌, refl, sym, ap, ◌∙◌}
use mathlib.Core.Bool.{true, false, not}
use mathlib.Core.Option.{none, some}
use mathlib.Core.List.{List, [], ◌∷◌, ◌++◌, map}
use lib.Dec.{eqb, leb}
use borrow.Author.Tests.{le-leb, lt-leb, not-false}
use lib.ListN.{length, length-map}
use Rattle.basics.specs.Lists.{all}
use Rattle.basics.specs.Refusals.{Test, refuse, fault, success}
use Rattle.basics.proofs.Bools.{by_test, clash}
use Rattle.basics.proofs.Refusals.{unrefused, fault_stop, fault-right}
use Rattle.table.specs.Library.{fits}
use Rattle.lines.specs.Lines.{lines}
use Rattle.mark_lists.specs.MarkLists.{MarkList, write_marks, too_many, same_lengths, holds}
use Rattle.mark_lists.specs.Posts.{lists_tests, Room}
use Rattle.mark_lists.proofs.Laws.{room, used-written}
use Rattle.survey_import.specs.Marks.{good_line, mark_of, malformed, bad_line}
use Rattle.survey_import.specs.Import.{import_tests, settle_import, importing, Imports}
use Rattle.std.specs.Prelude.{Result, Ok, Err, IsErr, IsErrAnd}
use Rattle.basics.specs.declared.Refusal.{Refusal}
use Rattle.basics.specs.declared.Refusal.TheVariants as refusal
use Rattle.basics.specs.Answers.{refusal_number}
use Rattle.survey_import.specs.declared.ImportError.{ImportError}
use Rattle.survey_import.specs.declared.ImportError.TheVariants as error

-- ---- a text that is not malformed

pub lines-good : (ls : List (List ℕ)) → malformed ls ≡ false → all good_line ls ≡ true
unfolding malformed
lines-good [] e = clash refl e
lines-good (l ∷ ls) e = not-false (all good_line (l ∷ ls)) e

-- ---- the lists' tests come first

module _ (l : MarkList) (text : List ℕ) where
  abbrev list_tests : List Test
  list_tests = refuse 24 (too_many l) ∷ refuse 13 (not (same_lengths l)) ∷ []

  abbrev line_tests : List Test
  line_tests = refuse 27 (malformed (lines text)) ∷ refuse 12 (not (holds l (length (lines text)))) ∷ []

  tests_are : import_tests l (lines text) ≡ list_tests ++ line_tests
  unfolding import_tests
  tests_are = refl

  -- their numbers are 24 and 13
  other-number : {n : ℕ} → fault list_tests ≡ some n → eqb n 27 ≡ false
  unfolding fault
  other-number {n} f =
      by_test (too_many l)
      (λ e. let k : n ≡ 24 = cc (rw e at f) in rw k)
      (λ e.
      by_test (not (same_lengths l))
      (λ d. let k : n ≡ 13 = cc (rw (e, d) at f) in rw k)
      (λ d. let z : ◌≡◌ {A = ℕ} 0 1 = cc (rw (e, d) at f) in absurd (omega arith)))

  -- 24 or 13
  pub refused-lists : (e : Refusal) → some (refusal_number e) ≡ fault (lists_tests l) → (r : Result ℕ ImportError) → IsErr r
      × IsErrAnd r (λ (d : ImportError). d ≡ error.Refused e) → Imports (importing l text) r l
  unfolding importing settle_import lists_tests
  refused-lists e f (Ok n) h = absurd h.1
  refused-lists e f (Err d) h =
      let g : fault (import_tests l (lines text)) ≡ some (refusal_number e) = ap fault tests_are ∙ fault_stop list_tests line_tests (refusal_number e) (sym f) in
      rw (h.1, g, other-number (sym f)) (record { answers = refl; line-is = refl; lists-are = refl })

  module _ (f : none ≡ fault (lists_tests l)) where
    passes : fault list_tests ≡ none
    unfolding lists_tests
    passes = sym f

    pub even_lists : same_lengths l ≡ true
    even_lists = not-false (same_lengths l) (unrefused list_tests passes).1.0

    rest_tests : fault (import_tests l (lines text)) ≡ fault line_tests
    rest_tests = ap fault tests_are ∙ fault-right list_tests line_tests passes

    -- 27
    pub refused-line : {e : ImportError} → (malformed (lines text) ≡ true) × (e ≡ error.Malformed (bad_line (lines text)))
        → (r : Result ℕ ImportError) → IsErr r × IsErrAnd r (λ (d : ImportError). d ≡ e) → Imports (importing l text) r l
    unfolding importing settle_import fault
    refused-line {e} j (Ok n) h = absurd h.1
    refused-line {e} j (Err d) h =
        let g : fault (import_tests l (lines text)) ≡ some 27 = rest_tests ∙ rw j.0 in
        rw (h.1, j.1, g) (record { answers = refl; line-is = refl; lists-are = refl })

    module _ {count : ℕ} (m : malformed (lines text) ≡ false) (k : count ≡ length (lines text)) where
      -- 12
      pub refused-room : length l.ids < count → Imports (importing l text) (Err (error.Refused refusal.Full)) l
      unfolding importing settle_import fault holds fits
      refused-room h =
          let r : leb (length (lines text)) (length l.ids) ≡ false = lt-leb (length (lines text)) (length l.ids) (omega (arith, k)) in
          let g : fault (import_tests l (lines text)) ≡ some 12 = rest_tests ∙ rw (m, r) in
          rw g (record { answers = refl; line-is = refl; lists-are = refl })

      module _ (h : count ≤ length l.ids) where
        has_room : holds l (length (lines text)) ≡ true
        unfolding holds fits
        has_room = le-leb (length (lines text)) (length l.ids) (omega (arith, k))

        pub store_room : Room l (length (lines text))
        store_room = room l (length (lines text)) even_lists has_room

        -- the marks, of which count are then in use
        pub stored_all : (after : MarkList) → after ≡ write_marks (map mark_of (lines text)) l → Imports (importing l text) (Ok count) after
        unfolding importing settle_import fault
        stored_all after e =
            let g : fault (import_tests l (lines text)) ≡ none = rest_tests ∙ rw (m, has_room) in
            let n : count ≡ length (map mark_of (lines text)) = k ∙ sym (length-map (lines text) mark_of) in
            rw g (record { answers = ap success (n ∙ sym (used-written (map mark_of (lines text)) l)); line-is = refl; lists-are = e })
