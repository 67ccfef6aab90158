-- The import of a surveyor's text into lent lists: what turns it away, what it answers, and what it leaves.
-- Assumes nothing.
use Rattle.std.specs.Prelude.{ℕ, ◌≡◌, not, cond, List, [], ◌∷◌, map, eqb, length, Result, Ok, Err}
use Rattle.std.proofs.Math.Option.{Option, none, some}
use Rattle.basics.specs.Refusals.{Test, refuse, fault, Answer, refused, success}
use Rattle.mark_lists.specs.MarkLists.{MarkList, write_marks, too_many, same_lengths, holds}
use Rattle.lines.specs.Lines.{lines}
use Rattle.survey_import.specs.Marks.{mark_of, malformed, bad_line}
use Rattle.basics.specs.Answers.{refusal_number}
use Rattle.survey_import.specs.declared.ImportError.{ImportError}
use Rattle.survey_import.specs.declared.ImportError.TheVariants as error

-- of the lines that are found in a text: 24, 13 (slice lengths), 27, 12: every line is judged before 12
unfoldable pub import_tests : MarkList → List (List ℕ) → List Test
unfolding too_many same_lengths malformed holds
import_tests l found =
    refuse 24 (too_many l)
    ∷ refuse 13 (not (same_lengths l))
    ∷ refuse 27 (malformed found)
    ∷ refuse 12 (not (holds l (length found)))
    ∷ []

-- what an import answers, with the line that belongs to 27, and the lists as it leaves them
pub record Import : Type 0 where
  pub lists : MarkList
  pub answer : Answer ℕ
  pub line : Option ℕ

-- the number of marks and the lists with them, or the refusal and the lists as they were
unfoldable pub settle_import : Option ℕ → ℕ → MarkList → MarkList → Import
settle_import none line new old = record { lists = new; answer = success new.used; line = none }
settle_import (some n) line new old = record { lists = old; answer = refused n; line = cond (eqb n 27) (some line) none }

unfoldable pub import_lines : MarkList → List (List ℕ) → Import
unfolding settle_import fault import_tests bad_line write_marks mark_of
import_lines l found = settle_import (fault (import_tests l found)) (bad_line found) (write_marks (map mark_of found) l) l

unfoldable pub importing : MarkList → List ℕ → Import
unfolding import_lines lines
importing l text = import_lines l (lines text)

-- ---- the answer's number or its count, and its line

abbrev pub imported : Result ℕ ImportError → Answer ℕ
imported (Ok n) = success n
imported (Err (error.Malformed line)) = refused 27
imported (Err (error.Refused refusal)) = refused (refusal_number refusal)

abbrev pub imported_line : Result ℕ ImportError → Option ℕ
imported_line (Ok n) = none
imported_line (Err (error.Malformed line)) = some line
imported_line (Err (error.Refused refusal)) = none

-- what is returned, and the lists at exit, is what the definition gives
pub record Imports (i : Import) (r : Result ℕ ImportError) (after : MarkList) : Type 0 where
  pub answers : imported r ≡ i.answer
  pub line-is : imported_line r ≡ i.line
  pub lists-are : after ≡ i.lists
