-- The export of marks into a lent buffer: their text, what turns it away, what it answers, and what it leaves.
-- Assumes nothing.
use Rattle.std.specs.Prelude.{ℕ, ◌≡◌, Bool, not, ◌&&◌, List, [], ◌∷◌, ◌++◌, ltb, ℤ, length, Result}
use Rattle.basics.specs.Lists.{all}
use Rattle.basics.specs.Refusals.{Test, refuse, fault, Answer}
use Rattle.basics.specs.declared.Refusal.{Refusal}
use Rattle.basics.specs.Answers.{answered}
use Rattle.basics.specs.Filled.{Filled, fill}
use Rattle.records.specs.declared.Record.{Record}
use Rattle.text.specs.Text.{ascii, decimal}
use Rattle.millimetres.specs.Millimetres.{nearest_to, is_decimal}
use Rattle.decimals.specs.Decimals.{coordinate_text}
use Rattle.mark_lists.specs.MarkLists.{MarkList, marks_in, too_many, same_lengths, holds}

-- each coordinate of the mark is a decimal's value
unfoldable pub good_mark : Record → Bool
unfolding is_decimal
good_mark m = is_decimal m.x && (is_decimal m.y && is_decimal m.z)

-- the line of a number and three coordinates in millimetres: the description after the fourth comma is empty
unfoldable pub line_text : ℕ → ℤ → ℤ → ℤ → List ℕ
unfolding decimal coordinate_text
line_text id x y z =
    decimal id ++ (ascii ","
    ++ (coordinate_text x ++ (ascii ","
    ++ (coordinate_text y ++ (ascii ","
    ++ (coordinate_text z ++ ascii ",\n"))))))

-- the line of such a mark
unfoldable pub line_of : Record → List ℕ
unfolding line_text nearest_to
line_of m = line_text m.id (nearest_to m.x) (nearest_to m.y) (nearest_to m.z)

-- the lines of marks, one after the other
unfoldable pub text_of : List Record → List ℕ
unfolding line_of
text_of [] = []
text_of (m ∷ ms) = line_of m ++ text_of ms

-- 24, 13 (slice lengths, used count), 28, 14: every mark is judged before 14
unfoldable pub export_tests : MarkList → ℕ → List Test
unfolding too_many same_lengths holds all good_mark marks_in text_of
export_tests l room =
    refuse 24 (too_many l)
    ∷ refuse 13 (not (same_lengths l && holds l l.used))
    ∷ refuse 28 (not (all good_mark (marks_in l)))
    ∷ refuse 14 (ltb room (length (text_of (marks_in l))))
    ∷ []

-- the length of the text with the text at the front of the buffer, or the refusal with the buffer as it was
unfoldable pub exporting : MarkList → List ℕ → Filled
unfolding fill fault export_tests text_of marks_in
exporting l buffer = fill (fault (export_tests l (length buffer))) (text_of (marks_in l)) buffer

abbrev pub exported : Result ℕ Refusal → Answer ℕ
exported = answered (λ (n : ℕ). n)

-- what is returned, and the buffer at exit, is what the definition gives
pub record Exports (f : Filled) (r : Result ℕ Refusal) (after : List ℕ) : Type 0 where
  pub answers : exported r ≡ f.answer
  pub text_is : after ≡ f.list
