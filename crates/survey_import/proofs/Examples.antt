-- The definitions on a few lines and texts, evaluated.
-- Assumes nothing.
use mathlib.Core.Path.{◌≡◌, refl}
use mathlib.Core.Bool.{true, false}
use mathlib.Core.Option.{some}
use mathlib.Core.List.{[], ◌∷◌}
use lib.Ieee.{div, of_int}
use Rattle.basics.specs.Refusals.{refused, success}
use Rattle.floats.specs.Rounded.{zero_f}
use Rattle.text.specs.Text.{ascii}
use Rattle.lines.specs.Lines.{lines}
use Rattle.mark_lists.specs.MarkLists.{mark_list}
use Rattle.survey_import.specs.Marks.{good_line, mark_of, malformed, bad_line}
use Rattle.survey_import.specs.Import.{importing}

-- ---- a line

plain-line : good_line (ascii "7,12.5,-3,0.125,post 4") ≡ true
unfolding good_line
plain-line = refl

-- the description may be empty, and its comma may not be left out
no_description : good_line (ascii "7,12.5,-3,0.125,") ≡ true
unfolding good_line
no_description = refl

three_commas : good_line (ascii "7,12.5,-3,0.125") ≡ false
unfolding good_line
three_commas = refl

comma_in_description : good_line (ascii "7,0,0,0,post,4") ≡ false
unfolding good_line
comma_in_description = refl

-- a CR that is not before LF is no byte of a description
cr_in_description : good_line (49 ∷ 44 ∷ 48 ∷ 44 ∷ 48 ∷ 44 ∷ 48 ∷ 44 ∷ 13 ∷ []) ≡ false
unfolding good_line
cr_in_description = refl

empty_line : good_line [] ≡ false
unfolding good_line
empty_line = refl

-- a minus on zero means nothing
minus_zero : (mark_of (ascii "007,-0.000,0,0,")).x ≡ zero_f
unfolding mark_of div of_int
minus_zero = refl

leading_zeros : (mark_of (ascii "007,-0.000,0,0,")).id ≡ 7
unfolding mark_of
leading_zeros = refl

-- ---- a text

-- an empty text is malformed at line 1, and so is an empty line
empty_text : bad_line (lines []) ≡ 1
unfolding bad_line lines
empty_text = refl

second-line : bad_line (lines (ascii "1,0,0,0,\n\n")) ≡ 2
unfolding bad_line lines
second-line = refl

no_empty_last_line : malformed (lines (ascii "1,0,0,0,\n")) ≡ false
unfolding malformed lines
no_empty_last_line = refl

-- ---- an import

one_mark : (importing (mark_list (5 ∷ []) (zero_f ∷ []) (zero_f ∷ []) (zero_f ∷ []) 0) (ascii "1,0,0,0,\n")).answer ≡ success 1
unfolding importing
one_mark = refl

-- every line is judged before the room
line_before_room : (importing (mark_list (5 ∷ []) (zero_f ∷ []) (zero_f ∷ []) (zero_f ∷ []) 0) (ascii "1,0,0,0,\n2,0,0,0,\nx")).line ≡ some 3
unfolding importing
line_before_room = refl

no_room : (importing (mark_list (5 ∷ []) (zero_f ∷ []) (zero_f ∷ []) (zero_f ∷ []) 0) (ascii "1,0,0,0,\n2,0,0,0,\n")).answer ≡ refused 12
unfolding importing
no_room = refl

uneven : (importing (mark_list (5 ∷ []) (zero_f ∷ []) (zero_f ∷ []) [] 0) (ascii "x")).answer ≡ refused 13
unfolding importing
uneven = refl
