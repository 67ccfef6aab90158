-- The definitions on a few marks, evaluated.
-- Assumes nothing.
use mathlib.Core.Path.{◌≡◌, refl}
use mathlib.Core.Bool.{false, true}
use mathlib.Core.List.{[], ◌∷◌}
use lib.IntN.{pos, negsuc}
use lib.Ieee.{fin, of_int, add, mul, div, to_unsigned}
use Rattle.floats.specs.Rounded.{zero_f}
use Rattle.records.specs.declared.Record.{Record}
use Rattle.basics.specs.Refusals.{refused}
use Rattle.text.specs.Text.{ascii}
use Rattle.mark_lists.specs.MarkLists.{mark_list}
use Rattle.survey_export.specs.Export.{good_mark, line_of, text_of, exporting}

-- 7 at 1.5, -0.5, 0
abbrev seven : Record
seven = record { id = 7; x = fin false 3 (negsuc 0); y = fin true 1 (negsuc 0); z = zero_f }

line : line_of seven ≡ ascii "7,1.500,-0.500,0.000,\n"
unfolding line_of of_int add mul div to_unsigned
line = refl

-- -0 is no decimal's value
minus_zero : good_mark (record { id = 7; x = zero_f; y = zero_f; z = fin true 0 (pos 0) }) ≡ false
unfolding good_mark of_int add mul div to_unsigned
minus_zero = refl

-- no mark has no text
empty : text_of [] ≡ []
unfolding text_of
empty = refl

-- 28 comes before 14: a mark with -0, and no room
bad_before_short : (exporting (mark_list (7 ∷ []) (zero_f ∷ []) (zero_f ∷ []) (fin true 0 (pos 0) ∷ []) 1) []).answer ≡ refused 28
unfolding exporting of_int add mul div to_unsigned
bad_before_short = refl

too_short : (exporting (mark_list (7 ∷ []) (zero_f ∷ []) (zero_f ∷ []) (zero_f ∷ []) 1) []).answer ≡ refused 14
unfolding exporting of_int add mul div to_unsigned
too_short = refl
