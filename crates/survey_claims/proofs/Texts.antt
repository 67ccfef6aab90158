-- The text of marks has a line for each, and these lines give the marks back.
-- Assumes nothing.
use Prim.Native.Nat.{ℕ, ◌<◌}
use native.Mathlib.Omega.{arith}
use mathlib.Core.Path.{◌≡◌, refl, sym, ap, ap₂, ◌∙◌}
use mathlib.Core.Bool.{true, false, not, true≢false, not-not}
use mathlib.Core.List.{List, [], ◌∷◌, ◌++◌, map}
use lib.ListN.{length}
use Rattle.basics.specs.Lists.{all, has}
use Rattle.basics.proofs.Bools.{and_left, and_right}
use Rattle.records.specs.declared.Record.{Record}
use Rattle.text.specs.Text.{decimal}
use Rattle.lines.specs.Lines.{lines}
use Rattle.lines.proofs.LineLaws.{lines_none, lines-joined}
use Rattle.millimetres.specs.Millimetres.{nearest_to}
use Rattle.decimals.specs.Decimals.{coordinate_text}
use Rattle.survey_import.specs.Marks.{good_line, mark_of, malformed}
use Rattle.survey_export.specs.Export.{good_mark, line_text, line_of, text_of}
use Rattle.survey_claims.specs.Claims.{lent}
use Rattle.survey_claims.proofs.Bytes.{no_end}
use Rattle.survey_claims.proofs.Marks.{bare, joined_text, bare-good, bare_mark, bare-without, line_mark}

-- the line of the first mark in front of the text of the others
text_first : (m : Record) (ms : List Record) → text_of (m ∷ ms) ≡ bare m ++ (10 ∷ text_of ms)
unfolding text_of line_of line_text
text_first m ms = joined_text (decimal m.id) (coordinate_text (nearest_to m.x)) (coordinate_text (nearest_to m.y)) (coordinate_text (nearest_to m.z)) (text_of ms)

text_none : text_of [] ≡ []
unfolding text_of
text_none = refl

-- neither LF nor CR is a comma
no_comma : (has 10 (44 ∷ []) ≡ false) × (has 13 (44 ∷ []) ≡ false)
unfolding has
no_comma = (refl, refl)

pub text_lines : (ms : List Record) → lines (text_of ms) ≡ map bare ms
text_lines [] = ap lines text_none ∙ lines_none
text_lines (m ∷ ms) =
    ap lines (text_first m ms)
    ∙ lines-joined (bare m) (bare-without m 10 no_comma.0 refl refl refl) (no_end (bare m) (bare-without m 13 no_comma.1 refl refl refl)) (text_of ms)
    ∙ ap (λ (l : List (List ℕ)). bare m ∷ l) (text_lines ms)

pub lines-good : (ms : List Record) → all good_mark ms ≡ true → all lent ms ≡ true → all good_line (map bare ms) ≡ true
unfolding all
lines-good [] g h = refl
lines-good (m ∷ ms) g h =
    rw (bare-good m (and_left (good_mark m) (all good_mark ms) g) (and_left (lent m) (all lent ms) h))
    (lines-good ms (and_right (good_mark m) (all good_mark ms) g) (and_right (lent m) (all lent ms) h))

pub lines-marks : (ms : List Record) → all good_mark ms ≡ true → all lent ms ≡ true → map mark_of (map bare ms) ≡ ms
unfolding all
lines-marks [] g h = refl
lines-marks (m ∷ ms) g h =
    ap₂ (λ (r : Record) (l : List Record). r ∷ l) (bare_mark m (and_left (good_mark m) (all good_mark ms) g) (and_left (lent m) (all lent ms) h))
    (lines-marks ms (and_right (good_mark m) (all good_mark ms) g) (and_right (lent m) (all lent ms) h))

-- ---- lines that are not malformed

pub well_formed : (ls : List (List ℕ)) → 0 < length ls → all good_line ls ≡ true → malformed ls ≡ false
unfolding malformed
well_formed [] h g = absurd (omega arith)
well_formed (l ∷ ls) h g = rw g

pub all_well : (ls : List (List ℕ)) → malformed ls ≡ false → all good_line ls ≡ true
unfolding malformed
all_well [] e = absurd (true≢false e)
all_well (l ∷ ls) e = sym (not-not (all good_line (l ∷ ls))) ∙ ap not e

pub marks-good : (ls : List (List ℕ)) → all good_line ls ≡ true → all good_mark (map mark_of ls) ≡ true
unfolding all
marks-good [] g = refl
marks-good (l ∷ ls) g = rw (line_mark l (and_left (good_line l) (all good_line ls) g)) (marks-good ls (and_right (good_line l) (all good_line ls) g))
