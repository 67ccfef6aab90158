-- The definitions on a few numbers, evaluated.
use mathlib.Core.Path.{◌≡◌, refl}
use mathlib.Core.List.{[], ◌∷◌}
use Rattle.text.specs.Text.{ascii, decimal, list_text, refusal}

zero_alone : decimal 0 ≡ ascii "0"
unfolding decimal
zero_alone = refl

inner-zeros : decimal 10203 ≡ ascii "10203"
unfolding decimal
inner-zeros = refl

largest : decimal 18446744073709551615 ≡ ascii "18446744073709551615"
unfolding decimal
largest = refl

two : list_text (3 ∷ 7 ∷ []) ≡ ascii "[3, 7]"
unfolding list_text
two = refl

none : list_text [] ≡ ascii "[]"
unfolding list_text
none = refl

refused_alone : refusal (13 ∷ []) ≡ ascii "refused 13\n"
unfolding refusal
refused_alone = refl

refused-with : refusal (27 ∷ 4 ∷ []) ≡ ascii "refused 27 4\n"
unfolding refusal
refused-with = refl
