-- The definitions on the edges of the request, evaluated.
-- Assumes nothing.
use mathlib.Core.Path.{◌≡◌, refl}
use mathlib.Core.Option.{none, some}
use mathlib.Core.List.{[], ◌∷◌, map}
use lib.IntN.{pos, negsuc}
use Rattle.text.specs.Text.{ascii}
use Rattle.decimals.specs.Decimals.{number_in, millimetres_in, coordinate_text}

-- ---- numbers

numbers :
    map number_in (ascii "0" ∷ ascii "00000000000000000007" ∷ ascii "18446744073709551615" ∷ [])
    ≡ some 0 ∷ some 7 ∷ some 18446744073709551615 ∷ []
unfolding number_in
numbers = refl

no_numbers : map number_in ([] ∷ ascii "18446744073709551616" ∷ ascii "000000000000000000007" ∷ ascii "-1" ∷ []) ≡ none ∷ none ∷ none ∷ none ∷ []
unfolding number_in
no_numbers = refl

-- ---- coordinates

largest : map millimetres_in (ascii "1048576" ∷ ascii "1048576.000" ∷ ascii "-1048576.0" ∷ []) ≡ some (pos 1048576000) ∷ some (pos 1048576000) ∷ some (negsuc 1048575999) ∷ []
unfolding millimetres_in
largest = refl

too_large : map millimetres_in (ascii "1048576.001" ∷ ascii "1234567" ∷ ascii "-1048576.001" ∷ []) ≡ none ∷ none ∷ none ∷ []
unfolding millimetres_in
too_large = refl

decimals_left_out : map millimetres_in (ascii "0000007" ∷ ascii "1.5" ∷ ascii "-1.05" ∷ []) ≡ some (pos 7000) ∷ some (pos 1500) ∷ some (negsuc 1049) ∷ []
unfolding millimetres_in
decimals_left_out = refl

minus_on_zero : map millimetres_in (ascii "-0" ∷ ascii "-0.000" ∷ []) ≡ some (pos 0) ∷ some (pos 0) ∷ []
unfolding millimetres_in
minus_on_zero = refl

too_many-digits : map millimetres_in (ascii "12345678" ∷ ascii "00000001" ∷ ascii "1.2345" ∷ []) ≡ none ∷ none ∷ none ∷ []
unfolding millimetres_in
too_many-digits = refl

a_part_missing : map millimetres_in ([] ∷ ascii "-" ∷ ascii "1." ∷ ascii ".5" ∷ ascii "." ∷ []) ≡ none ∷ none ∷ none ∷ none ∷ none ∷ []
unfolding millimetres_in
a_part_missing = refl

other-bytes : map millimetres_in (ascii "--1" ∷ ascii "+1" ∷ ascii "1.2.3" ∷ ascii " 1" ∷ ascii "1.-5" ∷ []) ≡ none ∷ none ∷ none ∷ none ∷ none ∷ []
unfolding millimetres_in
other-bytes = refl

-- ---- what is written

written :
    map coordinate_text (pos 0 ∷ negsuc 0 ∷ pos 1050 ∷ pos 1048576000 ∷ [])
    ≡ ascii "0.000" ∷ ascii "-0.001" ∷ ascii "1.050" ∷ ascii "1048576.000" ∷ []
unfolding coordinate_text
written = refl
