-- Document 01's sample, evaluated from the bytes of the files to the text.
use Prim.Native.Nat.{ℕ}
use mathlib.Core.Path.{◌≡◌, refl}
use mathlib.Core.Option.{none, some}
use mathlib.Core.List.{List, [], ◌∷◌, ◌++◌}
use lib.Ieee.{add, sub, mul, div, of_int, to_unsigned}
use Rattle.floats.specs.Tests.{within}
use Rattle.table.specs.Rows.{before, same}
use Rattle.text.specs.Text.{ascii}
use Rattle.grid_search.specs.Sheet.{new_sheet}
use Rattle.rows.specs.Insert.{insertion}
use Rattle.records.specs.Records.{record_at}
use Rattle.outcome.specs.Outcome.{printed}

-- eight bytes of which the first, or the last two, are not 0
low : ℕ → List ℕ
low b = b ∷ 0 ∷ 0 ∷ 0 ∷ 0 ∷ 0 ∷ 0 ∷ 0 ∷ []

high : ℕ → ℕ → List ℕ
high a b = 0 ∷ 0 ∷ 0 ∷ 0 ∷ 0 ∷ 0 ∷ a ∷ b ∷ []

-- (2; 0, 0, 0), (8; 8, 4, 0)
sheet : List ℕ
unfolding low high
sheet = low 2 ++ (low 0 ++ (low 0 ++ (low 0 ++ (low 8 ++ (high 0x20 0x40 ++ (high 0x10 0x40 ++ low 0))))))

-- (3; 3.5, 2.5, 0)
three : List ℕ
unfolding low high
three = low 3 ++ (high 0x0c 0x40 ++ (high 0x04 0x40 ++ low 0))

-- (7; 2.00005, 0.5, 0)
seven : List ℕ
unfolding low high
seven = low 7 ++ ((0x1c ∷ 0xeb ∷ 0xe2 ∷ 0x36 ∷ 0x1a ∷ 0x00 ∷ 0x00 ∷ 0x40 ∷ []) ++ (high 0xe0 0x3f ++ low 0))

-- (9; 16, 0, 0), outside the sheet
nine : List ℕ
unfolding low high
nine = low 9 ++ (high 0x30 0x40 ++ (low 0 ++ low 0))

sample : printed (some sheet) (some (three ++ seven)) ≡ ascii "1: [7]\n2: [7]\n19: [3]\nids = [3, 7]\nnitem = 2\nncontainer = 3\nndiv = [8, 4]\n"
unfolding printed new_sheet record_at insertion sheet three seven add sub mul div of_int to_unsigned within before same
sample = refl

no_marks : printed (some sheet) none ≡ ascii "refused 13\n"
unfolding printed new_sheet record_at insertion sheet add sub mul div of_int to_unsigned within
no_marks = refl

-- a byte past the last record
torn : printed (some sheet) (some (three ++ (seven ++ (0 ∷ [])))) ≡ ascii "refused 13\n"
unfolding printed new_sheet record_at insertion sheet three seven add sub mul div of_int to_unsigned within before same
torn = refl

-- and a mark outside the sheet before it, which decides
outside : printed (some sheet) (some (three ++ (nine ++ (0 ∷ [])))) ≡ ascii "refused 11\n"
unfolding printed new_sheet record_at insertion sheet three nine add sub mul div of_int to_unsigned within before same
outside = refl
