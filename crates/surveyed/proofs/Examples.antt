-- Texts of surveyors, evaluated to what is printed.
-- Assumes nothing.
use mathlib.Core.Path.{◌≡◌, refl}
use mathlib.Core.Option.{none, some}
use mathlib.Core.List.{[]}
use lib.Ieee.{add, sub, mul, div, of_int, to_unsigned}
use Rattle.floats.specs.Tests.{within}
use Rattle.table.specs.Rows.{before, same}
use Rattle.text.specs.Text.{ascii}
use Rattle.grid_search.specs.Sheet.{new_sheet}
use Rattle.rows.specs.Insert.{insertion}
use Rattle.survey_import.specs.Import.{importing}
use Rattle.surveyed.specs.Surveyed.{surveyed}

no_line : surveyed (some []) ≡ ascii "refused 27 1\n"
unfolding surveyed importing
no_line = refl

-- line 2 has no fourth comma
bad-line : surveyed (some (ascii "1,0,0,0,\n2,10,20,30\n")) ≡ ascii "refused 27 2\n"
unfolding surveyed importing
bad-line = refl

-- marks at one height have no extent there
level : surveyed (some (ascii "1,0,0,5,\n2,10,20,5,")) ≡ ascii "refused 7\n"
unfolding surveyed importing new_sheet add sub mul div of_int to_unsigned within
level = refl

two-marks : surveyed (some (ascii "1,0,0,0,\n2,10.5,20,-30.000,stud\n")) ≡ ascii "2309: [2]\n226380: [1]\nids = [1, 2]\nnitem = 2\nncontainer = 2\nndiv = [35, 66, 100]\n"
unfolding surveyed importing new_sheet insertion add sub mul div of_int to_unsigned within before same
two-marks = refl

-- standard input that cannot be read
not_read : surveyed none ≡ ascii "refused 13\n"
unfolding surveyed
not_read = refl
