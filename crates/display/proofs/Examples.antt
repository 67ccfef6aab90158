-- Document 01's sample, evaluated: marks 7 in two containers and 3 in one, on a sheet of 8 by 4.
use mathlib.Core.Path.{◌≡◌, refl}
use mathlib.Core.List.{List, [], ◌∷◌}
use Rattle.floats.specs.Rounded.{zero_f}
use Rattle.table.specs.declared.Row.{Row}
use Rattle.table.specs.Rows.{row_of}
use Rattle.text.specs.Text.{ascii}
use Rattle.std.specs.Prelude.{Some, None}
use Rattle.grid_search.specs.declared.GridSearch.{GridSearch}
use Rattle.display.specs.Display.{display_text}

sheet : GridSearch
sheet = record {
  ndim = 2;
  low = record { x = zero_f; y = zero_f; z = zero_f };
  high = record { x = zero_f; y = zero_f; z = zero_f };
  number = Some 8;
  tolerance = None;
  border_tol = None;
  ndiv = record { x = 8; y = 4; z = 1 };
  xmin = record { x = zero_f; y = zero_f; z = zero_f };
  xmax = record { x = zero_f; y = zero_f; z = zero_f };
  side_length = zero_f;
  tol_dist = zero_f;
  radius = zero_f;
}

rows : List Row
rows = row_of 1 7 zero_f zero_f zero_f ∷ row_of 2 7 zero_f zero_f zero_f ∷ row_of 19 3 zero_f zero_f zero_f ∷ []

sample : display_text sheet rows ≡ ascii "1: [7]\n2: [7]\n19: [3]\nids = [3, 7]\nnitem = 2\nncontainer = 3\nndiv = [8, 4]\n"
unfolding display_text sheet rows
sample = refl

empty : display_text sheet [] ≡ ascii "ids = []\nnitem = 0\nncontainer = 0\nndiv = [8, 4]\n"
unfolding display_text sheet
empty = refl
