-- The parts of the text, of what it shows of a library. Definitions only.
use Rattle.std.specs.Prelude.{ℕ, List, length}
use Rattle.table.specs.Rows.{Slot, slots_of}
use Rattle.text.specs.Text.{ascii, list_text}
use Rattle.display.specs.Display.{keys_in, ids_in, lines_of, named, summary, slots_text}
use Rattle.display.specs.declared.Contents.{Contents}

abbrev pub slots : Contents → List Slot
slots c = slots_of c.keys.now c.ids.now (length c.keys.now)

-- the lines of the containers in use, and how many there are
abbrev pub lines : Contents → List ℕ
lines c = lines_of (slots c) (keys_in (slots c))

abbrev pub containers : Contents → ℕ
containers c = length (keys_in (slots c))

-- lines of the summary
abbrev pub ids_line : Contents → List ℕ
ids_line c = named (ascii "ids") (list_text (ids_in (slots c)))

abbrev pub divisions_line : Contents → List ℕ
divisions_line c = named (ascii "ndiv") (list_text c.divisions.now)

-- the summary, and the whole text
abbrev pub summary_in : Contents → List ℕ
summary_in c = summary (slots c) c.divisions.now

abbrev pub text_in : Contents → List ℕ
text_in c = slots_text c.divisions.now (slots c)
