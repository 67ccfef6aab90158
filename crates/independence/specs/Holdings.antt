-- A library with its directory, or without one. What is claimed of calls is said of both kinds at once: without a directory a call is answered by the definition of its function, with one by the
-- same definition through the directory (`filing`, `asking`, `filling`).
-- Assumes nothing.
use Rattle.std.specs.Prelude.{ℕ, Bool, ◌&&◌, ◌||◌, List, [], ltb, length, Float}
use Rattle.std.proofs.Math.Option.{Option, none, some}
use Rattle.basics.specs.Lists.{any}
use Rattle.basics.specs.Filled.{Filled}
use Rattle.basics.specs.Refusals.{Test, Answer}
use Rattle.grid_search.specs.declared.GridSearch.{GridSearch}
use Rattle.table.specs.declared.Row.{Row}
use Rattle.table.specs.Library.{Library, table, lengths, fits}
use Rattle.rows.specs.Damage.{library_tests}
use Rattle.rows.specs.Turn.{Turn}
use Rattle.search.specs.Search.{search_answer}
use Rattle.listing.specs.declared.Filter.{Filter}
use Rattle.listing.specs.Place.{Asked}
use Rattle.listing.specs.Listing.{listing}
use Rattle.directory.specs.Entries.{directory_of}
use Rattle.directory.specs.Directory.{Directory, places}
use Rattle.directory.specs.Calls.{directory_tests, filing, asking, filling}

pub record Holding : Type 0 where
  pub library : Library
  pub directory : Option Directory

-- without a directory, and with one
abbrev pub bare : Library → Holding
bare l = record { library = l; directory = none }

abbrev pub indexed : Library → Directory → Holding
indexed l d = record { library = l; directory = some d }

-- the rows in use
abbrev pub rows_in : Holding → List Row
rows_in h = table h.library

-- what was lent: the lengths of the rows' lists, and of the directory's where there is one
pub record Lent : Type 0 where
  pub rows : List ℕ
  pub places : List ℕ

unfoldable pub places_of : Option Directory → List ℕ
places_of none = []
places_of (some d) = places d

unfoldable pub lent : Holding → Lent
unfolding places_of
lent h = record { rows = lengths h.library; places = places_of h.directory }

-- a list holds more than 65,536 entries
unfoldable pub long_in : Lent → Bool
unfolding any
long_in z = any (λ (n : ℕ). ltb 65536 n) z.rows || any (λ (n : ℕ). ltb 65536 n) z.places

-- these rows have room, and so has their directory where there is one
unfoldable pub roomy_in : Lent → List Row → Bool
unfolding fits directory_of
roomy_in z rows = fits z.rows (length rows) && fits z.places (length (directory_of rows))

-- how many places of the directory are in use
unfoldable pub places_used : Option Directory → ℕ
places_used none = 0
places_used (some d) = d.used

-- what turns every call away, whatever it asks: 24, 13, and with a directory 29
unfoldable pub tests_by : GridSearch → Library → Option Directory → List Test
unfolding library_tests directory_tests
tests_by s l none = library_tests s l
tests_by s l (some d) = directory_tests s l d

unfoldable pub holding_tests : GridSearch → Holding → List Test
unfolding tests_by
holding_tests s h = tests_by s h.library h.directory

-- ---- what a call answers and leaves

pub record Held : Type 0 where
  pub holding : Holding
  pub answer : Answer ℕ

-- a change, which without a directory answers and leaves t
unfoldable pub held_by : GridSearch → Library → Option Directory → Turn ℕ → Held
unfolding filing
held_by s l none t = record { holding = bare t.library; answer = t.answer }
held_by s l (some d) t = let f = filing s l d t in record { holding = indexed f.library f.directory; answer = f.answer }

-- a search
unfoldable pub found_by : GridSearch → Library → Option Directory → List Float → Answer (Option ℕ)
unfolding asking search_answer
found_by s l none x = search_answer s l x
found_by s l (some d) x = asking s l d (search_answer s l x)

unfoldable pub searching : GridSearch → Holding → List Float → Answer (Option ℕ)
unfolding found_by
searching s h x = found_by s h.library h.directory x

-- a listing
unfoldable pub listed_by : GridSearch → Library → Option Directory → Asked → Filter → List ℕ → Filled
unfolding filling listing
listed_by s l none p f list = listing s l p f list
listed_by s l (some d) p f list = filling s l d list (listing s l p f list)

unfoldable pub listing_in : GridSearch → Holding → Asked → Filter → List ℕ → Filled
unfolding listed_by
listing_in s h p f list = listed_by s h.library h.directory p f list
