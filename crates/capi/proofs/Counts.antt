-- The used counts of what a call changes: the call's answer tells a count, or a refusal leaves it;
-- and a call that does not read a count leaves the same lists whatever it is.
-- Assumes nothing.
use Prim.Native.Nat.{ℕ}
use native.Mathlib.Omega.{arith}
use mathlib.Core.Path.{◌≡◌, refl, sym, ap, ◌∙◌}
use mathlib.Core.Bool.{Bool, true, false, cond}
use mathlib.Core.Option.{Option, none, some}
use mathlib.Core.List.{List, map}
use lib.ListN.{length}
use lib.Ieee.{Float}
use Rattle.std.specs.Prelude.{Result, Ok, Err, is_ok}
use Rattle.basics.proofs.Bools.{clash}
use Rattle.basics.specs.declared.Refusal.{Refusal}
use Rattle.basics.specs.Refusals.{Answer, refused, success, fault}
use Rattle.grid_search.specs.declared.GridSearch.{GridSearch}
use Rattle.table.specs.declared.Row.{Row}
use Rattle.table.specs.Rows.{without, own}
use Rattle.table.specs.Library.{Library, table, write, blank}
use Rattle.rows.specs.Turn.{Turn, settle, Gives}
use Rattle.rows.specs.Insert.{insertion, insert_tests, inserted, rows_with}
use Rattle.strike.specs.Strike.{striking, struck, strike_tests}
use Rattle.directory.specs.Directory.{Directory, directory, file, roomy_places}
use Rattle.directory.specs.Entries.{directory_of}
use Rattle.directory.specs.Calls.{Filed, filed_by, filed_unless, unfiled, filing, GivesBoth, directory_tests}
use Rattle.directory.specs.Calls.{unused, build_tests, Building, built_by, building, built, Builds}
use Rattle.mark_lists.specs.MarkLists.{MarkList, mark_list, write_marks, too_many, same_lengths, holds}
use Rattle.records.specs.declared.Record.{Record}
use Rattle.lines.specs.Lines.{lines}
use Rattle.survey_import.specs.Marks.{mark_of, bad_line}
use Rattle.survey_import.specs.declared.ImportError.{ImportError}
use Rattle.survey_import.specs.Import.{Import, import_tests, settle_import, import_lines, importing, imported, Imports}
use Rattle.capi.specs.Answers.{written}

-- ---- a refused call leaves what it was handed

-- no refusal is a success
other : {A : Type 0} {n a : ℕ} → refused n ≡ success a → A
other {A} {n} {a} e = let z : ◌≡◌ {A = ℕ} 0 1 = cc in absurd (omega arith)

settle_stays : (o : Option ℕ) (a : ℕ) (new old : Library) {n : ℕ}
    → refused n ≡ (settle o a new old).answer → (settle o a new old).library ≡ old
unfolding settle
settle_stays none a new old e = other e
settle_stays (some m) a new old e = refl

pub striking_stays : (s : GridSearch) (l : Library) (i : ℕ) {n : ℕ}
    → refused n ≡ (striking s l i).answer → (striking s l i).library ≡ l
unfolding striking
striking_stays s l i e =
    settle_stays (fault (strike_tests s l i)) (length (own i (table l))) (write (without i (table l)) (blank l)) l e

-- with a directory
pub filing_stays : (s : GridSearch) (l : Library) (d : Directory) (t : Turn ℕ) {n : ℕ}
    → refused n ≡ (filing s l d t).answer → ((filing s l d t).library ≡ l) × ((filing s l d t).directory ≡ d)
unfolding filing filed_unless filed_by
filing_stays s l d t {n} = past (fault (directory_tests s l d))
  where
    Left : Filed ℕ → Type 0
    Left f = refused n ≡ f.answer → (f.library ≡ l) × (f.directory ≡ d)

    roomy : (b : Bool) (a : ℕ) (new : Library)
        → Left (cond b (record { library = new; directory = file (directory_of (table new)) d; answer = success a }) (unfiled 12 l d))
    roomy true a new e = other e
    roomy false a new e = (refl, refl)

    by : (a : Answer ℕ) (new : Library) → Left (filed_by l d a new)
    by (refused m) new e = (refl, refl)
    by (success a) new e = roomy (roomy_places d (table new)) a new e

    past : (o : Option ℕ) → Left (filed_unless o l d t)
    past none e = by t.answer t.library e
    past (some m) e = (refl, refl)

-- ---- an accepted insertion answers the rows in use

settle-used : (o : Option ℕ) (rows : List Row) (l : Library)
    → written (settle o (length rows) (write rows l) l).answer l.used ≡ (settle o (length rows) (write rows l) l).library.used
unfolding settle write
settle-used none rows l = refl
settle-used (some n) rows l = refl

pub insertion-used : (s : GridSearch) (l : Library) (i : ℕ) (x : List Float)
    → written (insertion s l i x).answer l.used ≡ (insertion s l i x).library.used
unfolding insertion
insertion-used s l i x = settle-used (fault (insert_tests s l i x)) (rows_with s i x (table l)) l

-- with a directory: what holds of the call without one
pub filing-used : (s : GridSearch) (l : Library) (d : Directory) (t : Turn ℕ)
    → written t.answer l.used ≡ t.library.used → written (filing s l d t).answer l.used ≡ (filing s l d t).library.used
unfolding filing filed_unless filed_by
filing-used s l d t = past (fault (directory_tests s l d))
  where
    Told : Filed ℕ → Type 0
    Told f = written f.answer l.used ≡ f.library.used

    roomy : (b : Bool) (a : ℕ) (new : Library) → a ≡ new.used
        → Told (cond b (record { library = new; directory = file (directory_of (table new)) d; answer = success a }) (unfiled 12 l d))
    roomy true a new e = e
    roomy false a new e = refl

    by : (a : Answer ℕ) (new : Library) → written a l.used ≡ new.used → Told (filed_by l d a new)
    by (refused m) new e = refl
    by (success a) new e = roomy (roomy_places d (table new)) a new e

    past : (o : Option ℕ) → written t.answer l.used ≡ t.library.used → Told (filed_unless o l d t)
    past none e = by t.answer t.library e
    past (some m) e = refl

-- ---- a build does not read the used count: an accepted one answers the places in use

-- what a build answers and leaves, with the count that is told of it
abbrev told_build : Building → ℕ → Building
told_build b old = record {
  directory = directory b.directory.keys b.directory.firsts b.directory.counts (written b.answer old);
  answer = b.answer;
}

built_by-used : (o : Option ℕ) (l : Library) (d : Directory) → built_by o l d ≡ told_build (built_by o l (unused d)) d.used
unfolding built_by file
built_by-used none l d = refl
built_by-used (some n) l d = refl

pub building-used : (s : GridSearch) (l : Library) (d : Directory) → building s l d ≡ told_build (building s l (unused d)) d.used
unfolding building build_tests roomy_places
building-used s l d = built_by-used (fault (build_tests s l d)) l d

-- ---- nor does an import

-- the lists with no mark in use: what an import is handed
abbrev pub no_marks : MarkList → MarkList
no_marks l = mark_list l.ids l.xs l.ys l.zs 0

-- what an import answers and leaves, with the count that is told of it
abbrev told_import : Import → ℕ → Import
told_import i old = record {
  lists = mark_list i.lists.ids i.lists.xs i.lists.ys i.lists.zs (written i.answer old);
  answer = i.answer;
  line = i.line;
}

settle_import-used : (o : Option ℕ) (line : ℕ) (marks : List Record) (l : MarkList)
    → settle_import o line (write_marks marks l) l
    ≡ told_import (settle_import o line (write_marks marks (no_marks l)) (no_marks l)) l.used
unfolding settle_import write_marks
settle_import-used none line marks l = refl
settle_import-used (some n) line marks l = refl

pub importing-used : (l : MarkList) (text : List ℕ) → importing l text ≡ told_import (importing (no_marks l) text) l.used
unfolding importing import_lines import_tests too_many same_lengths holds
importing-used l text =
    let found = lines text in settle_import-used (fault (import_tests l found)) (bad_line found) (map mark_of found) l

-- ---- the same of what the code answers, r, and leaves

-- an insertion answers the rows in use, or leaves as many
pub insertion_told : (s : GridSearch) (l : Library) (i : ℕ) (x : List Float) (r : Result ℕ Refusal) (after : Library)
    → Gives (insertion s l i x) (inserted r) after → written (inserted r) l.used ≡ after.used
insertion_told s l i x r after g =
    ap (λ (a : Answer ℕ). written a l.used) g.answers ∙ insertion-used s l i x ∙ ap (λ (m : Library). m.used) (sym g.library-is)

-- a refused striking leaves the rows in use
pub striking_left : (s : GridSearch) (l : Library) (i : ℕ) (r : Result ℕ Refusal) (after : Library)
    → Gives (striking s l i) (struck r) after → is_ok r ≡ false → after.used ≡ l.used
striking_left s l i (Ok n) after g f = clash refl f
striking_left s l i (Err e) after g f = ap (λ (m : Library). m.used) (g.library-is ∙ striking_stays s l i g.answers)

-- with a directory
pub filing_told : (s : GridSearch) (l : Library) (d : Directory) (i : ℕ) (x : List Float)
    (r : Result ℕ Refusal) (after : Library) (left : Directory)
    → GivesBoth (filing s l d (insertion s l i x)) (inserted r) after left → written (inserted r) l.used ≡ after.used
filing_told s l d i x r after left g =
    ap (λ (a : Answer ℕ). written a l.used) g.answers
    ∙ filing-used s l d (insertion s l i x) (insertion-used s l i x) ∙ ap (λ (m : Library). m.used) (sym g.library-is)

pub filing_left : (s : GridSearch) (l : Library) (d : Directory) (t : Turn ℕ)
    (r : Result ℕ Refusal) (after : Library) (left : Directory)
    → GivesBoth (filing s l d t) (inserted r) after left → is_ok r ≡ false → (after.used ≡ l.used) × (left.used ≡ d.used)
filing_left s l d t (Ok n) after left g f = clash refl f
filing_left s l d t (Err e) after left g f =
    let h = filing_stays s l d t g.answers in
    (ap (λ (m : Library). m.used) (g.library-is ∙ h.0), ap (λ (m : Directory). m.used) (g.directory-is ∙ h.1))

-- a build of the directory with no place in use is that of any
pub building_told : (s : GridSearch) (l : Library) (d : Directory) (r : Result ℕ Refusal) (after : Directory)
    → Builds (building s l (unused d)) (built r) after
    → Builds (building s l d) (built r) (directory after.keys after.firsts after.counts (written (built r) d.used))
building_told s l d r after g =
    rw (building-used s l d, ← g.answers, ← g.directory-is) (record { answers = refl; directory-is = refl })

-- an import into no marks is that into any
pub importing_told : (l : MarkList) (text : List ℕ) (r : Result ℕ ImportError) (after : MarkList)
    → Imports (importing (no_marks l) text) r after
    → Imports (importing l text) r (mark_list after.ids after.xs after.ys after.zs (written (imported r) l.used))
importing_told l text r after g =
    rw (importing-used l text, ← g.answers, ← g.line-is, ← g.lists-are)
    (record { answers = refl; line-is = refl; lists-are = refl })
