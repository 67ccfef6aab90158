-- The outcome's text is what the definition prints: a library that took all the marks is not damaged.
-- Assumes nothing.
use Prim.Native.Nat.{ℕ}
use mathlib.Core.Path.{◌≡◌, refl, sym, ap, ◌∙◌, subst}
use mathlib.Core.Bool.{true}
use mathlib.Core.Option.{Option, none, some}
use mathlib.Core.List.{List}
use Rattle.std.specs.Prelude.{Float, Result, Ok, Err}
use Rattle.basics.specs.Refusals.{Answer, refused, success, fault}
use Rattle.basics.specs.declared.Refusal.{Refusal}
use Rattle.grid_search.specs.declared.GridSearch.{GridSearch}
use Rattle.grid_search.specs.Sheet.{sheet_ok}
use Rattle.table.specs.Library.{Library, library, table, space, level, too_long}
use Rattle.rows.specs.Damage.{library_tests}
use Rattle.rows.specs.Turn.{Turn}
use Rattle.rows.specs.Insert.{inserted}
use Rattle.rows.proofs.Kept.{empty_passes}
use Rattle.text.specs.Text.{Front}
use Rattle.display.specs.Display.{display_text}
use Rattle.records.specs.declared.Record.{Record}
use Rattle.loading.specs.Loading.{insert_one, insert_all, insert_bytes, Inserts}
use Rattle.loading.proofs.InOrder.{all_sound, one-sound}
use Rattle.loading.proofs.Marks.{bytes-sound}
use Rattle.outcome.specs.Outcome.{text_or, library_text, outcome_text, empty_library, after_marks, after_sheet}

-- a library with space and no row passes its tests
pub empty_good : (s : GridSearch) → sheet_ok s ≡ true → fault (library_tests s empty_library) ≡ none
unfolding empty_library level space too_long
empty_good s good = empty_passes s empty_library good refl refl refl

shown : (s : GridSearch) (l : Library) → fault (library_tests s l) ≡ none → library_text s l ≡ display_text s (table l)
unfolding library_text text_or
shown s l e = ap (λ (o : Option ℕ). text_or o (display_text s (table l))) e

-- ---- what is put once marks were inserted is what the definition prints of them

-- of a turn after which, where all marks were taken, the library passes its tests
abbrev pub Sound : GridSearch → Turn ℕ → Type 0
Sound s t = (n : ℕ) → t.answer ≡ success n → fault (library_tests s t.library) ≡ none

module _ (s : GridSearch) (t : Turn ℕ) (sound : Sound s t) (l : Library) where
  outcome : (r : Result ℕ Refusal) → Inserts t r l → outcome_text s l (inserted r) ≡ after_marks s t (inserted r)
  unfolding outcome_text after_marks
  outcome (Err e) g = refl
  outcome (Ok n) g = ap (library_text s) g.library-is ∙ shown s t.library (sound n (sym g.answers))

  pub of_turn : (r : Result ℕ Refusal) → Inserts t r l → outcome_text s l (inserted r) ≡ after_marks s t t.answer
  of_turn r g = outcome r g ∙ ap (after_marks s t) g.answers

-- what is put of five lists and a count that a library has is put of the library
pub of_lists : {keys ids : List ℕ} {xs ys zs : List Float} {used : ℕ} (s : GridSearch) (a : Answer ℕ) (text : List ℕ) (n : ℕ) (l : Library)
    → Front (outcome_text s (library keys ids xs ys zs used) a) text n → keys ≡ l.keys → ids ≡ l.ids → xs ≡ l.xs → ys ≡ l.ys → zs ≡ l.zs → used ≡ l.used → Front (outcome_text s l a) text n
of_lists s a text n l f k i x y z u = subst (λ (m : Library). Front (outcome_text s m a) text n) (λ j. library (k j) (i j) (x j) (y j) (z j) (u j)) f

-- marks one after the other
pub marks-sound : (s : GridSearch) → sheet_ok s ≡ true → (marks : List Record) → Sound s (insert_all (insert_one s) empty_library marks)
marks-sound s good marks n e = all_sound (insert_one s) s (one-sound s) empty_library (empty_good s good) marks

-- ---- the files of the catalogue

module _ (s : GridSearch) (good : sheet_ok s ≡ true) (bytes : List ℕ) (l : Library) where
  abbrev turn : Turn ℕ
  turn = insert_bytes 32 s empty_library bytes

  pub same_text : (r : Result ℕ Refusal) → Inserts turn r l → outcome_text s l (inserted r) ≡ after_sheet (success s) (some bytes)
  unfolding after_sheet
  same_text r g = of_turn s turn (bytes-sound 32 s empty_library (empty_good s good) bytes) l r g

-- that cannot be read
pub unread : (s : GridSearch) (l : Library) (r : Result ℕ Refusal) → inserted r ≡ refused 13 → outcome_text s l (inserted r) ≡ after_sheet (success s) none
unfolding outcome_text after_sheet
unread s l r e = rw e
