-- What `display` and `put_refusal` leave in the buffer is the text, at its front.
-- Assumes nothing.
use Prim.Native.Nat.{ℕ, ◌^◌, ◌≤◌, ◌<◌}
use native.Mathlib.Omega.{arith}
use mathlib.Core.Path.{◌≡◌, refl, sym, ◌∙◌}
use mathlib.Core.Option.{Option, none, some, some-ne-none}
use mathlib.Core.List.{List, [], ◌∷◌, ◌++◌}
use lib.Dec.{ltb}
use lib.ListN.{length, get_or}
use borrow.Author.Tests.{le-ltb}
use Rattle.std.specs.Prelude.{Ok, Err}
use Rattle.basics.specs.Refusals.{Test, refuse, fault}
use Rattle.basics.specs.Answers.{refusal_number}
use Rattle.basics.specs.declared.Refusal.{Refusal}
use Rattle.basics.proofs.Refusals.{fault_left, fault-right, fault_stop}
use Rattle.basics.proofs.Filled.{fill-success, fill-refused}
use Rattle.grid_search.specs.declared.GridSearch.{GridSearch}
use Rattle.table.specs.Library.{Library, table}
use Rattle.rows.specs.Damage.{library_tests}
use Rattle.rows.proofs.Check.{whole, in_order}
use Rattle.text.specs.Text.{refusal, Front}
use Rattle.text.proofs.Laws.{over-front}
use Rattle.display.specs.Display.{display_text, display_tests, showing, Shows, IsShort}
use Rattle.display.proofs.Answers.{is_short}
use Rattle.outcome.specs.Outcome.{text_or, library_text}

module _ (s : GridSearch) (l : Library) (buffer exit : List ℕ) where
  abbrev text : List ℕ
  text = display_text s (table l)

  abbrev room : List Test
  room = refuse 14 (ltb (length buffer) (length (display_text s (table l)))) ∷ []

  -- a length: the text of a library that is not damaged
  pub shown-length : (n : ℕ) → Shows (showing s l buffer) (Ok n) exit → Front (library_text s l) exit n
  unfolding showing display_tests library_text text_or
  shown-length n h =
      let p = fill-success text buffer n (fault (display_tests s l (length buffer))) (sym h.answers) in
      let good : fault (library_tests s l) ≡ none = fault_left (library_tests s l) room p.0 in
      rw good (over-front text buffer exit n (h.buffer_is ∙ p.1) p.2)

  damaged : (o : Option ℕ) (n : ℕ) → fault (library_tests s l) ≡ o → (fault (library_tests s l) ≡ none → length text ≤ length buffer) → fault (library_tests s l ++ room) ≡ some n → o ≡ some n
  unfolding fault
  damaged none n e fits f =
      let none_left : fault room ≡ some n = sym (fault-right (library_tests s l) room e) ∙ f in
      absurd (some-ne-none n (sym (rw (le-ltb (length buffer) (length text) (fits e)) at none_left)))
  damaged (some m) n e fits f = sym (fault_stop (library_tests s l) room m e) ∙ f

  -- a refusal, where the text would fit: that of a library that is damaged
  pub shown-refused : (e : Refusal) → (fault (library_tests s l) ≡ none → length text ≤ length buffer) → Shows (showing s l buffer) (Err e) exit → library_text s l ≡ refusal (refusal_number e ∷ [])
  unfolding showing display_tests library_text text_or
  shown-refused e fits h =
      rw (damaged (fault (library_tests s l)) (refusal_number e) refl fits
      (fill-refused text buffer (refusal_number e) (fault (display_tests s l (length buffer))) (sym h.answers)))

-- the text of so few rows fits, where it is short
pub short_fits : (s : GridSearch) (l : Library) → IsShort s l → length l.keys ≤ 1024 → fault (library_tests s l) ≡ none → length (display_text s (table l)) ≤ 70804
short_fits s l short h e = let room = (in_order (whole s l e)).room in omega (arith, short e, room.0, h)

-- and short it is: a row takes at most 69 bytes, and the summary 148
pub text_fits : (s : GridSearch) (l : Library) → ((i : ℕ) → get_or l.keys i 0 < 2 ^ 64) → ((i : ℕ) → get_or l.ids i 0 < 2 ^ 64) → length l.keys ≤ 1024
    → fault (library_tests s l) ≡ none → length (display_text s (table l)) ≤ 70804
text_fits s l k i h e = short_fits s l (is_short s l k i) h e
