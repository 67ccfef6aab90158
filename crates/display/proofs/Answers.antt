-- The answers, by the tests that led to them.
-- Assumes nothing.
use Prim.Native.Nat.{ℕ, ◌^◌, ◌≤◌, ◌<◌}
use native.Mathlib.Omega.{arith}
use mathlib.Core.Path.{◌≡◌, refl, sym, ap}
use mathlib.Core.Bool.{true}
use mathlib.Core.Option.{Option, none, some}
use mathlib.Core.List.{List, [], ◌∷◌}
use lib.Dec.{ltb}
use lib.ListN.{length, get_or}
use borrow.Author.Tests.{lt-ltb, le-ltb, ltb-false}
use Rattle.std.specs.Prelude.{Result, Ok, Err}
use Rattle.basics.proofs.Bools.{or_left}
use Rattle.basics.specs.Lists.{any, over}
use Rattle.basics.specs.Filled.{fill}
use Rattle.basics.specs.Refusals.{Test, refuse, fault, success}
use Rattle.basics.specs.Answers.{refusal_number}
use Rattle.basics.specs.declared.Refusal.{Refusal}
use Rattle.basics.specs.declared.Refusal.TheVariants.{Short}
use Rattle.basics.proofs.Answers.{Raised, raised_answer}
use Rattle.basics.proofs.Refusals.{unrefused, fault_stop, fault-right}
use Rattle.grid.specs.Divisions.{division, counts}
use Rattle.grid.proofs.Bounds.{in_range}
use Rattle.grid_search.specs.declared.GridSearch.{GridSearch}
use Rattle.geometry.specs.Position.{dimension}
use Rattle.geometry.proofs.Axes.{few-axes, for_axes}
use Rattle.table.specs.Rows.{slots_of}
use Rattle.table.specs.Posts.{Ordered}
use Rattle.table.proofs.Libraries.{slots_table, ordered}
use Rattle.rows.proofs.Check.{whole, in_order, divided}
use Rattle.table.specs.Library.{Library, table, too_long, space}
use Rattle.rows.specs.Damage.{library_tests}
use Rattle.display.specs.Display.{slots_text, display_text, display_tests, showing, Shows, IsShort}
use Rattle.display.specs.Posts.{fitted}
use Rattle.display.proofs.Kept.{all_weaker}
use Rattle.display.proofs.Bounds.{word, whole_most}

pub too_short : (text buffer exit : List ℕ) → length buffer < length text → exit ≡ buffer → Shows (fitted text buffer) (Err Short) exit
unfolding fault fill
too_short text buffer exit h e = record { answers = rw (lt-ltb (length buffer) (length text) h); buffer_is = rw (lt-ltb (length buffer) (length text) h) e }

pub fits : (text buffer exit : List ℕ) (n : ℕ) → length text ≤ length buffer → n ≡ length text → exit ≡ over text buffer → Shows (fitted text buffer) (Ok n) exit
unfolding fault fill
fits text buffer exit n h c e = record { answers = rw (le-ltb (length buffer) (length text) h) (ap success c); buffer_is = rw (le-ltb (length buffer) (length text) h) e }

-- ---- the call: 24, 13, and then the text

module _ (s : GridSearch) (l : Library) (buffer : List ℕ) where
  last_test : List Test
  last_test = refuse 14 (ltb (length buffer) (length (display_text s (table l)))) ∷ []

  pub refused_library : (e : Refusal) (r : Result ℕ Refusal) → some (refusal_number e) ≡ fault (library_tests s l) → Raised e r → Shows (showing s l buffer) r buffer
  unfolding showing display_tests fill last_test
  refused_library e r h k =
      let stops : fault (display_tests s l (length buffer)) ≡ some (refusal_number e) = fault_stop (library_tests s l) last_test (refusal_number e) (sym h) in
      record { answers = rw stops (raised_answer (λ n. n) e r k); buffer_is = rw stops }

  pub past_library : fault (library_tests s l) ≡ none → showing s l buffer ≡ fitted (display_text s (table l)) buffer
  unfolding showing display_tests last_test
  past_library e = ap (λ (o : Option ℕ). fill o (display_text s (table l)) buffer) (fault-right (library_tests s l) last_test e)

-- ---- what is known of a library that passes 24 and 13

module _ (s : GridSearch) (l : Library) (e : fault (library_tests s l) ≡ none) where
  pub axes : dimension s.ndim ≡ true
  axes = (divided s (whole s l e).sheet).axes

  pub in_turn : Ordered l.keys l.ids l.used
  in_turn = ordered (in_order (whole s l e))

  -- no list is longer than 65,536
  pub few : length l.keys ≤ 65536
  unfolding library_tests too_long space any
  few = ltb-false 65536 (length l.keys) (or_left _ _ (unrefused (library_tests s l) e).0)

pub text_of_slots : (s : GridSearch) (l : Library) → display_text s (table l) ≡ slots_text (counts s.ndim s.ndiv) (slots_of l.keys l.ids l.used)
unfolding display_text
text_of_slots s l = ap (slots_text (counts s.ndim s.ndiv)) (slots_table l)

-- ---- how long the text is

-- a row of numbers below 2^64 takes at most 69 bytes, and the summary 148
pub is_short : (s : GridSearch) (l : Library) → ((i : ℕ) → get_or l.keys i 0 < 2 ^ 64) → ((i : ℕ) → get_or l.ids i 0 < 2 ^ 64) → IsShort s l
is_short s l k i e =
    let w = whole s l e in
    let d = divided s w.sheet in
    let n : length (counts s.ndim s.ndiv) ≡ s.ndim = for_axes (λ n. length (counts n s.ndiv) ≡ n) refl refl s.ndim d.axes in
    let numbers = all_weaker division word (counts s.ndim s.ndiv) (λ v f. lt-ltb v (2 ^ 64) (omega (arith, (in_range v f).most))) d.divisions in
    rw (text_of_slots s l)
    (whole_most (counts s.ndim s.ndiv) l.keys l.ids l.used numbers (λ j. record { fits = k j }) (λ j. record { fits = i j }) (omega (arith, n, (few-axes s.ndim d.axes).1))
    (omega (arith, (in_order w).room.0, few s l e)))
