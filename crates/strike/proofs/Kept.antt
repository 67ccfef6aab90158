-- A striking that is accepted leaves a library that passes 24 and 13, in the same space.
-- Assumes nothing.
use Prim.Native.Nat.{ℕ, ◌+◌, ◌≤◌}
use native.Mathlib.Omega.{arith}
use mathlib.Core.Path.{◌≡◌, refl, sym, ap, ◌∙◌}
use mathlib.Core.Bool.{true}
use mathlib.Core.Option.{Option, none, some}
use mathlib.Core.List.{map}
use lib.ListN.{length}
use borrow.Author.Tests.{not-false}
use Rattle.std.specs.Prelude.{Result, Ok}
use Rattle.basics.specs.declared.Refusal.{Refusal}
use Rattle.basics.specs.Lists.{has}
use Rattle.basics.specs.Refusals.{fault, Answer, refused, success}
use Rattle.basics.proofs.Refusals.{unrefused, fault_left, fault-right}
use Rattle.grid_search.specs.declared.GridSearch.{GridSearch}
use Rattle.table.specs.Rows.{id_in, own, without}
use Rattle.table.specs.Library.{Library, table, write, blank, space, roomy}
use Rattle.table.proofs.Ids.{length_without, length_parts, sorted-without, all_without}
use Rattle.table.proofs.Libraries.{length-table, table-write, write-used, space_anew, roomy-table, roomy_fewer, room_for, layout_kept}
use Rattle.rows.specs.Damage.{good_row, library_tests}
use Rattle.rows.specs.Turn.{settle, Gives}
use Rattle.rows.proofs.Check.{Whole, whole, not-long, whole-passes}
use Rattle.rows.proofs.Kept.{settle_keeps}
use Rattle.strike.specs.Strike.{id_tests, strike_tests, striking, struck}

-- ---- a striking that is accepted

module _ (s : GridSearch) (l : Library) (i : ℕ) (q : fault (strike_tests s l i) ≡ none) where
  pub struck-library : fault (library_tests s l) ≡ none
  unfolding strike_tests
  struck-library = fault_left (library_tests s l) (id_tests i (table l)) q

  -- the id has a row
  pub struck-has : has i (map id_in (table l)) ≡ true
  unfolding strike_tests id_tests
  struck-has = not-false _ (unrefused (id_tests i (table l)) (sym (fault-right (library_tests s l) (id_tests i (table l)) struck-library) ∙ q)).0

  w : Whole s l
  w = whole s l struck-library

  struck-room : roomy (space l) (without i (table l)) ≡ true
  struck-room = roomy_fewer (space l) (table l) (without i (table l)) (length_without i (table l)) (roomy-table l w.layout)

  -- the library that it leaves
  abbrev after : Library
  after = write (without i (table l)) (blank l)

  pub struck-space : space after ≡ space l
  struck-space = space_anew (without i (table l)) l (room_for l w.layout (without i (table l)) struck-room)

  struck-whole : Whole s after
  struck-whole = record {
    sheet = w.sheet;
    layout = layout_kept l w.layout after struck-space (without i (table l)) (write-used (without i (table l)) (blank l)) struck-room;
    rows = rw table-write (all_without i (good_row s) (table l) w.rows);
    order = rw table-write (sorted-without i (table l) w.order);
  }

  pub struck-passes : fault (library_tests s after) ≡ none
  struck-passes = whole-passes s after (rw struck-space (not-long s l struck-library)) struck-whole

-- the rows that went and those that are left are the rows that were in use
pub struck-used : (l : Library) (i : ℕ) → (write (without i (table l)) (blank l)).used + length (own i (table l)) ≡ l.used
struck-used l i = omega (arith, write-used (without i (table l)) (blank l), length_parts i (table l), length-table l)

-- ---- whatever a striking answers

module _ (s : GridSearch) (l : Library) (i : ℕ) where
  pub striking-space : space (striking s l i).library ≡ space l
  unfolding striking
  striking-space = settle_keeps (λ (m : Library). space m ≡ space l) (fault (strike_tests s l i)) _ _ l (struck-space s l i) refl

  pub striking-passes : fault (library_tests s l) ≡ none → fault (library_tests s (striking s l i).library) ≡ none
  unfolding striking
  striking-passes v = settle_keeps (λ (m : Library). fault (library_tests s m) ≡ none) (fault (strike_tests s l i)) _ _ l (struck-passes s l i) v

-- ---- no more rows go than are in use: what is left is their difference

amount : Answer ℕ → ℕ
amount (refused n) = 0
amount (success n) = n

module _ (s : GridSearch) (l : Library) (i : ℕ) where
  at_most : amount (striking s l i).answer ≤ l.used
  unfolding amount striking settle
  at_most = go (fault (strike_tests s l i))
    where
      go : (o : Option ℕ) → amount (settle o (length (own i (table l))) (write (without i (table l)) (blank l)) l).answer ≤ l.used
      go none = omega (arith, struck-used l i)
      go (some n) = omega arith

  pub removed-at-most : {r : Result ℕ Refusal} {n : ℕ} {after : Library} → Gives (striking s l i) (struck r) after → r ≡ Ok n → n ≤ l.used
  unfolding amount
  removed-at-most g e = omega (arith, ap amount (sym (ap struck e) ∙ g.answers), at_most)
