-- The check of a library: what passes it, and a law for each way out of the code.
-- Assumes nothing.
use Prim.Native.Nat.{ℕ, ◌≤◌}
use mathlib.Core.Path.{◌≡◌, refl, sym, ap, ◌∙◌}
use mathlib.Core.Logic.{⊎_elim}
use mathlib.Core.Bool.{Bool, true, false, ◌&&◌, and-true, and-false}
use mathlib.Core.List.{map}
use mathlib.Core.Option.{none}
use lib.Dec.{ltb}
use borrow.Author.Tests.{not-false}
use Rattle.basics.proofs.Bools.{both, and_both}
use Rattle.basics.specs.Lists.{all}
use Rattle.basics.specs.Refusals.{fault, Answer, answer, refused, success}
use Rattle.basics.proofs.Refusals.{unrefused, passed}
use Rattle.geometry.specs.Position.{coordinate, dimension}
use Rattle.geometry.proofs.Axes.{two_or_three}
use Rattle.grid.specs.Containers.{containers}
use Rattle.grid.specs.Divisions.{counts, divisions_of}
use Rattle.grid.proofs.InUse.{few-containers}
use Rattle.grid_search.specs.declared.GridSearch.{GridSearch}
use Rattle.grid_search.specs.Sheet.{sheet_ok}
use Rattle.grid_search.proofs.Good.{good}
use Rattle.table.specs.declared.Row.{Row}
use Rattle.table.specs.Rows.{slot_of, key_in, x_in, y_in, z_in, sorted}
use Rattle.table.specs.Library.{Library, table, space, too_long, sound_layout}
use Rattle.table.specs.Posts.{InOrder}
use Rattle.table.proofs.Libraries.{room-used}
use Rattle.rows.specs.Check.{Walk, walk, check_tests, checking}
use Rattle.rows.specs.Damage.{good_row, sound_rows, sound, library_tests}
use Rattle.rows.specs.Posts.{plus_zero, good_in, Divided, Checked}
use Rattle.rows.proofs.Walks.{walk_same}

-- ---- a row by itself, as the code tests it

pub good-split : (s : GridSearch) → dimension s.ndim ≡ true → (r : Row) → good_row s r ≡ good_in s.ndim (containers (counts s.ndim s.ndiv)) r
unfolding good_row all
good-split s d r =
    ⊎_elim (λ e. rw e (flat (ltb (key_in r) (containers (counts 2 s.ndiv))) (coordinate (x_in r)) (coordinate (y_in r)) (plus_zero (z_in r))))
    (λ e. rw e (solid (ltb (key_in r) (containers (counts 3 s.ndiv))) (coordinate (x_in r)) (coordinate (y_in r)) (coordinate (z_in r))))
    (two_or_three s.ndim d)
  where
    flat : (k x y z : Bool) → (k && ((x && (y && true)) && z)) ≡ (z && (k && (x && y)))
    flat false x y z = sym (and-false z)
    flat true false y z = sym (and-false z)
    flat true true false z = sym (and-false z)
    flat true true true z = sym (and-true z)

    solid : (k x y z : Bool) → (k && ((x && (y && (z && true))) && true)) ≡ (z && (k && (x && y)))
    solid false x y z = sym (and-false z)
    solid true false y z = sym (and-false z)
    solid true true false z = sym (and-false z)
    solid true true true false = refl
    solid true true true true = refl

-- there are no more than 2 ^ 30 containers
pub most-containers : (s : GridSearch) → Divided s → containers (counts s.ndim s.ndiv) ≤ 1073741824
most-containers s d = few-containers s.ndim d.axes s.ndiv (divisions_of (counts s.ndim s.ndiv)) refl d.divisions

-- ---- a library that passes 13, part by part

pub record Whole (s : GridSearch) (l : Library) : Type 0 where
  pub sheet : sheet_ok s ≡ true
  pub layout : sound_layout l ≡ true
  pub rows : all (good_row s) (table l) ≡ true
  pub order : sorted (map slot_of (table l)) ≡ true

pub together : (s : GridSearch) (l : Library) → Whole s l → sound s l ≡ true
unfolding sound sound_rows
together s l w = both w.sheet (both w.layout (both w.rows w.order))

-- a library that 24 and 13 let pass is whole
module _ (s : GridSearch) (l : Library) (e : fault (library_tests s l) ≡ none) where
  pub not-long : too_long (space l) ≡ false
  unfolding library_tests
  not-long = (unrefused (library_tests s l) e).0

  pub whole : Whole s l
  unfolding library_tests sound sound_rows
  whole =
      let a = and_both (sheet_ok s) _ (not-false _ (unrefused (library_tests s l) e).1.0) in
      let b = and_both (sound_layout l) _ a.1 in
      let c = and_both (all (good_row s) (table l)) _ b.1 in
      record { sheet = a.0; layout = b.0; rows = c.0; order = c.1 }

pub whole-passes : (s : GridSearch) (l : Library) → too_long (space l) ≡ false → Whole s l → fault (library_tests s l) ≡ none
unfolding library_tests
whole-passes s l t w = passed (library_tests s l) (t, (rw (together s l w), tt))

-- what the functions below ask

pub divided : (s : GridSearch) → sheet_ok s ≡ true → Divided s
divided s e = let g = good s e in record { axes = g.axes; divisions = g.divisions }

module _ {s : GridSearch} {l : Library} (w : Whole s l) where
  pub checked : Checked s l
  checked = record { sheet = divided s w.sheet; room = room-used l w.layout }

  pub in_order : InOrder l
  in_order = record { room = room-used l w.layout; order = w.order }

-- ---- the check, in the code's order

module _ (s : GridSearch) (l : Library) where
  pub is-long : too_long (space l) ≡ true → refused 24 ≡ checking s l
  unfolding checking check_tests fault answer
  is-long e = rw e

  module _ (e : too_long (space l) ≡ false) where
    unsound : (sheet_ok s && sound_layout l) ≡ false → refused 13 ≡ checking s l
    unfolding checking check_tests fault answer
    unsound f = rw (e, f)

    pub no_sheet : sheet_ok s ≡ false → refused 13 ≡ checking s l
    no_sheet f = unsound (rw f)

    pub no_layout : sound_layout l ≡ false → refused 13 ≡ checking s l
    no_layout f = unsound (rw (f, and-false))

    module _ (f : sheet_ok s ≡ true) (g : sound_layout l ≡ true) where
      pub told : success (walk (good_row s) (table l)) ≡ checking s l
      unfolding checking check_tests fault answer
      told = rw (e, f, g)

      -- a walk by the tests that the code makes
      pub walks : {count : ℕ} {r : Answer Walk} → count ≡ containers (counts s.ndim s.ndiv) → r ≡ success (walk (good_in s.ndim count) (table l)) → r ≡ checking s l
      walks {count} c w = w ∙ ap success (walk_same (good_in s.ndim count) (good_row s) same (table l)) ∙ told
        where
          same : (r : Row) → good_in s.ndim count r ≡ good_row s r
          same r = rw c (sym (good-split s (divided s f).axes r))
