-- An insertion that is accepted leaves a library that passes 24 and 13, in the same space.
-- Assumes nothing.
use Prim.Native.Nat.{ℕ, ◌<◌, ◌≤◌, zero-le}
use native.Mathlib.Omega.{arith}
use native.Mathlib.Nat.{one-le-mul}
use mathlib.Core.Path.{◌≡◌, refl, sym, ap, ◌∙◌}
use mathlib.Core.Logic.{◌⊎◌, inl, inr}
use mathlib.Core.Bool.{Bool, true, false, ◌&&◌, ◌||◌, or-false}
use mathlib.Core.Option.{Option, none, some}
use mathlib.Core.List.{List, [], ◌∷◌, ◌++◌, map}
use lib.Dec.{ltb, leb, eqb}
use lib.ListN.{length}
use lib.Ieee.{Float}
use borrow.Author.Tests.{leb-true, le-leb, lt-ltb, eqb-true, not-false}
use Rattle.basics.proofs.Bools.{both, and_both, and_left, or_left, or_right}
use Rattle.basics.specs.Lists.{all, any, zip_with}
use Rattle.basics.specs.Refusals.{fault}
use Rattle.basics.proofs.Refusals.{unrefused, fault_left, fault-right}
use Rattle.floats.specs.Rounded.{zero_f}
use Rattle.floats.specs.Tests.{same_bits}
use Rattle.geometry.specs.Position.{coords, position_of, coordinate}
use Rattle.geometry.proofs.Axes.{two_or_three, coords_of}
use Rattle.grid.specs.Divisions.{counts, division}
use Rattle.grid.specs.Containers.{ratios, exceed, inner, combine, key_of, containers}
use Rattle.grid.proofs.Keys.{digit-below, indices-below}
use Rattle.grid_search.specs.declared.GridSearch.{GridSearch}
use Rattle.grid_search.specs.Sheet.{sheet_ok}
use Rattle.grid_search.proofs.Good.{good}
use Rattle.table.specs.declared.Row.{Row}
use Rattle.table.specs.Rows.{slot_of, sorted}
use Rattle.table.specs.Library.{Library, table, write, Space, space, too_long, level, fits, roomy}
use Rattle.table.proofs.All.{sorted_all}
use Rattle.table.proofs.Ids.{all-put_in}
use Rattle.table.proofs.Libraries.{empty_table, table-write, write-used, space-write, layout_is, room_for, layout_kept}
use Rattle.rows.specs.Damage.{good_row, library_tests}
use Rattle.rows.specs.Turn.{settle}
use Rattle.rows.specs.Insert.{container_of, overshoots, points, targets, rows_with, position_tests, room_tests, insert_tests, insertion}
use Rattle.rows.proofs.Check.{Whole, whole, not-long, whole-passes}

-- ---- keys, for a position of any length

some_container : (ns : List ℕ) → all division ns ≡ true → 1 ≤ containers ns
unfolding all containers
some_container [] d = omega arith
some_container (n ∷ ns) d =
    let a = and_both (division n) (all division ns) d in
    one-le-mul (leb-true 1 n (and_left (leb 1 n) (leb n 1024) a.0)) (some_container ns a.1)

combined : (ns rs : List ℕ) → all division ns ≡ true → exceed ns rs ≡ false → combine ns (zip_with inner ns rs) < containers ns
unfolding all exceed zip_with combine containers
combined [] rs d e = omega arith
combined (n ∷ ns) [] d e = some_container (n ∷ ns) d
combined (n ∷ ns) (r ∷ rs) d e =
    let a = and_both (division n) (all division ns) d in
    let i = (indices-below (n ∷ []) (r ∷ []) refl (both a.0 refl) (or-false (ltb n r) ∙ or_left (ltb n r) (exceed ns rs) e)).0 in
    digit-below n (inner n r) (combine ns (zip_with inner ns rs)) (containers ns) i (combined ns rs a.1 (or_right (ltb n r) (exceed ns rs) e))

module _ (s : GridSearch) (h : sheet_ok s ≡ true) where
  -- where no point overshoots, each key is below the number of containers
  keys_below : (points : List (List Float)) → any (overshoots s) points ≡ false → all (λ (k : ℕ). ltb k (containers (counts s.ndim s.ndiv))) (map (container_of s) points) ≡ true
  unfolding any all overshoots container_of key_of
  keys_below [] e = refl
  keys_below (x ∷ points) e =
      both (lt-ltb _ _ (combined (counts s.ndim s.ndiv) (ratios s.side_length (coords s.ndim s.xmin) x) (good s h).divisions (or_left (overshoots s x) _ e)))
      (keys_below points (or_right (overshoots s x) _ e))

  -- ---- a position of the sheet's dimension, within limits
  position_good : (x : List Float) → length x ≡ s.ndim → all coordinate x ≡ true
      → (all coordinate (coords s.ndim (position_of x)) && (eqb s.ndim 3 || same_bits (position_of x).z zero_f)) ≡ true
  unfolding same_bits
  position_good x l c = both (ap (all coordinate) (coords_of s.ndim x (position_of x) (good s h).axes l refl) ∙ c) (third (two_or_three s.ndim (good s h).axes))
    where
      flat : (x : List Float) → length x ≡ 2 → same_bits (position_of x).z zero_f ≡ true
      flat [] l = refl
      flat (a ∷ []) l = refl
      flat (a ∷ b ∷ []) l = refl
      flat (a ∷ b ∷ c ∷ x) l = absurd (omega arith)

      third : (s.ndim ≡ 2) ⊎ (s.ndim ≡ 3) → (eqb s.ndim 3 || same_bits (position_of x).z zero_f) ≡ true
      third (inl e) = rw e (flat x (l ∙ e))
      third (inr e) = rw e refl

-- ---- an insertion that is accepted

all-and : (p : ℕ → Bool) (g : Bool) (ks : List ℕ) → g ≡ true → all p ks ≡ true → all (λ (k : ℕ). p k && g) ks ≡ true
unfolding all
all-and p g [] h a = refl
all-and p g (k ∷ ks) h a = let d = and_both (p k) (all p ks) a in both (both d.0 h) (all-and p g ks h d.1)

-- strict order is kept
pub inserted-order : (s : GridSearch) (i : ℕ) (x : List Float) (rows : List Row) → sorted (map slot_of rows) ≡ true → sorted (map slot_of (rows_with s i x rows)) ≡ true
unfolding rows_with
inserted-order s i x rows o = sorted_all i (position_of x) (targets s x) rows o

module _ (s : GridSearch) (l : Library) (i : ℕ) (x : List Float) (q : fault (insert_tests s l i x) ≡ none) where
  pub accepted-library : fault (library_tests s l) ≡ none
  unfolding insert_tests
  accepted-library = fault_left (library_tests s l) (position_tests s x (points s x) ++ room_tests l (rows_with s i x (table l))) q

  past-library : fault (position_tests s x (points s x) ++ room_tests l (rows_with s i x (table l))) ≡ none
  unfolding insert_tests
  past-library = sym (fault-right (library_tests s l) (position_tests s x (points s x) ++ room_tests l (rows_with s i x (table l))) accepted-library) ∙ q

  pub accepted_position : fault (position_tests s x (points s x)) ≡ none
  accepted_position = fault_left (position_tests s x (points s x)) (room_tests l (rows_with s i x (table l))) past-library

  pub accepted-room : roomy (space l) (rows_with s i x (table l)) ≡ true
  unfolding room_tests
  accepted-room =
      let tests = room_tests l (rows_with s i x (table l)) in
      not-false _ (unrefused tests (sym (fault-right (position_tests s x (points s x)) tests accepted_position) ∙ past-library)).0

  w : Whole s l
  w = whole s l accepted-library

  accepted-good : all (good_row s) (rows_with s i x (table l)) ≡ true
  unfolding rows_with good_row targets position_tests
  accepted-good =
      let p = unrefused (position_tests s x (points s x)) accepted_position in
      let a : length x ≡ s.ndim = eqb-true _ _ (not-false _ p.0) in
      let m = position_good s w.sheet x a (not-false _ p.1.0) in
      all-put_in (good_row s) i (position_of x) (targets s x) (table l)
      (all-and (λ (k : ℕ). ltb k (containers (counts s.ndim s.ndiv))) _ (targets s x) m (keys_below s w.sheet (points s x) p.1.1.1.0))
      w.rows

  -- the library that it leaves
  abbrev after : Library
  after = write (rows_with s i x (table l)) l

  pub accepted-space : space after ≡ space l
  accepted-space = space-write (rows_with s i x (table l)) l (room_for l w.layout (rows_with s i x (table l)) accepted-room)

  pub accepted-whole : Whole s after
  accepted-whole = record {
    sheet = w.sheet;
    layout = layout_kept l w.layout after accepted-space (rows_with s i x (table l)) (write-used (rows_with s i x (table l)) l) accepted-room;
    rows = rw table-write accepted-good;
    order = rw table-write (inserted-order s i x (table l) w.order);
  }

  pub accepted-passes : fault (library_tests s after) ≡ none
  accepted-passes = whole-passes s after (rw accepted-space (not-long s l accepted-library)) accepted-whole

-- ---- whatever an insertion answers

-- what holds of a library as it was, and as an accepted call leaves it, holds of it after the call
pub settle_keeps : {A : Type 0} (P : Library → Type 0) (o : Option ℕ) (a : A) (new old : Library) → (o ≡ none → P new) → P old → P (settle o a new old).library
unfolding settle
settle_keeps P none a new old p q = p refl
settle_keeps P (some n) a new old p q = q

module _ (s : GridSearch) (l : Library) (i : ℕ) (x : List Float) where
  pub insertion-space : space (insertion s l i x).library ≡ space l
  unfolding insertion
  insertion-space = settle_keeps (λ (m : Library). space m ≡ space l) (fault (insert_tests s l i x)) _ _ l (accepted-space s l i x) refl

  pub insertion-passes : fault (library_tests s l) ≡ none → fault (library_tests s (insertion s l i x).library) ≡ none
  unfolding insertion
  insertion-passes v = settle_keeps (λ (m : Library). fault (library_tests s m) ≡ none) (fault (insert_tests s l i x)) _ _ l (accepted-passes s l i x) v

-- ---- a library without rows, on a good sheet, its lists being of one length of at most 65,536

fits-none : (ns : List ℕ) → fits ns 0 ≡ true
unfolding fits
fits-none [] = refl
fits-none (n ∷ ns) = le-leb 0 n zero-le

pub empty_passes : (s : GridSearch) (l : Library) → sheet_ok s ≡ true → level (space l).rows ≡ true → too_long (space l) ≡ false → l.used ≡ 0 → fault (library_tests s l) ≡ none
unfolding all sorted
empty_passes s l k v t e =
    whole-passes s l t (record {
      sheet = k;
      layout = layout_is l ∙ both v (ap (fits (space l).rows) e ∙ fits-none (space l).rows);
      rows = rw (empty_table l e);
      order = rw (empty_table l e);
    })

-- so where a library passes, one without rows in the same space does
pub empty_too : (s : GridSearch) (m l : Library) → space m ≡ space l → l.used ≡ 0 → fault (library_tests s m) ≡ none → fault (library_tests s l) ≡ none
empty_too s m l z e v =
    let w = whole s m v in
    let flat : level (space m).rows ≡ true = and_left (level (space m).rows) (fits (space m).rows m.used) (sym (layout_is m) ∙ w.layout) in
    empty_passes s l w.sheet (ap (λ (u : Space). level u.rows) (sym z) ∙ flat) (ap too_long (sym z) ∙ not-long s m v) e
