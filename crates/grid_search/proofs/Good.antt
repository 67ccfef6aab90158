-- What a good sheet is known by: `good` gives the facts that the calls above need.
-- Assumes nothing.
use Prim.Native.Nat.{ℕ}
use mathlib.Core.Path.{◌≡◌, refl, sym, ◌∙◌}
use mathlib.Core.Bool.{Bool, true, false, ◌||◌, false≢true}
use mathlib.Core.List.{List}
use mathlib.Core.Option.{Option, none, some}
use lib.Dec.{eqb}
use lib.ListN.{length}
use lib.Ieee.{Float, nan, inf, fin, lt, le, eq}
use borrow.Author.Tests.{eqb-true, not-true}
use Rattle.basics.proofs.Bools.{by_test, both, and_left, and_both, or-true, clash}
use Rattle.basics.specs.Lists.{all}
use Rattle.basics.specs.Refusals.{fault, Answer, success, answer}
use Rattle.floats.specs.Rounded.{zero_f, pow2}
use Rattle.floats.specs.Tests.{finite, same_bits}
use Rattle.floats.proofs.Order.{lt_is_not_le, le_join, eq_turn}
use Rattle.floats.proofs.Upto.{upto-finite}
use Rattle.geometry.specs.declared.Position.{Position}
use Rattle.geometry.specs.Position.{coords, position_of, dimension, coordinate}
use Rattle.geometry.proofs.Axes.{all-coords, coords_of, entries_of}
use Rattle.grid.specs.declared.Divisions.{Divisions}
use Rattle.grid.specs.Divisions.{counts, division}
use Rattle.grid_search.specs.declared.GridSearch.{GridSearch}
use Rattle.grid_search.specs.Sheet.{tolerance_of, border_of, sheet_from, sheet_tests, new_sheet, same_position, same_divisions, same_sheet, agrees, sheet_ok}
use Rattle.grid_search.proofs.Sizes.{sized_finite, finite_number, above_zero}
use Rattle.grid_search.proofs.OfSettings.{divisions_from, xmin_from, xmax_from, of_settings}

-- ---- the settings that a sheet keeps, and what they give
abbrev pub low_of : GridSearch → List Float
low_of s = coords s.ndim s.low

abbrev pub high_of : GridSearch → List Float
high_of s = coords s.ndim s.high

abbrev pub rebuilt : GridSearch → GridSearch
rebuilt s = sheet_from (low_of s) (high_of s) s.number s.tolerance s.border_tol

abbrev pub remade : GridSearch → Answer GridSearch
remade s = new_sheet (low_of s) (high_of s) s.number s.tolerance s.border_tol

-- a good sheet's settings pass the tests, and it is the same as what they give
pub record Kept (s : GridSearch) : Type 0 where
  pub passed : fault (sheet_tests (low_of s) (high_of s) s.number s.tolerance s.border_tol) ≡ none
  pub same : same_sheet s (rebuilt s) ≡ true

pub kept : (s : GridSearch) → sheet_ok s ≡ true → Kept s
unfolding sheet_ok new_sheet
kept s h = go (fault (sheet_tests (low_of s) (high_of s) s.number s.tolerance s.border_tol)) refl h
  where
    go : (o : Option ℕ) → fault (sheet_tests (low_of s) (high_of s) s.number s.tolerance s.border_tol) ≡ o → agrees s (answer o (rebuilt s)) ≡ true → Kept s
    go none e a = record { passed = e; same = a }
    go (some n) e a = absurd (false≢true a)

-- ---- the fields of two sheets that are the same
pub record Same (s t : GridSearch) : Type 0 where
  pub ndim : s.ndim ≡ t.ndim
  pub low : same_position s.low t.low ≡ true
  pub high : same_position s.high t.high ≡ true
  pub ndiv : s.ndiv ≡ t.ndiv
  pub xmin : same_position s.xmin t.xmin ≡ true
  pub xmax : same_position s.xmax t.xmax ≡ true
  pub side : same_bits s.side_length t.side_length ≡ true
  pub near : same_bits s.tol_dist t.tol_dist ≡ true
  pub radius : same_bits s.radius t.radius ≡ true

divisions_equal : (d e : Divisions) → same_divisions d e ≡ true → d ≡ e
unfolding same_divisions
divisions_equal d e h =
    let a = and_both (eqb d.x e.x) _ h in
    let b = and_both (eqb d.y e.y) (eqb d.z e.z) a.1 in
    rw (eqb-true d.x e.x a.0, eqb-true d.y e.y b.0, eqb-true d.z e.z b.1)

pub same_fields : (s t : GridSearch) → same_sheet s t ≡ true → Same s t
unfolding same_sheet
same_fields s t h =
    let a = and_both (eqb s.ndim t.ndim) _ h in
    let b = and_both (same_position s.low t.low) _ a.1 in
    let c = and_both (same_position s.high t.high) _ b.1 in
    let d = and_both (same_divisions s.ndiv t.ndiv) _ c.1 in
    let e = and_both (same_position s.xmin t.xmin) _ d.1 in
    let f = and_both (same_position s.xmax t.xmax) _ e.1 in
    let g = and_both (same_bits s.side_length t.side_length) _ f.1 in
    let i = and_both (same_bits s.tol_dist t.tol_dist) (same_bits s.radius t.radius) g.1 in
    record {
      ndim = eqb-true s.ndim t.ndim a.0;
      low = b.0;
      high = c.0;
      ndiv = divisions_equal s.ndiv t.ndiv d.0;
      xmin = e.0;
      xmax = f.0;
      side = g.0;
      near = i.0;
      radius = i.1;
    }

-- ---- what goes over from a float to one that is the same
at_or_below : (b : Float) → finite b ≡ true → lt zero_f b ≡ true → le b zero_f ≡ false
unfolding finite
at_or_below b f h = not-true (le b zero_f) (sym (lt_is_not_le zero_f b (finite_number zero_f refl) (finite_number b f)) ∙ h)

eq-finite : (a b : Float) → eq a b ≡ true → finite b ≡ true → finite a ≡ true
unfolding eq finite
eq-finite nan b e h = e
eq-finite (inf s) nan e h = e
eq-finite (inf s) (inf t) e h = h
eq-finite (inf s) (fin t n d) e h = e
eq-finite (fin s m i) b e h = refl

same-finite : (a b : Float) → same_bits a b ≡ true → finite b ≡ true → finite a ≡ true
unfolding same_bits
same-finite a b e h = eq-finite a b (and_left (eq a b) _ e) h

same_above : (a b : Float) → same_bits a b ≡ true → finite b ≡ true → lt zero_f b ≡ true → lt zero_f a ≡ true
unfolding same_bits le
same_above a b e f h =
    let q = and_left (eq a b) _ e in
    above_zero a (eq-finite a b q f)
    (by_test (le a zero_f)
    (λ k. clash (le_join b a zero_f (or-true (lt b a) (eq_turn a b q)) k) (at_or_below b f h))
    (λ k. k))

same_position-finite : (n : ℕ) (p q : Position) → dimension n ≡ true → same_position p q ≡ true → all finite (coords n q) ≡ true → all finite (coords n p) ≡ true
unfolding same_position
same_position-finite n p q d e h =
    let a = and_both (same_bits p.x q.x) _ e in
    let b = and_both (same_bits p.y q.y) (same_bits p.z q.z) a.1 in
    let g = rw (all-coords finite n q d) at h in
    let i = and_both (finite q.x) _ g in
    let j = and_both (finite q.y) _ i.1 in
    rw (all-coords finite n p d)
    (both (same-finite p.x q.x a.0 i.0) (both (same-finite p.y q.y b.0 j.0) (last (eqb n 2) j.1 (same-finite p.z q.z b.1))))
  where
    last : (t : Bool) → (t || finite q.z) ≡ true → (finite q.z ≡ true → finite p.z ≡ true) → (t || finite p.z) ≡ true
    last true h f = refl
    last false h f = f h

-- ---- the facts
pub record Good (s : GridSearch) : Type 0 where
  pub axes : dimension s.ndim ≡ true
  pub divisions : all division (counts s.ndim s.ndiv) ≡ true
  -- the settings
  pub low : all coordinate (low_of s) ≡ true
  pub high : all coordinate (high_of s) ≡ true
  pub tolerance : finite (tolerance_of s.tolerance) ≡ true
  pub tolerance_above : lt zero_f (tolerance_of s.tolerance) ≡ true
  pub tolerance_most : lt (pow2 10) (tolerance_of s.tolerance) ≡ false
  pub border : finite (border_of s.border_tol) ≡ true
  -- what they give
  pub xmin : all finite (coords s.ndim s.xmin) ≡ true
  pub xmax : all finite (coords s.ndim s.xmax) ≡ true
  pub side : finite s.side_length ≡ true
  pub side_above_zero : lt zero_f s.side_length ≡ true
  pub near : finite s.tol_dist ≡ true
  pub radius : finite s.radius ≡ true
  pub made : remade s ≡ success (rebuilt s)

pub good : (s : GridSearch) → sheet_ok s ≡ true → Good s
unfolding sheet_from new_sheet
good s ok =
    let k = kept s ok in
    let lo = low_of s in
    let hi = high_of s in
    let o = of_settings lo hi s.number s.tolerance s.border_tol k.passed in
    let f = same_fields s (rebuilt s) k.same in
    let e : length lo ≡ s.ndim = sym f.ndim in
    let d : dimension s.ndim ≡ true = rw e at o.tests.axes in
    let t = rebuilt s in
    let xmin = xmin_from lo hi s.number s.tolerance s.border_tol in
    let xmax = xmax_from lo hi s.number s.tolerance s.border_tol in
    record {
      axes = d;
      divisions = rw (f.ndiv, entries_of 1 s.ndim (divisions_from lo hi s.number s.tolerance s.border_tol) d (o.counts-length ∙ e)) o.divisions;
      low = o.limits.low;
      high = o.limits.high;
      tolerance = o.limits.tolerance_finite;
      tolerance_above = o.tolerance_above;
      tolerance_most = o.limits.tolerance_most;
      border = o.limits.border_finite;
      xmin = same_position-finite s.ndim s.xmin (position_of xmin) d f.xmin (rw (coords_of s.ndim xmin (position_of xmin) d (o.xmin_length ∙ e) refl) (sized_finite 1049600 xmin o.xmin));
      xmax = same_position-finite s.ndim s.xmax (position_of xmax) d f.xmax (rw (coords_of s.ndim xmax (position_of xmax) d (o.xmax_length ∙ e) refl) (sized_finite 2150630400 xmax o.xmax));
      side = same-finite s.side_length t.side_length f.side (upto-finite 2099200 t.side_length o.side);
      side_above_zero = same_above s.side_length t.side_length f.side (upto-finite 2099200 t.side_length o.side) o.side_above_zero;
      near = same-finite s.tol_dist t.tol_dist f.near (upto-finite 2048 t.tol_dist o.near);
      radius = same-finite s.radius t.radius f.radius (upto-finite 4198400 t.radius o.radius);
      made = rw k.passed;
    }

-- without 2 or 3 axes no sheet is good
pub no_axes : (s : GridSearch) → dimension s.ndim ≡ false → sheet_ok s ≡ false
no_axes s h = by_test (sheet_ok s) (λ e. clash (good s e).axes h) (λ e. e)
