-- What a listing answers: a refusal of the library, of the place, or the ids.
-- Assumes nothing.
use Prim.Native.Nat.{ℕ, zero, suc, ◌<◌}
use native.Mathlib.Omega.{arith}
use mathlib.Core.Path.{◌≡◌, refl, sym, ap, ◌∙◌, subst}
use mathlib.Core.Bool.{Bool, true, false, ◌||◌}
use mathlib.Core.Option.{Option, none, some}
use mathlib.Core.List.{List, [], ◌∷◌, ◌++◌}
use lib.Ieee.{Float}
use lib.Dec.{ltb}
use lib.ListN.{length, get_or}
use borrow.Author.Tests.{ltb-true, ltb-false, lt-ltb}
use Rattle.basics.proofs.Bools.{and_left, or_left, or_right}
use Rattle.basics.specs.Lists.{any, tab}
use Rattle.basics.proofs.Lists.{all_at, get_or-tab, length-tab}
use Rattle.basics.specs.Refusals.{Test, refuse, fault}
use Rattle.std.proofs.Common.{Result, Err, ap₂, rules}
use Rattle.basics.specs.declared.Refusal.{Refusal}
use Rattle.basics.specs.declared.Refusal.TheVariants as refusal
use Rattle.basics.specs.Answers.{refusal_number}
use Rattle.basics.proofs.Answers.{Raised, raised_answer}
use Rattle.basics.proofs.Refusals.{unrefused, fault-right, fault_stop}
use Rattle.geometry.specs.Axes.{dimension}
use Rattle.grid.specs.Divisions.{counts}
use Rattle.grid.specs.Containers.{containers}
use Rattle.grid_search.specs.declared.GridSearch.{GridSearch}
use Rattle.table.specs.declared.Row.{Row}
use Rattle.table.specs.Library.{Library, row_at, rows_of, table, space, too_long}
use Rattle.rows.specs.Damage.{good_row, library_tests}
use Rattle.rows.specs.Posts.{Checked}
use Rattle.rows.proofs.Check.{Whole, whole, not-long, checked, divided}
use Rattle.listing.specs.declared.Place.{Place}
use Rattle.listing.specs.declared.Filter.{Filter}
use Rattle.listing.specs.Place.{Asked, unknown, asked_of, asked, is_on, unfit, unfit_filter, wrong_length, place_tests}
use Rattle.listing.specs.Listing.{ids_of, occupied, ids_on, on_tests, listing_tests, listing, Lists}
use Rattle.basics.specs.Filled.{fill}
use Rattle.listing.specs.Posts.{Stands, Known, Out}

-- ---- rows in use

pub occupied-used : (l : Library) → ltb 0 l.used ≡ occupied (table l)
unfolding table rows_of occupied
occupied-used l = go l.used (row_at l)
  where
    go : (n : ℕ) (f : ℕ → Row) → ltb 0 n ≡ occupied (tab n f)
    go zero f = refl
    go (suc n) f = lt-ltb 0 (suc n) (omega arith)

module _ (s : GridSearch) (l : Library) (p : Asked) (f : Filter) (list : List ℕ) where
  abbrev ours : List Test
  ours = place_tests s p f (occupied (table l))

  abbrev last : List Test
  last = refuse 14 (ltb (length list) (length (ids_on s l p f))) ∷ []

  -- turned away by a test, with the list as it was
  stopped : (e : Refusal) {r : Result ℕ Refusal} → some (refusal_number e) ≡ fault (listing_tests s l p f (length list)) → Raised e r → Lists (listing s l p f list) r list
  unfolding listing fill
  stopped e {r} is raised = record { answers = rw (← is) (raised_answer (λ n. n) e r raised); list-is = rw (← is) }

  pub turned_away : (e : Refusal) {r : Result ℕ Refusal} → some (refusal_number e) ≡ fault (library_tests s l) → Raised e r → Lists (listing s l p f list) r list
  unfolding listing_tests on_tests
  turned_away e is raised =
      stopped e (sym (fault_stop (library_tests s l ++ ours) last (refusal_number e) (fault_stop (library_tests s l) ours (refusal_number e) (sym is)))) raised

  module _ (ok : fault (library_tests s l) ≡ none) where
    pub misplaced : (e : Refusal) {r : Result ℕ Refusal} → some (refusal_number e) ≡ fault (place_tests s p f (ltb 0 l.used)) → Raised e r → Lists (listing s l p f list) r list
    unfolding listing_tests on_tests
    misplaced e is raised =
        let here : fault ours ≡ some (refusal_number e) = ap (λ (b : Bool). fault (place_tests s p f b)) (sym (occupied-used l)) ∙ sym is in
        stopped e (sym (fault_stop (library_tests s l ++ ours) last (refusal_number e) (fault-right (library_tests s l) ours ok ∙ here))) raised

    -- only 14 is left
    pub listed_out : none ≡ fault (place_tests s p f (ltb 0 l.used)) → {r : Result ℕ Refusal} {after : List ℕ}
        → Out (ids_of (is_on s p f) (table l)) list r after → Lists (listing s l p f list) r after
    unfolding listing listing_tests on_tests ids_on
    listed_out is {r} {after} o =
        let good : fault ours ≡ none = ap (λ (b : Bool). fault (place_tests s p f b)) (sym (occupied-used l)) ∙ sym is in
        let e : fault (listing_tests s l p f (length list)) ≡ fault last =
        fault-right (library_tests s l ++ ours) last (fault-right (library_tests s l) ours ok ∙ good) in
        record { answers = o.answers ∙ ap (λ (q : Option ℕ). (fill q (ids_on s l p f) list).answer) (sym e); list-is = o.list-is ∙ ap (λ (q : Option ℕ). (fill q (ids_on s l p f) list).list) (sym e) }

-- ---- the tests of a place

module _ (s : GridSearch) (p : Asked) (f : Filter) (rows : Bool) where
  pub place_16 : (unfit s.ndim p || unfit_filter s.ndim f) ≡ true → some 16 ≡ fault (place_tests s p f rows)
  unfolding place_tests fault
  place_16 e = rw e

  pub place_2 : (unfit s.ndim p || unfit_filter s.ndim f) ≡ false → wrong_length s.ndim p ≡ true → some 2 ≡ fault (place_tests s p f rows)
  unfolding place_tests fault
  place_2 e g = rw (e, g)

-- what a place that passes is known by
pub record Fit (s : GridSearch) (p : Asked) (f : Filter) : Type 0 where
  pub place : unfit s.ndim p ≡ false
  pub filter : unfit_filter s.ndim f ≡ false
  pub lengths : wrong_length s.ndim p ≡ false

pub fit : (s : GridSearch) (p : Asked) (f : Filter) (rows : Bool) → fault (place_tests s p f rows) ≡ none → Fit s p f
unfolding place_tests
fit s p f rows e =
    let u = unrefused (place_tests s p f rows) e in
    record { place = or_left (unfit s.ndim p) (unfit_filter s.ndim f) u.0; filter = or_right (unfit s.ndim p) (unfit_filter s.ndim f) u.0; lengths = u.1.0 }

-- ---- what a library and a place that pass are known by

module _ (s : GridSearch) (l : Library) (p : Place) (f : Filter) where
  pub known : fault (library_tests s l) ≡ none → Fit s (asked s.ndim p) f → Known s l p f
  unfolding table space too_long any good_row rows_of
  known e g =
      let w : Whole s l = whole s l e in
      let c : Checked s l = checked w in
      let short = ltb-false 65536 (length l.keys) (or_left (ltb 65536 (length l.keys)) _ (not-long s l e)) in
      record {
        checked = c;
        small = omega (arith, short, c.room.0);
        keys_below = λ i h.
            let long : i < length (tab l.used (row_at l)) = omega (arith, length-tab l.used (row_at l)) in
            let r : good_row s (get_or (tab l.used (row_at l)) i (row_at l 0)) ≡ true = all_at (good_row s) (tab l.used (row_at l)) i (row_at l 0) long w.rows in
            let q : good_row s (row_at l i) ≡ true = subst (λ (row : Row). good_row s row ≡ true) (get_or-tab l.used (row_at l) i (row_at l 0) h) r in
            ltb-true (get_or l.keys i 0) (containers (counts s.ndim s.ndiv)) (and_left (ltb (get_or l.keys i 0) (containers (counts s.ndim s.ndiv))) _ q);
        fit = g.place;
        fit-filter = g.filter;
      }

-- ---- the call as the code makes it

-- the library passes
module _ (s : GridSearch) (l : Library) (ok : fault (library_tests s l) ≡ none) where
  pub axes : dimension s.ndim ≡ true
  axes = (divided s (whole s l ok).sheet).axes

  -- and the place
  pub walks : (on : Place) (f : Filter) → none ≡ fault (place_tests s (asked s.ndim on) f (ltb 0 l.used)) → Known s l on f
  walks on f placed = known s l on f ok (fit s (asked s.ndim on) f (ltb 0 l.used) (sym placed))

-- ---- the place of a number

straight : (e : Refusal) → Raised {A = ℕ} e (Err e)
straight e = (search rules, refl)

module _ (s : GridSearch) (l : Library) (f : Filter) (list : List ℕ) (ok : fault (library_tests s l) ≡ none) (p : ℕ) (a b : List Float) (v : Float) where
  -- the number names none
  pub unknown_place : asked_of p a b v ≡ unknown → Lists (listing s l (asked_of p a b v) f list) (Err refusal.Unfit) list
  unfolding unfit
  unknown_place e = misplaced s l (asked_of p a b v) f list ok refusal.Unfit (place_16 s (asked_of p a b v) f (ltb 0 l.used) (rw e refl)) (straight refusal.Unfit)

  module _ {on : Place} (n : Stands p a b v on) {u g : Bool} (is-unfit : u ≡ unfit s.ndim (asked s.ndim on)) (is-unfit_filter : g ≡ unfit_filter s.ndim f) where
    there : (unfit s.ndim (asked_of p a b v) || unfit_filter s.ndim f) ≡ (u || g)
    there = ap₂ (λ (x y : Bool). x || y) (sym (is-unfit ∙ n.alike s.ndim)) (sym is-unfit_filter)

    -- 16
    pub unfit_place : (u || g) ≡ true → Lists (listing s l (asked_of p a b v) f list) (Err refusal.Unfit) list
    unfit_place e = misplaced s l (asked_of p a b v) f list ok refusal.Unfit (place_16 s (asked_of p a b v) f (ltb 0 l.used) (there ∙ e)) (straight refusal.Unfit)

    -- 2
    pub other_length : (u || g) ≡ false → {w : Bool} → w ≡ wrong_length s.ndim (asked_of p a b v) → w ≡ true → Lists (listing s l (asked_of p a b v) f list) (Err refusal.Length) list
    other_length e is-wrong t =
        misplaced s l (asked_of p a b v) f list ok refusal.Length (place_2 s (asked_of p a b v) f (ltb 0 l.used) (there ∙ e) (sym is-wrong ∙ t)) (straight refusal.Length)

  module _ {on : Place} (n : Stands p a b v on) where
    -- the place that was made is the one named
    pub as_named : {w : Bool} → w ≡ wrong_length s.ndim (asked_of p a b v) → w ≡ false → {r : Result ℕ Refusal} {after : List ℕ}
        → Lists (listing s l (asked s.ndim on) f list) r after → Lists (listing s l (asked_of p a b v) f list) r after
    as_named is-wrong t {r} {after} o = subst (λ (q : Asked). Lists (listing s l q f list) r after) (n.same s.ndim (axes s l ok) (sym is-wrong ∙ t)) o
