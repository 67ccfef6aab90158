-- What an insertion answers and leaves: a law for each way out of the code.
-- Assumes nothing.
use Prim.Native.Nat.{ℕ, ◌≤◌, ◌<◌}
use mathlib.Core.Path.{◌≡◌, refl, sym, ap, ◌∙◌, subst}
use mathlib.Core.Bool.{true, false, not}
use mathlib.Core.Option.{Option, none, some}
use mathlib.Core.List.{List, [], ◌∷◌, ◌++◌}
use lib.Dec.{eqb}
use lib.ListN.{length}
use lib.Ieee.{Float}
use native.Mathlib.Omega.{arith}
use borrow.Author.Tests.{le-leb, lt-leb, eqb-true, not-false}
use Rattle.basics.specs.Lists.{all, any}
use Rattle.basics.specs.Refusals.{Test, refuse, fault, refused, success}
use Rattle.basics.specs.declared.Refusal.{Refusal}
use Rattle.basics.specs.Answers.{refusal_number}
use Rattle.basics.proofs.Answers.{Raised}
use Rattle.basics.proofs.Refusals.{fault_stop, fault_left, fault-right, unrefused}
use Rattle.geometry.specs.declared.Position.{Position}
use Rattle.geometry.specs.Position.{coords, position_of, coordinate}
use Rattle.geometry.proofs.Axes.{coords_of}
use Rattle.grid.specs.declared.ContainerKey.{ContainerKey}
use Rattle.grid.specs.Divisions.{counts}
use Rattle.grid.specs.Containers.{located}
use Rattle.grid_search.specs.Sheet.{tolerance_of}
use Rattle.grid_search.specs.declared.GridSearch.{GridSearch}
use Rattle.table.specs.declared.Row.{Row}
use Rattle.table.specs.Rows.{slots_of, put_in}
use Rattle.table.specs.Library.{Library, table, write, space, fits, roomy}
use Rattle.table.specs.Posts.{InOrder, CountAfter, Takes, Becomes}
use Rattle.table.proofs.Libraries.{slots_table, write-used, room_for}
use Rattle.rows.specs.Damage.{library_tests}
use Rattle.rows.specs.Turn.{settle, Gives}
use Rattle.rows.specs.Insert.{outside_sheet, overshoots, container_of, halo, points, rows_with, position_tests, room_tests, insert_tests, insertion}
use Rattle.rows.specs.Posts.{Divided, Accepts, Judges, look_all}
use Rattle.std.specs.Prelude as code
use Rattle.std.specs.Prelude.{Some, None, Result, Ok, Err}
use Rattle.rows.proofs.Check.{whole, divided, in_order}
use Rattle.rows.proofs.Found.{located-key, located-not, found_none, none_exceeds, found_rows}
use Rattle.rows.proofs.Kept.{accepted-library, accepted-room}

-- ---- 2, 3, 11 and then 17

fault_last : (us : List Test) (t : Test) → t.fails ≡ false → fault (us ++ t ∷ []) ≡ fault us
unfolding fault
fault_last [] t e = rw e
fault_last (u ∷ us) t e = rw (fault_last us t e)

module _ (s : GridSearch) (x : List Float) where
  -- the tests of a position but for 17
  abbrev short_tests : List Test
  short_tests = refuse 2 (not (eqb (length x) s.ndim)) ∷ refuse 3 (not (all coordinate x)) ∷ refuse 11 (outside_sheet s x) ∷ []

  split : (ps : List (List Float)) → position_tests s x ps ≡ short_tests ++ refuse 17 (any (overshoots s) ps) ∷ []
  unfolding position_tests
  split ps = refl

  short_is : fault (position_tests s x []) ≡ fault short_tests
  unfolding any
  short_is = ap fault (split []) ∙ fault_last short_tests (refuse 17 false) refl

  pub position_inside : fault (position_tests s x []) ≡ none → outside_sheet s x ≡ false
  position_inside e = (unrefused short_tests (sym short_is ∙ e)).1.1.0

  pub position_length : fault (position_tests s x []) ≡ none → length x ≡ s.ndim
  position_length e = eqb-true (length x) s.ndim (not-false _ (unrefused short_tests (sym short_is ∙ e)).0)

  pub position_some : (ps : List (List Float)) (n : ℕ) → fault (position_tests s x []) ≡ some n → fault (position_tests s x ps) ≡ some n
  position_some ps n e = ap fault (split ps) ∙ fault_stop short_tests _ n (sym short_is ∙ e)

  module _ (ps : List (List Float)) (e : fault (position_tests s x []) ≡ none) where
    position_rest : fault (position_tests s x ps) ≡ fault (refuse 17 (any (overshoots s) ps) ∷ [])
    position_rest = ap fault (split ps) ∙ fault-right short_tests _ (sym short_is ∙ e)

    pub position_exceeds : any (overshoots s) ps ≡ true → fault (position_tests s x ps) ≡ some 17
    unfolding fault
    position_exceeds h = position_rest ∙ rw h

    pub position_passes : any (overshoots s) ps ≡ false → fault (position_tests s x ps) ≡ none
    unfolding fault
    position_passes h = position_rest ∙ rw h

-- ---- 24, 13, 2, 3, 11: what a call at a position is judged by first

pub record Called (s : GridSearch) (l : Library) (x : List Float) : Type 0 where
  pub library : fault (library_tests s l) ≡ none
  pub position : fault (position_tests s x []) ≡ none

module _ (s : GridSearch) (l : Library) (x : List Float) where
  abbrev first_tests : List Test
  first_tests = library_tests s l ++ position_tests s x []

  pub of_library : {n : ℕ} → fault (library_tests s l) ≡ some n → fault first_tests ≡ some n
  of_library {n} e = fault_stop (library_tests s l) (position_tests s x []) n e

  pub of_position : fault (library_tests s l) ≡ none → fault first_tests ≡ fault (position_tests s x [])
  of_position z = fault-right (library_tests s l) (position_tests s x []) z

  pub called : fault first_tests ≡ none → Called s l x
  called e =
      let library_passes : fault (library_tests s l) ≡ none = fault_left (library_tests s l) (position_tests s x []) e in
      record { library = library_passes; position = sym (of_position library_passes) ∙ e }

  -- a call that these turn away is turned away by them, whatever comes after
  pub turned_first : {n : ℕ} (ps : List (List Float)) (ts : List Test) → fault first_tests ≡ some n → fault (library_tests s l ++ (position_tests s x ps ++ ts)) ≡ some n
  turned_first {n} ps ts e = go (fault (library_tests s l)) refl
    where
      go : (o : Option ℕ) → fault (library_tests s l) ≡ o → fault (library_tests s l ++ (position_tests s x ps ++ ts)) ≡ some n
      go none g =
          fault-right (library_tests s l) (position_tests s x ps ++ ts) g
          ∙ fault_stop (position_tests s x ps) ts n (position_some s x ps n (sym (of_position g) ∙ e))
      go (some m) g = fault_stop (library_tests s l) (position_tests s x ps ++ ts) m g ∙ sym (of_library g) ∙ e

-- what such a call knows when it looks for its position's container, the position being read into p
module _ (s : GridSearch) (l : Library) (x : List Float) (k : Called s l x) where
  pub called_sheet : Divided s
  called_sheet = divided s (whole s l k.library).sheet

  pub called_order : InOrder l
  called_order = in_order (whole s l k.library)

  module _ {p : Position} (e : p ≡ position_of x) where
    pub called_at : coords s.ndim p ≡ x
    called_at = coords_of s.ndim x p called_sheet.axes (position_length s x k.position) e

    abbrev place : List Float → code.Option ContainerKey
    place y = located (counts s.ndim s.ndiv) s.side_length (coords s.ndim s.xmin) y

    pub called_key : {key : ContainerKey} → place (coords s.ndim p) ≡ Some key → (overshoots s x ≡ false) × (container_of s x ≡ key.0)
    called_key g = located-key s x (sym (ap place called_at) ∙ g)

    pub called_container : {key : ContainerKey} → place (coords s.ndim p) ≡ Some key → container_of s (coords s.ndim p) ≡ key.0
    called_container g = ap (container_of s) called_at ∙ (called_key g).1

    pub called_exceeds : place (coords s.ndim p) ≡ None → overshoots s x ≡ true
    called_exceeds g = located-not s x (sym (ap place called_at) ∙ g)

-- ---- insertion

module _ (s : GridSearch) (l : Library) (i : ℕ) (x : List Float) where
  -- 24, 13, 2, 3, 11
  pub refused-first : {n : ℕ} → fault (library_tests s l ++ position_tests s x []) ≡ some n → fault (insert_tests s l i x) ≡ some n
  unfolding insert_tests
  refused-first e = turned_first s l x (points s x) (room_tests l (rows_with s i x (table l))) e

  -- 2, 3, 11 of a library that passes 24 and 13
  pub refused-past : fault (library_tests s l) ≡ none → {n : ℕ} → fault (position_tests s x []) ≡ some n → fault (insert_tests s l i x) ≡ some n
  refused-past f e = refused-first (of_position s l x f ∙ e)

  -- 24 and 13
  pub refused-damage : {n : ℕ} → fault (library_tests s l) ≡ some n → fault (insert_tests s l i x) ≡ some n
  refused-damage e = refused-first (of_library s l x e)

  module _ (k : Called s l x) where
    past-library : fault (insert_tests s l i x) ≡ fault (position_tests s x (points s x) ++ room_tests l (rows_with s i x (table l)))
    unfolding insert_tests
    past-library = fault-right (library_tests s l) (position_tests s x (points s x) ++ room_tests l (rows_with s i x (table l))) k.library

    pub refused_exceeds : any (overshoots s) (points s x) ≡ true → fault (insert_tests s l i x) ≡ some 17
    refused_exceeds h = past-library ∙ fault_stop (position_tests s x (points s x)) (room_tests l (rows_with s i x (table l))) 17 (position_exceeds s x (points s x) k.position h)

    module _ (c : any (overshoots s) (points s x) ≡ false) where
      past_position : fault (insert_tests s l i x) ≡ fault (room_tests l (rows_with s i x (table l)))
      past_position = past-library ∙ fault-right (position_tests s x (points s x)) (room_tests l (rows_with s i x (table l))) (position_passes s x (points s x) k.position c)

      pub refused_full : length l.keys < length (rows_with s i x (table l)) → fault (insert_tests s l i x) ≡ some 12
      unfolding room_tests roomy fits space fault
      refused_full h = past_position ∙ rw (lt-leb (length (rows_with s i x (table l))) (length l.keys) h)

      pub not-refused : length (rows_with s i x (table l)) ≤ length l.keys → fault (insert_tests s l i x) ≡ none
      unfolding room_tests roomy fits space fault
      not-refused h = past_position ∙ rw (le-leb (length (rows_with s i x (table l))) (length l.keys) h)

  -- what it answers and leaves

  pub turned_away : {n : ℕ} → fault (insert_tests s l i x) ≡ some n → Gives (insertion s l i x) (refused n) l
  unfolding insertion settle
  turned_away e = rw e (record { answers = refl; library-is = refl })

  pub accepted : fault (insert_tests s l i x) ≡ none → {n : ℕ} {after : Library} → n ≡ length (rows_with s i x (table l)) → after ≡ write (rows_with s i x (table l)) l
      → Gives (insertion s l i x) (success n) after
  unfolding insertion settle
  accepted e m d = rw e (record { answers = ap success m; library-is = d })

-- ---- the rows that the code stores are the definition's

module _ (s : GridSearch) (l : Library) (i : ℕ) (x : List Float) (k : Called s l x) where
  abbrev found : code.Option (List ℕ)
  found = look_all s (Some []) (x ∷ halo (tolerance_of s.tolerance) x)

  inside : outside_sheet s x ≡ false
  inside = position_inside s x k.position

  -- 17
  pub judged_exceeds : found ≡ None → fault (insert_tests s l i x) ≡ some 17
  judged_exceeds f = refused_exceeds s l i x k (found_none s x inside f)

  module _ {into : List ℕ} (f : found ≡ Some into) {n : ℕ} (c : CountAfter (slots_of l.keys l.ids l.used) i into n) where
    rows-found : put_in i (position_of x) into (table l) ≡ rows_with s i x (table l)
    rows-found = found_rows s x inside f i (table l) (called_order s l x k).order

    count-found : n ≡ length (rows_with s i x (table l))
    count-found = c (position_of x) (table l) (slots_table l) ∙ ap length rows-found

    -- 12
    pub judged_full : length l.keys < n → fault (insert_tests s l i x) ≡ some 12
    judged_full g = refused_full s l i x k (none_exceeds s x inside f) (omega (arith, count-found))

    pub judged_into : n ≤ length l.keys → Accepts s l i x into
    judged_into g = record {
      passes = not-refused s l i x k (none_exceeds s x inside f) (omega (arith, count-found));
      rows_are = rows-found;
    }

-- ---- the rows written, where the insertion is accepted

module _ (s : GridSearch) (l : Library) (i : ℕ) (x : List Float) (p : Position) (e : p ≡ position_of x) {into : List ℕ} (a : Accepts s l i x into) where
  same_rows : put_in i p into (table l) ≡ rows_with s i x (table l)
  same_rows = rw e a.rows_are

  pub taken : Takes (put_in i p into) l
  taken = record {
    rows = in_order (whole s l (accepted-library s l i x a.passes));
    room = rw same_rows (room_for l (whole s l (accepted-library s l i x a.passes)).layout (rows_with s i x (table l)) (accepted-room s l i x a.passes));
  }

  pub stored : {after : Library} → Becomes (put_in i p into) l after → Gives (insertion s l i x) (success after.used) after
  stored {after} d =
      let g : after ≡ write (rows_with s i x (table l)) l = d ∙ ap (λ (rows : List Row). write rows l) same_rows in
      accepted s l i x a.passes (ap (λ (m : Library). m.used) g ∙ write-used (rows_with s i x (table l)) l) g

-- what the judgement says of a mark, by what it answers
module _ (s : GridSearch) (l : Library) (i : ℕ) (x : List Float) {r : Result (List ℕ) Refusal} (h : Judges s l i x r) where
  pub judged_refused : {e : Refusal} → r ≡ Err e → fault (insert_tests s l i x) ≡ some (refusal_number e)
  judged_refused f = subst (λ (q : Result (List ℕ) Refusal). Judges s l i x q) f h

  pub judged_accepts : {into : List ℕ} → r ≡ Ok into → Accepts s l i x into
  judged_accepts f = subst (λ (q : Result (List ℕ) Refusal). Judges s l i x q) f h

-- an error that the judgement hands on is its answer
pub judged_raised : (s : GridSearch) (l : Library) (i : ℕ) (x : List Float) (e : Refusal) (r : Result (List ℕ) Refusal)
    → Raised e r → fault (insert_tests s l i x) ≡ some (refusal_number e) → Judges s l i x r
judged_raised s l i x e (Ok into) h f = absurd h.1
judged_raised s l i x e (Err d) h f = rw h.1 f
