-- The rows of an id taken out: the first of them, the pass that closes the gaps, and zeros past the rows that are left.
-- Assumes nothing.
use Prim.Native.Nat.{ℕ, zero, suc, ◌+◌, ◌≤◌, ◌<◌}
use native.Mathlib.Nat.{le_of_suc-le-suc, not-suc-le-zero, add-zero}
use native.Mathlib.Numerals.{add-one}
use native.Mathlib.Omega.{arith}
use mathlib.Core.Path.{◌≡◌, refl, sym, ap, ap₂, ◌∙◌, subst}
use mathlib.Core.Bool.{true, false, not, cond}
use mathlib.Core.List.{List, [], ◌∷◌, ◌++◌, map}
use lib.Dec.{ltb, eqb}
use lib.ListN.{length, get_or, take, length-map, length-set}
use lib.Seq.{length-take-le, get_or-take, get_or-set_same, get_or-set_other}
use lib.Ieee.{nan}
use mir.Val.{bool_byte}
use borrow.Author.Tests.{ltb-true, ltb-false}
use Rattle.std.specs.Prelude.{Option, position}
use Rattle.std.specs.List.{position_or_len}
use Rattle.std.proofs.lemmas.List.Recursion.{is_position_or_len}
use Rattle.basics.proofs.Bools.{by_test}
use Rattle.basics.proofs.Lists.{leading-most}
use Rattle.basics.specs.Lists.{keep, tab, over}
use Rattle.floats.specs.Rounded.{zero_f}
use Rattle.table.specs.declared.Row.{Row}
use Rattle.table.specs.Rows.{key_in, id_in, x_in, y_in, z_in, row_of, without}
use Rattle.basics.specs.Lists.{leading}
use Rattle.strike.specs.Posts.{FirstWith, Leaves, Strikes, Closed}
use Rattle.table.specs.Library.{Library, row_at, rows_of, table, write, blank, lengths}
use Rattle.table.specs.Posts.{cleared, Long, Room, each_of, written, counted, cleared_from}
use Rattle.table.proofs.Cleared.{cleared-over}
use Rattle.table.proofs.Ids.{length_without}
use Rattle.table.proofs.Libraries.{length-rows, length-table, table-keys, table-ids, table-xs, table-ys, table-zs}

-- ---- the first row of an id

pub leading-before : (v : ℕ) (s : List ℕ) (j : ℕ) → j < leading v s → eqb (get_or s j 0) v ≡ false
unfolding leading
leading-before v [] j h = absurd (not-suc-le-zero h)
leading-before v (x ∷ s) zero h = by_test (eqb x v) (λ e. absurd (not-suc-le-zero (rw e at h))) (λ e. e)
leading-before v (x ∷ s) (suc j) h = by_test (eqb x v) (λ e. absurd (not-suc-le-zero (rw e at h))) (λ e. leading-before v s j (le_of_suc-le-suc (rw e at h)))

-- as the library's search tells it
pub first-with : (v : ℕ) (s : List ℕ) {r : Option ℕ} → r ≡ position (λ j. eqb j v) s → FirstWith v s r
unfolding leading
first-with v s e =
    rw e
    (by_test (ltb (position_or_len (λ j. eqb j v) s) (length s)) (λ t. rw t (sym same, ltb-true _ _ t))
    (λ t. rw t (omega (arith, ltb-false _ _ t, same, leading-most v s))))
  where
    same : position_or_len (λ j. eqb j v) s ≡ leading v s
    same = sym (is_position_or_len (leading v) (λ j. eqb j v) refl (λ x xs. by_test (eqb x v) (λ t. rw t) (λ t. rw t (omega arith))) s)

-- ---- lists of rows that grow by one

module _ {A : Type 0} where
  pub tab-next : (n : ℕ) (f : ℕ → A) → tab (suc n) f ≡ tab n f ++ f n ∷ []
  tab-next zero f = refl
  tab-next (suc n) f = ap (λ (r : List A). f 0 ∷ r) (tab-next n (λ i. f (suc i)))

  pub tab-same : (n : ℕ) (f g : ℕ → A) → ((i : ℕ) → i < n → f i ≡ g i) → tab n f ≡ tab n g
  tab-same zero f g h = refl
  tab-same (suc n) f g h = ap₂ (λ (x : A) (r : List A). x ∷ r) (h 0 (omega arith)) (tab-same n (λ i. f (suc i)) (λ i. g (suc i)) (λ i k. h (suc i) (omega arith)))

without-next : (id : ℕ) (rows : List Row) (r : Row) → without id (rows ++ r ∷ []) ≡ cond (eqb (id_in r) id) (without id rows) (without id rows ++ r ∷ [])
unfolding without keep
without-next id [] r = by_test (eqb (id_in r) id) (λ e. rw e) (λ e. rw e)
without-next id (q ∷ rows) r =
    let ih = without-next id rows r in
    by_test (eqb (id_in q) id) (λ e. rw e ih) (λ e. by_test (eqb (id_in r) id) (λ f. rw (e, ih, f)) (λ f. rw (e, ih, f)))

without-tab : (id n : ℕ) (f : ℕ → Row) → ((j : ℕ) → j < n → eqb (id_in (f j)) id ≡ false) → without id (tab n f) ≡ tab n f
unfolding without keep
without-tab id zero f h = refl
without-tab id (suc n) f h = rw (h 0 (omega arith)) (ap (λ (r : List Row). f 0 ∷ r) (without-tab id n (λ i. f (suc i)) (λ j k. h (suc j) (omega arith))))

-- ---- a row written at an index

module _ (at : ℕ) (row : Row) (l : Library) where
  written-other : (j : ℕ) → (j ≡ at → ⊥) → row_at (each_of (written at) row l) j ≡ row_at l j
  written-other j h =
      λ i. row_of (get_or-set_other l.keys at j (key_in row) 0 h i) (get_or-set_other l.ids at j (id_in row) 0 h i)
      (get_or-set_other l.xs at j (x_in row) nan h i) (get_or-set_other l.ys at j (y_in row) nan h i) (get_or-set_other l.zs at j (z_in row) nan h i)

  written_there : Room l (at + 1) → row_at (each_of (written at) row l) at ≡ row
  written_there h =
      λ i. row_of (get_or-set_same l.keys at (key_in row) 0 (omega arith) i) (get_or-set_same l.ids at (id_in row) 0 (omega arith) i)
      (get_or-set_same l.xs at (x_in row) nan (omega arith) i) (get_or-set_same l.ys at (y_in row) nan (omega arith) i) (get_or-set_same l.zs at (z_in row) nan (omega arith) i)

  written-lengths : lengths (each_of (written at) row l) ≡ lengths l
  written-lengths =
      λ i. length-set l.keys at (key_in row) i ∷ length-set l.ids at (id_in row) i
      ∷ length-set l.xs at (x_in row) i ∷ length-set l.ys at (y_in row) i ∷ length-set l.zs at (z_in row) i ∷ []

-- ---- the pass that closes the gaps: the first i rows are looked at, and `at` of them are left, at the front; those from i on are as they were

pub record Closing (id at i : ℕ) (l now : Library) : Type 0 where
  pub upto : i ≤ l.used
  pub lower : at ≤ i
  pub front : rows_of now at ≡ without id (rows_of l i)
  pub rest : (j : ℕ) → i ≤ j → row_at now j ≡ row_at l j
  pub lengths-are : lengths now ≡ lengths l
  pub used-is : now.used ≡ l.used

rows_next : (l : Library) (n : ℕ) → rows_of l (n + 1) ≡ rows_of l n ++ row_at l n ∷ []
unfolding rows_of
rows_next l n = rw add-one (tab-next n (row_at l))

module _ {id from : ℕ} {l : Library} (s : Strikes id from l) where
  first-most : from ≤ l.used
  first-most = omega (arith, s.first, leading-most id (take l.used l.ids), length-take-le l.used l.ids s.room.1.0)

  -- the rows before it are of other ids
  pub before-first : (j : ℕ) → j < from → eqb (get_or l.ids j 0) id ≡ false
  before-first j h =
      sym (ap (λ (i : ℕ). eqb i id) (get_or-take l.used l.ids j 0 (omega (arith, first-most))))
      ∙ leading-before id (take l.used l.ids) j (omega (arith, s.first))

pub closing_start : {id from : ℕ} (l : Library) → Strikes id from l → Closing id from from l l
unfolding rows_of
closing_start {id} {from} l s = record {
  upto = first-most s;
  lower = omega arith;
  front = sym (without-tab id from (row_at l) (before-first s));
  rest = λ j h. refl;
  lengths-are = refl;
  used-is = refl;
}

-- the lists are as long as they were
pub closing_room : {id at i : ℕ} {l now : Library} → Closing id at i l now → (n : ℕ) → n ≤ l.used → Room l l.used → Room now n
closing_room g n h room = subst (λ (ns : List ℕ). Long ns n) (sym g.lengths-are) (omega arith)

-- one turn: row i is read, and written at the index behind those that are left
module _ {id at i : ℕ} {l now : Library} (g : Closing id at i l now) (h : i < l.used) (room : Room l l.used) where
  pub closing-next : {row : Row} {r : ℕ} {after : Library} → row ≡ row_at now i → after ≡ each_of (written at) row now
      → r ≡ at + bool_byte (not (eqb (id_in row) id)) → Closing id r (i + 1) l after
  closing-next {row} {r} {after} e m n = by_test (eqb (id_in (row_at l i)) id) gone kept
    where
      here : row_at now i ≡ row_at l i
      here = g.rest i (omega arith)

      after_is : after ≡ each_of (written at) (row_at now i) now
      after_is = m ∙ ap (λ (q : Row). each_of (written at) q now) e

      front_kept : rows_of after at ≡ rows_of now at
      front_kept =
          unfold rows_of in
          rw after_is (tab-same at (row_at (each_of (written at) (row_at now i) now)) (row_at now) (λ j k. written-other at (row_at now i) now j (λ e. omega arith)))

      rest_kept : (j : ℕ) → i + 1 ≤ j → row_at after j ≡ row_at l j
      rest_kept j k = ap (λ (m : Library). row_at m j) after_is ∙ written-other at (row_at now i) now j (λ e. omega (arith, g.lower)) ∙ g.rest j (omega arith)

      lengths_kept : lengths after ≡ lengths l
      lengths_kept = ap lengths after_is ∙ written-lengths at (row_at now i) now ∙ g.lengths-are

      rows_are : without id (rows_of l (i + 1)) ≡ cond (eqb (id_in (row_at l i)) id) (rows_of now at) (rows_of now at ++ row_at l i ∷ [])
      rows_are = ap (without id) (rows_next l i) ∙ without-next id (rows_of l i) (row_at l i) ∙ rw g.front

      next-is : r ≡ at + bool_byte (not (eqb (id_in (row_at l i)) id))
      next-is = n ∙ ap (λ (q : Row). at + bool_byte (not (eqb (id_in q) id))) (e ∙ here)

      gone : eqb (id_in (row_at l i)) id ≡ true → Closing id r (i + 1) l after
      gone f =
          let k : r ≡ at = next-is ∙ rw (f, add-zero) in
          record {
            upto = omega arith;
            lower = omega (arith, g.lower);
            front = rw k (front_kept ∙ sym (rows_are ∙ rw f));
            rest = rest_kept;
            lengths-are = lengths_kept;
            used-is = ap (λ (j : Library). j.used) after_is ∙ g.used-is;
          }

      kept : eqb (id_in (row_at l i)) id ≡ false → Closing id r (i + 1) l after
      kept f =
          let k : r ≡ at + 1 = next-is ∙ rw f in
          let there : row_at after at ≡ row_at l i = ap (λ (m : Library). row_at m at) after_is ∙ written_there at (row_at now i) now (wide g.lower) ∙ here in
          record {
            upto = omega arith;
            lower = omega (arith, g.lower);
            front = rw k (rows_next after at ∙ ap₂ (λ (rows : List Row) (q : Row). rows ++ q ∷ []) front_kept there ∙ sym (rows_are ∙ rw f));
            rest = rest_kept;
            lengths-are = lengths_kept;
            used-is = ap (λ (j : Library). j.used) after_is ∙ g.used-is;
          }
        where
          wide : at ≤ i → Room now (at + 1)
          wide k = closing_room g (at + 1) (omega arith) room

pub closing_end : {id at i : ℕ} {l now : Library} → Closing id at i l now → l.used ≤ i → Closed id at l now
unfolding table
closing_end {id} {at} {i} {l} {now} g h =
    let e : i ≡ l.used = omega (arith, g.upto) in
    record { rows = g.front ∙ ap (λ (n : ℕ). without id (rows_of l n)) e; lengths-are = g.lengths-are }

-- ---- the rows that are left, with zeros past them

-- one of two equal lists of lengths
pub entry : {ns ms : List ℕ} (i : ℕ) → ns ≡ ms → get_or ns i 0 ≡ get_or ms i 0
entry i e = ap (λ (ns : List ℕ). get_or ns i 0) e

module _ {id r : ℕ} (l now : Library) (room : Room l l.used) (g : Closed id r l now) where
  left_is : r ≡ length (without id (table l))
  left_is = sym (length-rows now r) ∙ ap length g.rows

  pub closed-room : Room now r
  closed-room = subst (λ (ns : List ℕ). Long ns r) (sym g.lengths-are) (let m : r ≤ l.used = omega (arith, left_is, length_without id (table l), length-table l) in omega arith)

  column : {A : Type 0} (v : A) (f : Row → A) (c c₀ : List A) → map f (rows_of now r) ≡ take r c → length c ≡ length c₀
      → cleared v r c ≡ over (map f (without id (table l))) (map (λ (x : A). v) c₀)
  column v f c c₀ e m =
      let rows = without id (table l) in
      let n : length (map f rows) ≡ r = length-map rows f ∙ sym left_is in
      let d : map f rows ≡ take (length (map f rows)) c = ap (map f) (sym g.rows) ∙ e ∙ ap (λ (k : ℕ). take k c) (sym n) in
      ap (λ (k : ℕ). cleared v k c) (sym n) ∙ cleared-over v (map f rows) c c₀ d m

  pub left-clear : (after : Library) → after ≡ counted r (cleared_from r now) → Leaves (without id) l after
  unfolding write blank table
  left-clear after d = d ∙ λ i. record {
    keys = column 0 key_in now.keys l.keys (table-keys (counted r now) closed-room.0) (entry 0 g.lengths-are) i;
    ids = column 0 id_in now.ids l.ids (table-ids (counted r now) closed-room.1.0) (entry 1 g.lengths-are) i;
    xs = column zero_f x_in now.xs l.xs (table-xs (counted r now) closed-room.1.1.0) (entry 2 g.lengths-are) i;
    ys = column zero_f y_in now.ys l.ys (table-ys (counted r now) closed-room.1.1.1.0) (entry 3 g.lengths-are) i;
    zs = column zero_f z_in now.zs l.zs (table-zs (counted r now) closed-room.1.1.1.1.0) (entry 4 g.lengths-are) i;
    used = left_is i;
  }
