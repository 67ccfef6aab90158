-- Laws of the layout: the rows that the lists hold, what a write leaves in them, and one thing done to each list.
-- Assumes nothing.
use Prim.Native.Nat.{ℕ, zero, suc, ◌≤◌}
use native.Mathlib.Nat.{not-suc-le-zero, le_of_suc-le-suc}
use native.Mathlib.Omega.{arith}
use mathlib.Core.Path.{◌≡◌, refl, sym, ap, ap₂, ◌∙◌, subst}
use mathlib.Core.Bool.{true, ◌&&◌}
use mathlib.Core.List.{List, [], ◌∷◌, ◌++◌, map}
use lib.Dec.{eqb}
use lib.ListN.{length, take, drop, length-map, length-append, length-drop, take-append-drop}
use lib.Seq.{drop-nil}
use lib.Ieee.{Float, nan}
use borrow.Author.Tests.{leb-true, le-leb, eqb-true}
use Rattle.basics.proofs.Bools.{both, and_both}
use Rattle.basics.specs.Lists.{all, over}
use Rattle.basics.proofs.Lists.{length-tab, map-tab, tab-take}
use Rattle.table.specs.declared.Row.{Row}
use Rattle.table.specs.Rows.{slot_of, slots_of, key_in, id_in, x_in, y_in, z_in}
use Rattle.table.specs.Library.{Library, library, row_at, rows_of, table, write, blank, lengths, Space, space, level, fits, roomy, sound_layout}
use Rattle.table.specs.Posts.{Ordered, Long, Room, InOrder, each_of, counted}

-- ---- the rows that the lists hold

module _ (l : Library) where
  pub length-rows : (n : ℕ) → length (rows_of l n) ≡ n
  unfolding rows_of
  length-rows n = length-tab n (row_at l)

  pub length-table : length (table l) ≡ l.used
  unfolding table
  length-table = length-rows l.used

  pub slots_rows : (n : ℕ) → map slot_of (rows_of l n) ≡ slots_of l.keys l.ids n
  unfolding rows_of slots_of
  slots_rows n = map-tab slot_of n (row_at l)

  pub slots_table : map slot_of (table l) ≡ slots_of l.keys l.ids l.used
  unfolding table
  slots_table = slots_rows l.used

  pub empty_table : l.used ≡ 0 → table l ≡ []
  unfolding table rows_of
  empty_table e = rw e

  -- each field of the rows is the front of its list
  pub table-keys : l.used ≤ length l.keys → map key_in (table l) ≡ take l.used l.keys
  unfolding table rows_of
  table-keys h = map-tab key_in l.used (row_at l) ∙ tab-take l.used l.keys 0 h

  pub table-ids : l.used ≤ length l.ids → map id_in (table l) ≡ take l.used l.ids
  unfolding table rows_of
  table-ids h = map-tab id_in l.used (row_at l) ∙ tab-take l.used l.ids 0 h

  pub table-xs : l.used ≤ length l.xs → map x_in (table l) ≡ take l.used l.xs
  unfolding table rows_of
  table-xs h = map-tab x_in l.used (row_at l) ∙ tab-take l.used l.xs nan h

  pub table-ys : l.used ≤ length l.ys → map y_in (table l) ≡ take l.used l.ys
  unfolding table rows_of
  table-ys h = map-tab y_in l.used (row_at l) ∙ tab-take l.used l.ys nan h

  pub table-zs : l.used ≤ length l.zs → map z_in (table l) ≡ take l.used l.zs
  unfolding table rows_of
  table-zs h = map-tab z_in l.used (row_at l) ∙ tab-take l.used l.zs nan h

-- keys and ids of rows in strict order are slots in strict order
pub ordered : {l : Library} → InOrder l → Ordered l.keys l.ids l.used
ordered {l} o = record { in_keys = o.room.0; in_ids = o.room.1.0; order = rw (← slots_table l) o.order }

-- ---- lists of one length that the first of them shows to be long enough

level-long : (n m : ℕ) (ms : List ℕ) → n ≤ m → all (λ (k : ℕ). eqb k m) ms ≡ true → Long ms n
unfolding all
level-long n m [] h e = tt
level-long n m (k ∷ ks) h e =
    let d = and_both (eqb k m) (all (λ (j : ℕ). eqb j m) ks) e in
    (omega (arith, eqb-true k m d.0), level-long n m ks h d.1)

pub long : (ns : List ℕ) (n : ℕ) → level ns ≡ true → fits ns n ≡ true → Long ns n
unfolding level fits
long [] n e f = tt
long (m ∷ ms) n e f = let h = leb-true n m f in (h, level-long n m ms h e)

-- the layout's part of 13, by what was lent and the used count
pub layout_is : (l : Library) → sound_layout l ≡ (level (space l).rows && fits (space l).rows l.used)
unfolding sound_layout
layout_is l = refl

module _ (l : Library) (e : sound_layout l ≡ true) where
  parts : (level (space l).rows ≡ true) × (fits (space l).rows l.used ≡ true)
  parts = and_both (level (space l).rows) (fits (space l).rows l.used) (sym (layout_is l) ∙ e)

  pub room-used : Room l l.used
  unfolding space
  room-used = long (lengths l) l.used parts.0 parts.1

  pub room_for : (rows : List Row) → roomy (space l) rows ≡ true → Room l (length rows)
  unfolding roomy space
  room_for rows f = long (lengths l) (length rows) parts.0 f

  -- the rows in use have room
  pub roomy-table : roomy (space l) (table l) ≡ true
  unfolding roomy
  roomy-table = ap (fits (space l).rows) (length-table l) ∙ parts.1

  -- another library of the same space, whose rows have room
  pub layout_kept : (m : Library) → space m ≡ space l → (rows : List Row) → m.used ≡ length rows → roomy (space l) rows ≡ true → sound_layout m ≡ true
  layout_kept m z rows n f = layout_is m ∙ both (ap (λ (s : Space). level s.rows) z ∙ parts.0) (ap₂ (λ (s : Space) (k : ℕ). fits s.rows k) z n ∙ unfold roomy in f)

-- fewer rows have room where more have
pub roomy_fewer : (s : Space) (rows fewer : List Row) → length fewer ≤ length rows → roomy s rows ≡ true → roomy s fewer ≡ true
unfolding roomy
roomy_fewer s rows fewer h e = fits_fewer s.rows e
  where
    fits_fewer : (ns : List ℕ) → fits ns (length rows) ≡ true → fits ns (length fewer) ≡ true
    fits_fewer [] e = refl
    fits_fewer (n ∷ ns) e = le-leb _ n (omega (arith, leb-true (length rows) n e, h))

-- ---- the front of a list written over

module _ {A : Type 0} where
  pub length_over : (new old : List A) → length new ≤ length old → length (over new old) ≡ length old
  unfolding over
  length_over new old h = simp (length-append, length-drop) (omega arith)

  -- with what stands there
  pub over-front : (new old : List A) → new ≡ take (length new) old → over new old ≡ old
  unfolding over
  over-front new old e = ap (λ (a : List A). a ++ drop (length new) old) e ∙ take-append-drop (length new) old

  drop_past : (new old : List A) (n : ℕ) → length new ≤ n → drop n (new ++ drop (length new) old) ≡ drop n old
  drop_past [] old n h = refl
  drop_past (x ∷ new) old zero h = absurd (not-suc-le-zero h)
  drop_past (x ∷ new) [] (suc n) h = subst (λ (e : List A). drop n (new ++ e) ≡ []) (drop-nil (length new)) (drop_past new [] n (le_of_suc-le-suc h) ∙ drop-nil n)
  drop_past (x ∷ new) (y ∷ old) (suc n) h = drop_past new old n (le_of_suc-le-suc h)

  -- and again, as far or farther
  pub over-over : (new more old : List A) → length new ≤ length more → over more (over new old) ≡ over more old
  unfolding over
  over-over new more old h = ap (λ (r : List A). more ++ r) (drop_past new old (length more) h)

-- ---- what a write leaves

rows-over : (rows : List Row) (a b : List ℕ) (c d e : List Float)
    → rows_of (library (map key_in rows ++ a) (map id_in rows ++ b) (map x_in rows ++ c) (map y_in rows ++ d) (map z_in rows ++ e) (length rows)) (length rows) ≡ rows
unfolding rows_of
rows-over [] a b c d e = refl
rows-over (r ∷ rows) a b c d e = ap (λ (l : List Row). r ∷ l) (rows-over rows a b c d e)

-- what is written is what is then in use
pub table-write : (rows : List Row) (l : Library) → table (write rows l) ≡ rows
unfolding table write over
table-write rows l = rows-over rows _ _ _ _ _

pub write-used : (rows : List Row) (l : Library) → (write rows l).used ≡ length rows
unfolding write
write-used rows l = refl

front : {A : Type 0} (f : Row → A) (rows : List Row) (n : ℕ) (c : List A) → length rows ≡ n → map f rows ≡ take n c → over (map f rows) c ≡ c
front f rows n c m e = over-front (map f rows) c (e ∙ ap (λ (i : ℕ). take i c) (sym (length-map rows f ∙ m)))

-- the rows that stand there
pub write_same : (l : Library) → Room l l.used → write (table l) l ≡ l
unfolding write
write_same l h = λ i. record {
  keys = front key_in (table l) l.used l.keys (length-table l) (table-keys l h.0) i;
  ids = front id_in (table l) l.used l.ids (length-table l) (table-ids l h.1.0) i;
  xs = front x_in (table l) l.used l.xs (length-table l) (table-xs l h.1.1.0) i;
  ys = front y_in (table l) l.used l.ys (length-table l) (table-ys l h.1.1.1.0) i;
  zs = front z_in (table l) l.used l.zs (length-table l) (table-zs l h.1.1.1.1.0) i;
  used = length-table l i;
}

-- and again, as many or more
pub write-write : (rows more : List Row) (l : Library) → length rows ≤ length more → write more (write rows l) ≡ write more l
unfolding write
write-write rows more l h = λ i. record {
  keys = again key_in l.keys i;
  ids = again id_in l.ids i;
  xs = again x_in l.xs i;
  ys = again y_in l.ys i;
  zs = again z_in l.zs i;
  used = length more;
}
  where
    again : {A : Type 0} (f : Row → A) (c : List A) → over (map f more) (over (map f rows) c) ≡ over (map f more) c
    again f c = over-over (map f rows) (map f more) c (omega (arith, length-map rows f, length-map more f))

-- in the same space, where there is room
abbrev pub SameLengths : Library → Library → Type 0
SameLengths l after =
    (length after.keys ≡ length l.keys)
    × (length after.ids ≡ length l.ids)
    × (length after.xs ≡ length l.xs)
    × (length after.ys ≡ length l.ys)
    × (length after.zs ≡ length l.zs)

pub same-lengths : (rows : List Row) (l : Library) → Room l (length rows) → SameLengths l (write rows l)
unfolding write
same-lengths rows l h =
    (kept key_in l.keys h.0, kept id_in l.ids h.1.0, kept x_in l.xs h.1.1.0, kept y_in l.ys h.1.1.1.0, kept z_in l.zs h.1.1.1.1.0)
  where
    kept : {A : Type 0} (f : Row → A) (c : List A) → length rows ≤ length c → length (over (map f rows) c) ≡ length c
    kept f c h = length_over (map f rows) c (omega (arith, length-map rows f))

pub space-write : (rows : List Row) (l : Library) → Room l (length rows) → space (write rows l) ≡ space l
unfolding space
space-write rows l h = let m = same-lengths rows l h in λ i. record { rows = m.0 i ∷ m.1 i ∷ m.2 i ∷ m.3 i ∷ m.4 i ∷ [] }

-- the same lists with zeros in every entry have the same space
pub space-blank : (l : Library) → space (blank l) ≡ space l
unfolding space blank
space-blank l = simp length-map

-- and rows written over zeros leave it, where there is room
pub space_anew : (rows : List Row) (l : Library) → Room l (length rows) → space (write rows (blank l)) ≡ space l
space_anew rows l h = space-write rows (blank l) (unfold space in subst (λ (s : Space). Long s.rows (length rows)) (sym (space-blank l)) h) ∙ space-blank l

-- ---- one thing done to each list, where that is what writing rows is to one list

pub each_written : (F : (A : Type 0) → A → List A → List A) (row : Row) (rows : List Row) (l after : Library) (n : ℕ) → Room l l.used → Room l (length rows)
    → ((A : Type 0) (f : Row → A) (c : List A) → map f (table l) ≡ take l.used c → length rows ≤ length c → over (map f rows) c ≡ F A (f row) c)
    → n ≡ length rows → after ≡ counted n (each_of F row l) → after ≡ write rows l
unfolding write
each_written F row rows l after n h m law k e = e ∙ λ i. record {
  keys = sym (law ℕ key_in l.keys (table-keys l h.0) m.0) i;
  ids = sym (law ℕ id_in l.ids (table-ids l h.1.0) m.1.0) i;
  xs = sym (law Float x_in l.xs (table-xs l h.1.1.0) m.1.1.0) i;
  ys = sym (law Float y_in l.ys (table-ys l h.1.1.1.0) m.1.1.1.0) i;
  zs = sym (law Float z_in l.zs (table-zs l h.1.1.1.1.0) m.1.1.1.1.0) i;
  used = k i;
}
