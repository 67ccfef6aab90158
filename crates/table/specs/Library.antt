-- A library as it is lent: five lists and a used count. Its meaning is the list of the rows in use; entries past the count are of any content.
-- Assumes nothing.
use Rattle.std.specs.Prelude.{ℕ, Bool, true, ◌&&◌, List, [], ◌∷◌, map, ltb, leb, eqb, length, get_or, Float}
use Rattle.std.specs.Float.{nan}
use Rattle.basics.specs.Lists.{all, any, tab, over}
use Rattle.floats.specs.Rounded.{zero_f}
use Rattle.table.specs.declared.Row.{Row}
use Rattle.table.specs.Rows.{row_of, key_in, id_in, x_in, y_in, z_in}

pub record Library : Type 0 where
  pub keys : List ℕ
  pub ids : List ℕ
  pub xs : List Float
  pub ys : List Float
  pub zs : List Float
  pub used : ℕ

abbrev pub library : List ℕ → List ℕ → List Float → List Float → List Float → ℕ → Library
library keys ids xs ys zs used = record { keys = keys; ids = ids; xs = xs; ys = ys; zs = zs; used = used }

-- ---- the layout: the only definitions that look at the five lists

-- the row at an index of the lists, and the first n of them
abbrev pub row_at : Library → ℕ → Row
row_at l i = row_of (get_or l.keys i 0) (get_or l.ids i 0) (get_or l.xs i nan) (get_or l.ys i nan) (get_or l.zs i nan)

unfoldable pub rows_of : Library → ℕ → List Row
rows_of l n = tab n (row_at l)

-- the rows in use
unfoldable pub table : Library → List Row
unfolding rows_of
table l = rows_of l l.used

-- the library with these rows in use: what stands past them stays
unfoldable pub write : List Row → Library → Library
unfolding over
write rows l = record {
  keys = over (map key_in rows) l.keys;
  ids = over (map id_in rows) l.ids;
  xs = over (map x_in rows) l.xs;
  ys = over (map y_in rows) l.ys;
  zs = over (map z_in rows) l.zs;
  used = length rows;
}

-- the lists with 0 or +0 in every entry, and no row in use
unfoldable pub blank : Library → Library
blank l = record {
  keys = map (λ (k : ℕ). 0) l.keys;
  ids = map (λ (i : ℕ). 0) l.ids;
  xs = map (λ (x : Float). zero_f) l.xs;
  ys = map (λ (y : Float). zero_f) l.ys;
  zs = map (λ (z : Float). zero_f) l.zs;
  used = 0;
}

-- how many entries each list has
abbrev pub lengths : Library → List ℕ
lengths l = length l.keys ∷ length l.ids ∷ length l.xs ∷ length l.ys ∷ length l.zs ∷ []

-- ---- the room that was lent, and what 24, 12 and 13 say of it

pub record Space : Type 0 where
  pub rows : List ℕ

unfoldable pub space : Library → Space
space l = record { rows = lengths l }

-- 24: a list holds more than 65,536 entries, used or not
unfoldable pub too_long : Space → Bool
unfolding any
too_long s = any (λ (n : ℕ). ltb 65536 n) s.rows

-- the lists are of one length
unfoldable pub level : List ℕ → Bool
unfolding all
level [] = true
level (n ∷ ns) = all (λ (m : ℕ). eqb m n) ns

-- that many rows have room
unfoldable pub fits : List ℕ → ℕ → Bool
fits [] n = true
fits (c ∷ cs) n = leb n c

unfoldable pub roomy : Space → List Row → Bool
unfolding fits
roomy s rows = fits s.rows (length rows)

-- the layout's part of 13: the lists are of one length, and the used count is not above it
unfoldable pub sound_layout : Library → Bool
unfolding level fits space
sound_layout l = level (space l).rows && fits (space l).rows l.used
