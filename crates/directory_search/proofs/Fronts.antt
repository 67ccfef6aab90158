-- A library up to the end of a container's rows: what a search in that container finds there is what it finds in the whole library.
-- Assumes nothing.
use Prim.Native.Nat.{ℕ, zero, suc, ◌+◌, ◌≤◌}
use native.Mathlib.Nat.{le_of_suc-le-suc, not-suc-le-zero}
use native.Mathlib.Omega.{arith}
use mathlib.Core.Path.{◌≡◌, refl, sym, ap, ap₂, ◌∙◌}
use mathlib.Core.Bool.{true}
use mathlib.Core.List.{List, [], ◌∷◌, map}
use lib.Dec.{eqb}
use lib.ListN.{take}
use lib.Ieee.{Float, le}
use Rattle.basics.specs.Lists.{keep, tab}
use Rattle.basics.proofs.Bools.{and_left}
use Rattle.basics.proofs.Lists.{keep-within}
use Rattle.geometry.specs.Position.{coords}
use Rattle.geometry.specs.Distances.{point_point}
use Rattle.grid_search.specs.declared.GridSearch.{GridSearch}
use Rattle.table.specs.declared.Row.{Row}
use Rattle.table.specs.Rows.{lead, key_in}
use Rattle.table.specs.Library.{Library, library, row_at, rows_of, table, lengths}
use Rattle.table.specs.Posts.{Long, InOrder}
use Rattle.table.proofs.Libraries.{length-table, table-keys}
use Rattle.rows.specs.Insert.{container_of}
use Rattle.search.specs.Search.{is_near, near_rows}
use Rattle.directory.specs.Claims.{lower_rows, rows_within}
use Rattle.directory_search.proofs.Containers.{theirs, no_theirs, ends-most, leads-upto, theirs_upto, sorted-upto}

-- ---- near rows are of the position's container

module _ (s : GridSearch) (x : List Float) (key : ℕ) (c : container_of s x ≡ key) where
  near-key : (r : Row) → is_near s x r ≡ true → eqb (key_in r) key ≡ true
  unfolding is_near
  near-key r h = rw (← c) (and_left (eqb (key_in r) (container_of s x)) (le (point_point (coords s.ndim r.at) x) s.tol_dist) h)

  near_theirs : (rows : List Row) → near_rows s x rows ≡ keep (is_near s x) (theirs key rows)
  unfolding near_rows
  near_theirs rows = sym (keep-within (is_near s x) (λ (r : Row). eqb (key_in r) key) near-key rows)

  -- so rows of which the container's are the same have the same near ones
  pub near_same : (rows more : List Row) → theirs key rows ≡ theirs key more → near_rows s x rows ≡ near_rows s x more
  near_same rows more e = near_theirs rows ∙ ap (keep (is_near s x)) e ∙ sym (near_theirs more)

  pub near_none : (rows : List Row) → rows_within key rows ≡ 0 → near_rows s x rows ≡ []
  unfolding keep
  near_none rows e = near_theirs rows ∙ ap (keep (is_near s x)) (no_theirs key rows e)

-- ---- fewer rows in use

long_fewer : (ns : List ℕ) (m n : ℕ) → m ≤ n → Long ns n → Long ns m
long_fewer [] m n h w = tt
long_fewer (k ∷ ks) m n h w = (omega (arith, w.0), long_fewer ks m n h w.1)

take-tab : (m n : ℕ) (f : ℕ → Row) → m ≤ n → take m (tab n f) ≡ tab m f
take-tab zero n f h = refl
take-tab (suc m) zero f h = absurd (not-suc-le-zero h)
take-tab (suc m) (suc n) f h = ap (λ (rows : List Row). f 0 ∷ rows) (take-tab m n (λ i. f (suc i)) (le_of_suc-le-suc h))

abbrev pub front : Library → ℕ → Library
front l n = library l.keys l.ids l.xs l.ys l.zs n

table-front : (l : Library) (n : ℕ) → n ≤ l.used → table (front l n) ≡ take n (table l)
unfolding table rows_of
table-front l n h = sym (take-tab n l.used (row_at l) h)

-- ---- up to the end of a container's rows

module _ (l : Library) (o : InOrder l) (key from n : ℕ) (f : from ≡ lower_rows key (table l)) (c : n ≡ rows_within key (table l)) where
  abbrev end : ℕ
  end = from + n

  pub front-most : end ≤ l.used
  front-most = omega (arith, ends-most key (table l) o.order, length-table l)

  rows_upto : table (front l end) ≡ take (lower_rows key (table l) + rows_within key (table l)) (table l)
  rows_upto = table-front l end front-most ∙ ap (λ (m : ℕ). take m (table l)) (ap₂ ◌+◌ f c)

  pub front-order : InOrder (front l end)
  front-order = record {
    room = long_fewer (lengths l) end l.used front-most o.room;
    order = rw rows_upto (sorted-upto (lower_rows key (table l) + rows_within key (table l)) (table l) o.order);
  }

  pub front-first : from ≡ lead key (take end l.keys)
  front-first =
      f ∙ sym (leads-upto key (table l) o.order) ∙ ap (λ (rows : List Row). lead key (map key_in rows)) (sym rows_upto)
      ∙ ap (lead key) (table-keys (front l end) front-order.room.0)

  pub front-near : (s : GridSearch) (x : List Float) → container_of s x ≡ key → near_rows s x (table (front l end)) ≡ near_rows s x (table l)
  front-near s x e = near_same s x key e (table (front l end)) (table l) (ap (theirs key) rows_upto ∙ theirs_upto key (table l) o.order)
