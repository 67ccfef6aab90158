-- One mark stored in several containers, and laws of several stores one after the other.
-- Assumes nothing.
use Prim.Native.Nat.{ℕ, ◌+◌, ◌≤◌, ◌<◌}
use native.Mathlib.Numerals.{add-one}
use native.Mathlib.Omega.{arith}
use mathlib.Core.Path.{◌≡◌, refl, sym, ap, ap₂, ◌∙◌, subst}
use mathlib.Core.Bool.{true}
use mathlib.Core.List.{List, [], ◌∷◌, ◌++◌, map}
use lib.ListN.{length, get_or, take, drop, take-append-drop}
use lib.Seq.{take-suc, take_all}
use Rattle.basics.proofs.Bools.{by_test}
use Rattle.geometry.specs.declared.Position.{Position}
use Rattle.table.specs.declared.Row.{Row}
use Rattle.table.specs.Rows.{slot_of, sorted, held, row_in, put_row, put_in}
use Rattle.table.specs.Library.{Library, table, write}
use Rattle.table.specs.Posts.{Room, Takes, Becomes}
use Rattle.table.proofs.Stores.{length-put}
use Rattle.table.proofs.Meaning.{sorted-put}
use Rattle.table.proofs.Libraries.{table-write, write-used, write_same, write-write, SameLengths, same-lengths}

pub put-longer : (r : Row) (rows : List Row) → length rows ≤ length (put_row r rows)
put-longer r rows = by_test (held (slot_of r) (map slot_of rows)) (λ e. omega (arith, rw e at (length-put r rows))) (λ e. omega (arith, rw e at (length-put r rows)))

pub all-longer : (id : ℕ) (at : Position) (ks : List ℕ) (rows : List Row) → length rows ≤ length (put_in id at ks rows)
unfolding put_in
all-longer id at [] rows = omega arith
all-longer id at (k ∷ ks) rows = omega (arith, put-longer (row_in id at k) rows, all-longer id at ks (put_row (row_in id at k) rows))

pub all_append : (id : ℕ) (at : Position) (ks ls : List ℕ) (rows : List Row) → put_in id at (ks ++ ls) rows ≡ put_in id at ls (put_in id at ks rows)
unfolding put_in
all_append id at [] ls rows = refl
all_append id at (k ∷ ks) ls rows = all_append id at ks ls (put_row (row_in id at k) rows)

pub all-next : (id : ℕ) (at : Position) (ks : List ℕ) (i : ℕ) (rows : List Row) → i < length ks
    → put_in id at (take (i + 1) ks) rows ≡ put_row (row_in id at (get_or ks i 0)) (put_in id at (take i ks) rows)
unfolding put_in
all-next id at ks i rows h = rw (add-one, take-suc ks i 0 h) (all_append id at (take i ks) (get_or ks i 0 ∷ []) rows)

-- what a part of the stores makes is no longer than what they all make
pub all_part : (id : ℕ) (at : Position) (ks : List ℕ) (i : ℕ) (rows : List Row) → length (put_in id at (take i ks) rows) ≤ length (put_in id at ks rows)
all_part id at ks i rows =
    subst (λ (l : List ℕ). length (put_in id at (take i ks) rows) ≤ length (put_in id at l rows)) (take-append-drop i ks)
    (rw (all_append id at (take i ks) (drop i ks) rows) (all-longer id at (drop i ks) (put_in id at (take i ks) rows)))

pub sorted_all : (id : ℕ) (at : Position) (ks : List ℕ) (rows : List Row) → sorted (map slot_of rows) ≡ true → sorted (map slot_of (put_in id at ks rows)) ≡ true
unfolding put_in
sorted_all id at [] rows e = e
sorted_all id at (k ∷ ks) rows e = sorted_all id at ks (put_row (row_in id at k) rows) (sorted-put (row_in id at k) rows e)

-- ---- the loop that stores a mark in each container of a list

module _ (id : ℕ) (at : Position) (into : List ℕ) (l : Library) (t : Takes (put_in id at into) l) where
  pub all_start : Becomes (put_in id at (take 0 into)) l l
  unfolding put_in
  all_start = sym (write_same l t.rows.room)

  module _ (i : ℕ) {m : Library} (h : Becomes (put_in id at (take i into)) l m) where
    abbrev done : List Row
    done = put_in id at (take i into) (table l)

    done_room : Room l (length done)
    done_room = omega (arith, all_part id at into i (table l), t.room)

    pub all-lengths : SameLengths l m
    all-lengths = rw h (same-lengths done l done_room)

    rows_are : table m ≡ done
    rows_are = ap table h ∙ table-write done l

    count-is : m.used ≡ length done
    count-is = ap (λ (k : Library). k.used) h ∙ write-used done l

    -- one more
    pub all_takes : i < length into → Takes (put_row (row_in id at (get_or into i 0))) m
    all_takes k =
        let next : length (put_row (row_in id at (get_or into i 0)) (table m)) ≡ length (put_in id at (take (i + 1) into) (table l)) =
        ap length (ap (put_row (row_in id at (get_or into i 0))) rows_are ∙ sym (all-next id at into i (table l) k)) in
        record {
          rows = record {
            room = omega (arith, all-lengths, done_room, count-is);
            order = rw rows_are (sorted_all id at (take i into) (table l) t.rows.order);
          };
          room = omega (arith, all-lengths, next, all_part id at into (i + 1) (table l), t.room);
        }

    pub all_again : {n : Library} → i < length into → Becomes (put_row (row_in id at (get_or into i 0))) m n → Becomes (put_in id at (take (i + 1) into)) l n
    all_again k g =
        let row = row_in id at (get_or into i 0) in
        g
        ∙ ap₂ write (ap (put_row row) rows_are) h
        ∙ write-write done (put_row row done) l (put-longer row done)
        ∙ ap (λ (rows : List Row). write rows l) (sym (all-next id at into i (table l) k))

    pub all_end : length into ≤ i → Becomes (put_in id at into) l m
    all_end k = rw (take_all i into k) at h
