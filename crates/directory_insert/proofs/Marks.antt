-- A mark stored in several containers, with the directory brought up to date beside the rows.
-- Assumes nothing.
use Prim.Native.Nat.{ℕ, suc, ◌+◌, ◌^◌, ◌≤◌, ◌<◌}
use native.Mathlib.Omega.{arith}
use mathlib.Core.Path.{◌≡◌, sym, ap, ap₂, ◌∙◌, subst}
use mathlib.Core.Bool.{true, false}
use mathlib.Core.List.{List, [], ◌∷◌, map}
use lib.Dec.{leb}
use lib.ListN.{length, get_or, take, drop, take-append-drop}
use lib.Seq.{get_or-take, take_all}
use borrow.Author.Tests.{leb-true}
use Rattle.basics.proofs.Bools.{by_test, and_both}
use Rattle.basics.specs.Lists.{all}
use Rattle.basics.proofs.Lists.{all_at, get_or-tab}
use Rattle.geometry.specs.declared.Position.{Position}
use Rattle.table.specs.declared.Row.{Row}
use Rattle.table.specs.Rows.{slot_of, sorted, held, row_in, put_row, put_in}
use Rattle.table.specs.Library.{Library, table}
use Rattle.std.specs.List.Sorted.{IsNonDecreasing}
use Rattle.table.specs.Posts.{Takes, Becomes}
use Rattle.table.proofs.First.{take-rising}
use Rattle.table.proofs.Stores.{length-put}
use Rattle.table.proofs.Meaning.{sorted-put}
use Rattle.table.proofs.Libraries.{table-write, write-used}
use Rattle.table.proofs.All.{all_append, all-next, sorted_all, all_start, all_takes, all_again}
use Rattle.directory.specs.declared.Entry.{Entry}
use Rattle.directory.specs.Entries.{entry, key_of, directory_of}
use Rattle.directory.specs.Directory.{Directory, entry_at, entries}
use Rattle.directory.specs.Posts.{PlaceRoom}
use Rattle.directory.proofs.Passing.{entries-count, entries-keys, place-room}
use Rattle.directory_insert.specs.Posts.{entered, write_places, Enters, TakesAll, BecomesBoth}
use Rattle.directory_insert.proofs.Entered.{directory_new, directory_old, directory-longer, directory_rises, directory-within, within}
use Rattle.directory_insert.proofs.Directories.{entries-write, write_same, write-write, AsLong, as-long}

-- ---- what is known of a directory that matches rows in order

module _ (d : Directory) (rows : List Row) (m : entries d ≡ directory_of rows) where
  pub places-are : d.used ≡ length (directory_of rows)
  places-are = sym (entries-count d) ∙ ap length m

  pub matching_rises : sorted (map slot_of rows) ≡ true → d.used ≤ length d.keys → IsNonDecreasing (take d.used d.keys)
  matching_rises o r = take-rising d.keys d.used r (λ i j h k. rw (at i (omega arith), at j k) (directory_rises rows o i j h (omega (arith, places-are))))
    where
      at : (i : ℕ) → i < d.used → get_or d.keys i 0 ≡ get_or (map key_of (directory_of rows)) i 0
      at i h = sym (get_or-take d.used d.keys i 0 h) ∙ ap (λ (ks : List ℕ). get_or ks i 0) (sym (entries-keys d r) ∙ ap (map key_of) m)

  -- its firsts and counts are not above the number of rows
  pub matching-small : (i : ℕ) → i < d.used → (get_or d.firsts i 0 ≤ length rows) × (get_or d.counts i 0 ≤ length rows)
  unfolding entries
  matching-small i h =
      let n = length rows in
      let w : all (within n n) (entries d) ≡ true = ap (all (within n n)) m ∙ directory-within rows in
      let e : within n n (entry_at d i) ≡ true =
      ap (within n n) (sym (get_or-tab d.used (entry_at d) i (entry 0 0 0) h)) ∙ all_at (within n n) (entries d) i (entry 0 0 0) (omega (arith, entries-count d)) w in
      let both = and_both (leb (get_or d.firsts i 0) n) (leb (get_or d.counts i 0) n) e in
      (leb-true _ n both.0, leb-true _ n both.1)

-- ---- the directory grows with the rows

grows : (id : ℕ) (at : Position) (ks : List ℕ) (rows : List Row) → sorted (map slot_of rows) ≡ true → length (directory_of rows) ≤ length (directory_of (put_in id at ks rows))
unfolding put_in
grows id at [] rows o = omega arith
grows id at (k ∷ ks) rows o =
    let r = row_in id at k in
    omega (arith, directory-longer r rows o, grows id at ks (put_row r rows) (sorted-put r rows o))

grows_part : (id : ℕ) (at : Position) (ks : List ℕ) (i : ℕ) (rows : List Row) → sorted (map slot_of rows) ≡ true
    → length (directory_of (put_in id at (take i ks) rows)) ≤ length (directory_of (put_in id at ks rows))
grows_part id at ks i rows o =
    subst (λ (l : List ℕ). length (directory_of (put_in id at (take i ks) rows)) ≤ length (directory_of (put_in id at l rows))) (take-append-drop i ks)
    (rw (all_append id at (take i ks) (drop i ks) rows) (grows id at (drop i ks) (put_in id at (take i ks) rows) (sorted_all id at (take i ks) rows o)))

-- ---- a row that is stored, by the number of rows before and after it

module _ (r : Row) (rows : List Row) where
  made_none : length rows ≡ length (put_row r rows) → held (slot_of r) (map slot_of rows) ≡ true
  made_none e = by_test (held (slot_of r) (map slot_of rows)) (λ h. h) (λ h. absurd (omega (arith, rw h at (length-put r rows))))

  made_one : (length rows ≡ length (put_row r rows) → ⊥) → held (slot_of r) (map slot_of rows) ≡ false
  made_one e = by_test (held (slot_of r) (map slot_of rows)) (λ h. absurd (e (sym (rw h at (length-put r rows))))) (λ h. h)

-- ---- the loop that stores a mark in each container of a list

module _ (id : ℕ) (at : Position) (into : List ℕ) (l : Library) (d : Directory) (t : TakesAll (put_in id at into) l d) where
  takes : Takes (put_in id at into) l
  takes = t.both.rows

  order : sorted (map slot_of (table l)) ≡ true
  order = takes.rows.order

  pub both-start : BecomesBoth (put_in id at (take 0 into)) l d l d
  unfolding put_in
  both-start = record {
    rows = all_start id at into l takes;
    places-are = sym (ap (λ (es : List Entry). write_places es d) (sym t.both.matching) ∙ write_same d (place-room d t.both.layout));
  }

  module _ (i : ℕ) {m : Library} {e : Directory} (h : BecomesBoth (put_in id at (take i into)) l d m e) where
    abbrev done : List Row
    done = put_in id at (take i into) (table l)

    sorted_done : sorted (map slot_of done) ≡ true
    sorted_done = sorted_all id at (take i into) (table l) order

    rows_are : table m ≡ done
    rows_are = ap table h.rows ∙ table-write done l

    count-is : m.used ≡ length done
    count-is = ap (λ (k : Library). k.used) h.rows ∙ write-used done l

    entries-are : entries e ≡ directory_of done
    entries-are = ap entries h.places-are ∙ entries-write (directory_of done) d

    room_done : PlaceRoom d (length (directory_of done))
    room_done = omega (arith, grows_part id at into i (table l) order, t.room)

    pub both-places : AsLong d e
    both-places = rw h.places-are (as-long (directory_of done) d room_done)

    used-are : e.used ≡ length (directory_of done)
    used-are = places-are e done entries-are

    pub both_takes : i < length into → Takes (put_row (row_in id at (get_or into i 0))) m
    both_takes k = all_takes id at into l takes i h.rows k

    -- one more
    module _ (k : i < length into) {n : Library} (g : Becomes (put_row (row_in id at (get_or into i 0))) m n) where
      abbrev row : Row
      row = row_in id at (get_or into i 0)

      next-is : put_in id at (take (i + 1) into) (table l) ≡ put_row row done
      next-is = all-next id at into i (table l) k

      next-count : n.used ≡ length (put_row row done)
      next-count = ap (λ (j : Library). j.used) g ∙ write-used (put_row row (table m)) m ∙ ap (λ (rows : List Row). length (put_row row rows)) rows_are

      -- it made a row
      module _ (y : m.used ≡ n.used → ⊥) where
        new_row : directory_of (put_row row done) ≡ entered (get_or into i 0) m.used (entries e)
        new_row =
            directory_new row done sorted_done (made_one row done (λ q. y (count-is ∙ q ∙ sym next-count)))
            ∙ ap₂ (λ (j : ℕ) (es : List Entry). entered (get_or into i 0) j es) (sym count-is) (sym entries-are)

        one_row : n.used ≡ m.used + 1
        one_row =
            let made : length (put_row row done) ≡ suc (length done) = length-put row done ∙ rw (made_one row done (λ q. y (count-is ∙ q ∙ sym next-count))) in
            omega (arith, made, next-count, count-is)

        pub both_enters : n.used < 2 ^ 64 → Enters (get_or into i 0) m.used e
        both_enters few =
            let most : length (entered (get_or into i 0) m.used (entries e)) ≤ length (directory_of (put_in id at into (table l))) =
            omega (arith, ap length new_row, ap (λ (rows : List Row). length (directory_of rows)) next-is, grows_part id at into (i + 1) (table l) order) in
            record {
              rising = matching_rises e done entries-are sorted_done (omega (arith, room_done, both-places, used-are));
              room = omega (arith, room_done, both-places, used-are);
              enough = omega (arith, most, both-places, t.room);
              few = omega (arith, one_row);
              small = rw count-is (matching-small e done entries-are);
            }

        pub both-more : {after : Directory} → after ≡ write_places (entered (get_or into i 0) m.used (entries e)) e → BecomesBoth (put_in id at (take (i + 1) into)) l d n after
        both-more {after} q = record {
          rows = all_again id at into l takes i h.rows k g;
          places-are =
              q
              ∙ ap₂ write_places (sym new_row) h.places-are
              ∙ write-write (directory_of done) (directory_of (put_row row done)) d (directory-longer row done sorted_done)
              ∙ ap (λ (rows : List Row). write_places (directory_of rows) d) (sym next-is);
        }

      -- it made none
      pub both-same : m.used ≡ n.used → BecomesBoth (put_in id at (take (i + 1) into)) l d n e
      both-same y = record {
        rows = all_again id at into l takes i h.rows k g;
        places-are =
            h.places-are
            ∙ ap (λ (es : List Entry). write_places es d) (sym (directory_old row done (made_none row done (sym count-is ∙ y ∙ next-count))))
            ∙ ap (λ (rows : List Row). write_places (directory_of rows) d) (sym next-is);
      }

    pub both_end : length into ≤ i → BecomesBoth (put_in id at into) l d m e
    both_end k = rw (take_all i into k) at h
