-- The pass over the places: the ids of a place's rows counted, and the places that are left at the front.
-- Assumes nothing.
use Prim.Native.Nat.{ℕ, zero, suc, ◌+◌, ◌-◌, ◌≤◌, ◌<◌}
use native.Mathlib.Omega.{arith}
use native.Mathlib.Nat.{add-zero}
use native.Mathlib.Numerals.{add-one}
use mathlib.Core.Path.{◌≡◌, refl, sym, ap, ap₂, ◌∙◌, subst}
use mathlib.Core.Bool.{true, false, not, cond}
use mathlib.Core.List.{List, [], ◌∷◌, ◌++◌, map, append_assoc, append-nil}
use lib.Dec.{eqb}
use lib.ListN.{length, get_or, take, drop, length-map, length-set, length-drop, drop_of_length-le}
use lib.Seq.{drop-cons, drop-drop, length-take-le, get_or-drop, get_or-set_same, get_or-set_other}
use mir.Val.{bool_byte}
use Rattle.std.specs.Prelude.{count_by}
use Rattle.std.proofs.lemmas.List.Recursion.{is_count_by}
use Rattle.basics.proofs.Bools.{by_test}
use Rattle.basics.specs.Lists.{leading, tab}
use Rattle.basics.proofs.Lists.{length-tab, drop-tab, map-tab, tab-take}
use Rattle.table.specs.Posts.{Long}
use Rattle.strike.proofs.Removal.{leading-before, tab-next, tab-same, entry as same}
use Rattle.directory.specs.declared.Entry.{Entry}
use Rattle.directory.specs.Entries.{entry, key_of, first_of, count_of}
use Rattle.directory.specs.Directory.{Directory, directory, entry_at, entries, places}
use Rattle.directory.specs.Posts.{PlaceRoom, Fronted, Written, placed}
use Rattle.directory_strike.specs.Posts.{others, Quiet, thinned, total, Thins}

-- ---- how many ids are others

others-most : (id : ℕ) (ids : List ℕ) → others id ids ≤ length ids
unfolding others
others-most id [] = omega arith
others-most id (j ∷ ids) = by_test (eqb j id) (λ e. rw e (omega (arith, others-most id ids))) (λ e. rw e (omega (arith, others-most id ids)))

-- as the library's filter counts them
pub others-count : (id : ℕ) (ids : List ℕ) → others id ids ≡ count_by (λ j. not (eqb j id)) ids
unfolding others
others-count id ids = is_count_by (others id) (λ j. not (eqb j id)) refl (λ j js. by_test (eqb j id) (λ e. rw e) (λ e. rw e (omega arith))) ids

-- ---- rows of other ids alone

pub quiet-later : {id from later end : ℕ} {ids : List ℕ} → from ≤ later → Quiet id from end ids → Quiet id later end ids
quiet-later h q = record { other = λ j k l. q.other j (omega arith) l }

-- up to the first that a search from there finds, or to the end
quiet-leading : {id from n : ℕ} (ids : List ℕ) → n ≤ leading id (drop from ids) → Quiet id from (from + n) ids
quiet-leading {id} {from} {n} ids h = record { other = other }
  where
    other : (j : ℕ) → from ≤ j → j < from + n → eqb (get_or ids j 0) id ≡ false
    other j k l =
        let m : from + (j - from) ≡ j = omega arith in
        ap (λ (i : ℕ). eqb (get_or ids i 0) id) (sym m) ∙ ap (λ (i : ℕ). eqb i id) (sym (get_or-drop from ids (j - from) 0)) ∙ leading-before id (drop from ids) (j - from) (omega arith)

module _ {id from : ℕ} (ids : List ℕ) (h : from ≤ length ids) where
  pub quiet-found : {n : ℕ} → leading id (drop from ids) ≡ n → Quiet id from (from + n) ids
  quiet-found e = quiet-leading ids (omega (arith, e))

  pub quiet-none : leading id (drop from ids) ≡ length (drop from ids) → Quiet id from (length ids) ids
  quiet-none e =
      let m : from + length (drop from ids) ≡ length ids = omega (arith, length-drop from ids) in
      subst (λ (n : ℕ). Quiet id from n ids) m (quiet-leading ids (omega (arith, e)))

quiet_all : (id : ℕ) (count row end : ℕ) (ids : List ℕ) → row + count ≤ end → row + count ≤ length ids → Quiet id row end ids → others id (take count (drop row ids)) ≡ count
unfolding others
quiet_all id zero row end ids h k q = refl
quiet_all id (suc count) row end ids h k q =
    rw (drop-cons ids row 0 (omega arith), q.other row (omega arith) (omega arith)) (ap suc (quiet_all id count (suc row) end ids (omega arith) (omega arith) (quiet-later (omega arith) q)))

pub quiet-count : {id count row end : ℕ} {ids : List ℕ} → row + count ≤ end → row + count ≤ length ids → Quiet id row end ids → count ≡ others id (take count (drop row ids))
quiet-count {id} {count} {row} {end} {ids} h k q = sym (quiet_all id count row end ids h k q)

-- ---- the pass: the first i places are looked at, and `at` of them are left, at the front; those from i on are as they were. The rows of place i begin at `row`,
-- and will begin at `first`.

pub record Thinning (id at i row first : ℕ) (ids : List ℕ) (d now : Directory) : Type 0 where
  pub upto : i ≤ d.used
  pub lower : at ≤ i
  pub fewer : first ≤ row
  pub rows : row + total (drop i (entries d)) ≤ length ids
  pub front : thinned id 0 (entries d) ids ≡ tab at (entry_at now) ++ thinned id first (drop i (entries d)) (drop row ids)
  pub rest : (j : ℕ) → i ≤ j → entry_at now j ≡ entry_at d j
  pub lengths-are : places now ≡ places d
  pub used-is : now.used ≡ d.used

-- the directory with another used count
abbrev pub counting : ℕ → Directory → Directory
counting n d = directory d.keys d.firsts d.counts n

pub thinning_start : {id from : ℕ} {ids : List ℕ} (d : Directory) → Thins id from ids d → Thinning id 0 0 0 0 ids d d
thinning_start d s = record {
  upto = omega arith;
  lower = omega arith;
  fewer = omega arith;
  rows = omega (arith, s.rows);
  front = refl;
  rest = λ j h. refl;
  lengths-are = refl;
  used-is = refl;
}

-- the lists are as long as they were
pub thinning_room : {id at i row first : ℕ} {ids : List ℕ} {d now : Directory} → Thinning id at i row first ids d now → (n : ℕ) → n ≤ d.used → PlaceRoom d d.used → PlaceRoom now n
thinning_room g n h room = subst (λ (ns : List ℕ). Long ns n) (sym g.lengths-are) (omega arith)

module _ (at : ℕ) (e : Entry) (d : Directory) where
  placed-other : (j : ℕ) → (j ≡ at → ⊥) → entry_at (placed at e d) j ≡ entry_at d j
  placed-other j h = λ i. entry (get_or-set_other d.keys at j e.key 0 h i) (get_or-set_other d.firsts at j e.first 0 h i) (get_or-set_other d.counts at j e.count 0 h i)

  placed_there : PlaceRoom d (at + 1) → entry_at (placed at e d) at ≡ e
  placed_there h =
      λ i. entry (get_or-set_same d.keys at e.key 0 (omega arith) i) (get_or-set_same d.firsts at e.first 0 (omega arith) i) (get_or-set_same d.counts at e.count 0 (omega arith) i)

  placed-lengths : places (placed at e d) ≡ places d
  placed-lengths = λ i. length-set d.keys at e.key i ∷ length-set d.firsts at e.first i ∷ length-set d.counts at e.count i ∷ []

module _ {id at i row first : ℕ} {ids : List ℕ} {d now : Directory} (g : Thinning id at i row first ids d now) (h : i < d.used) where
  -- place i, and those behind it
  from_here : drop i (entries d) ≡ entry_at now i ∷ drop (i + 1) (entries d)
  unfolding entries
  from_here = rw add-one (drop-tab d.used (entry_at d) i h ∙ ap (λ (e : Entry). e ∷ drop (suc i) (tab d.used (entry_at d))) (sym (g.rest i (omega arith))))

  abbrev count : ℕ
  count = get_or now.counts i 0

  -- its rows are there
  pub enough : row + count + total (drop (i + 1) (entries d)) ≤ length ids
  enough = let t : total (drop i (entries d)) ≡ count + total (drop (i + 1) (entries d)) = ap total from_here ∙ unfold total in refl in omega (arith, g.rows)

  module _ {left : ℕ} (q : left ≡ others id (take count (drop row ids))) where
    pub left_most : left ≤ count
    left_most = omega (arith, q, others-most id (take count (drop row ids)), length-take-le count (drop row ids) (rw length-drop (omega (arith, enough))))

    behind : thinned id first (drop i (entries d)) (drop row ids)
        ≡ cond (eqb left 0) (thinned id (first + left) (drop (i + 1) (entries d)) (drop (row + count) ids))
        (entry (get_or now.keys i 0) first left ∷ thinned id (first + left) (drop (i + 1) (entries d)) (drop (row + count) ids))
    behind = ap (λ (es : List Entry). thinned id first es (drop row ids)) from_here ∙ unfold thinned in rw (← q, drop-drop)

    abbrev e : Entry
    e = entry (get_or now.keys i 0) first left

    pub thinning-next : {r : ℕ} {after : Directory} → PlaceRoom d d.used → after ≡ placed at e now → r ≡ at + bool_byte (not (eqb left 0))
        → Thinning id r (i + 1) (row + count) (first + left) ids d after
    thinning-next {r} {after} room moved next = by_test (eqb left 0) gone kept
      where
        front_kept : tab at (entry_at after) ≡ tab at (entry_at now)
        front_kept = rw moved (tab-same at (entry_at (placed at e now)) (entry_at now) (λ j k. placed-other at e now j (λ z. omega arith)))

        rest_kept : (j : ℕ) → i + 1 ≤ j → entry_at after j ≡ entry_at d j
        rest_kept j k = ap (λ (m : Directory). entry_at m j) moved ∙ placed-other at e now j (λ z. omega (arith, g.lower)) ∙ g.rest j (omega arith)

        lengths_kept : places after ≡ places d
        lengths_kept = ap places moved ∙ placed-lengths at e now ∙ g.lengths-are

        gone : eqb left 0 ≡ true → Thinning id r (i + 1) (row + count) (first + left) ids d after
        gone z =
            let n : r ≡ at = next ∙ rw (z, add-zero) in
            record {
              upto = omega arith;
              lower = omega (arith, g.lower);
              fewer = omega (arith, g.fewer, left_most);
              rows = enough;
              front = g.front ∙ rw n (ap₂ (λ (a b : List Entry). a ++ b) (sym front_kept) (behind ∙ rw z));
              rest = rest_kept;
              lengths-are = lengths_kept;
              used-is = ap (λ (m : Directory). m.used) moved ∙ g.used-is;
            }

        kept : eqb left 0 ≡ false → Thinning id r (i + 1) (row + count) (first + left) ids d after
        kept z =
            let n : r ≡ at + 1 = next ∙ rw z in
            let there : entry_at after at ≡ e = ap (λ (m : Directory). entry_at m at) moved ∙ placed_there at e now (wide g.lower) in
            let last : tab (at + 1) (entry_at after) ≡ tab at (entry_at now) ++ e ∷ [] =
            rw add-one (tab-next at (entry_at after)) ∙ ap₂ (λ (a : List Entry) (x : Entry). a ++ x ∷ []) front_kept there in
            record {
              upto = omega arith;
              lower = omega (arith, g.lower);
              fewer = omega (arith, g.fewer, left_most);
              rows = enough;
              front = g.front ∙ rw (n, last, append_assoc) (ap (λ (a : List Entry). tab at (entry_at now) ++ a) (behind ∙ rw z));
              rest = rest_kept;
              lengths-are = lengths_kept;
              used-is = ap (λ (m : Directory). m.used) moved ∙ g.used-is;
            }
          where
            wide : at ≤ i → PlaceRoom now (at + 1)
            wide k = thinning_room g (at + 1) (omega arith) room

module _ {id at i row first : ℕ} {ids : List ℕ} {d now : Directory} (g : Thinning id at i row first ids d now) (h : d.used ≤ i) (room : PlaceRoom d d.used) where
  abbrev left_over : List Entry
  left_over = thinned id 0 (entries d) ids

  left_are : left_over ≡ tab at (entry_at now)
  unfolding entries thinned
  left_are =
      let past : length (tab d.used (entry_at d)) ≤ i = omega (arith, length-tab d.used (entry_at d)) in
      let done : thinned id first (drop i (tab d.used (entry_at d))) (drop row ids) ≡ [] = rw (drop_of_length-le (tab d.used (entry_at d)) past) in
      g.front ∙ rw (done, append-nil)

  fronted : (f : Entry → ℕ) (old list : List ℕ) → map f (tab at (entry_at now)) ≡ take at list → length list ≡ length old → Fronted (map f left_over) old list
  fronted f old list e m =
      let n : length (map f left_over) ≡ at = length-map left_over f ∙ ap length left_are ∙ length-tab at (entry_at now) in
      record { front = ap (map f) left_are ∙ e ∙ ap (λ (k : ℕ). take k list) (sym n); long = m }

  pub thinning_end : Written left_over d (counting at now)
  thinning_end =
      let r : PlaceRoom now at = thinning_room g at (omega (arith, g.lower, g.upto)) room in
      record {
        count = sym (ap length left_are ∙ length-tab at (entry_at now));
        keys = fronted key_of d.keys now.keys (map-tab key_of at (entry_at now) ∙ tab-take at now.keys 0 r.0) (same 0 g.lengths-are);
        firsts = fronted first_of d.firsts now.firsts (map-tab first_of at (entry_at now) ∙ tab-take at now.firsts 0 r.1.0) (same 1 g.lengths-are);
        counts = fronted count_of d.counts now.counts (map-tab count_of at (entry_at now) ∙ tab-take at now.counts 0 r.1.1.0) (same 2 g.lengths-are);
      }
