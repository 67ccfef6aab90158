-- The walk over the rows, from container to container: what a row and a container add to the rows gathered, what is gathered at its end, and what the ids written are.
-- Assumes nothing.
use Rattle.std.proofs.Common.{ℕ, zero, suc, ◌≡◌, ◌≢◌, ◌+◌, ◌-◌, ◌≤◌, ◌<◌, refl, sym, ap, ◌∙◌, subst, Bool, true, false, cond, ◌&&◌, List, [], ◌∷◌, ◌++◌, map, append-nil, eqb, ltb, length, get_or, take, drop, set, Option, Result, Ok, Err, arith, add-one}
use mathlib.Core.List.{map-append}
use Rattle.std.proofs.lemmas.List.{map_more}
use lib.ListN.{length-append, length-drop, length-map, length-set}
use lib.Seq.{get_or-set_same, get_or-set_other, get_or-take, take_at, take-suc-set, take-set-le, length-take-le}
use borrow.Author.Tests.{lt-ltb, le-ltb, eqb-true, eqb-false}
use denote.Ref.{Bor}
use Rattle.basics.proofs.Bools.{by_test}
use Rattle.basics.specs.Lists.{keep, tab, over}
use Rattle.basics.specs.Refusals.{fault}
use Rattle.basics.specs.declared.Refusal.{Refusal}
use Rattle.basics.specs.declared.Refusal.TheVariants as refusal
use Rattle.geometry.specs.declared.Position.{Position}
use Rattle.geometry.specs.Position.{coords}
use Rattle.grid_search.specs.declared.GridSearch.{GridSearch}
use Rattle.table.specs.declared.Row.{Row}
use Rattle.table.specs.Rows.{key_in, id_in}
use Rattle.table.specs.Library.{Library, row_at, rows_of, table}
use Rattle.sorting.specs.Sorted.{distinct}
use Rattle.sorting.specs.Posts.{mark_id, Indices}
use Rattle.listing.specs.declared.Place.{Place}
use Rattle.listing.specs.declared.Filter.{Filter}
use Rattle.listing.specs.declared.walk.Reached.{Reached}
use Rattle.listing.specs.declared.walk.Marked.{Marked}
use Rattle.listing.specs.Place.{Asked, asked, is_on, container_near, point_near, passes}
use Rattle.listing.specs.Listing.{ids_of}
use Rattle.basics.specs.Filled.{fill}
use Rattle.listing.specs.Posts.{end_from, Counted, Gathered, Marks, Walked, Out}
use Rattle.listing.proofs.Containers.{end_past, end_upto, end_alike, counted_next}

-- ---- whether a row counts, by its container and by itself

module _ (s : GridSearch) (p : Asked) (f : Filter) (row : Row) where
  pub row_far : container_near s p (key_in row) ≡ false → is_on s p f row ≡ false
  unfolding is_on
  row_far e = rw e

  pub row_near : container_near s p (key_in row) ≡ true → (at : Position) (r : Bool) → at ≡ row.at
      → r ≡ (point_near s p (coords s.ndim at) && passes f (coords s.ndim at)) → r ≡ is_on s p f row
  unfolding is_on
  row_near e at r same g = rw e (g ∙ ap (λ (x : Position). point_near s p (coords s.ndim x) && passes f (coords s.ndim x)) same)

-- ---- one more row

tab_end : {A : Type 0} (n : ℕ) (f : ℕ → A) → tab (suc n) f ≡ tab n f ++ f n ∷ []
tab_end zero f = refl
tab_end (suc n) f = ap (λ (l : List _). f 0 ∷ l) (tab_end n (λ i. f (suc i)))

keep_append : {A : Type 0} (p : A → Bool) (xs ys : List A) → keep p (xs ++ ys) ≡ keep p xs ++ keep p ys
unfolding keep
keep_append p [] ys = refl
keep_append p (x ∷ xs) ys = by_test (p x) (λ e. rw e (ap (λ (l : List _). x ∷ l) (keep_append p xs ys))) (λ e. rw e (keep_append p xs ys))

abbrev on : GridSearch → Place → Filter → Row → Bool
on s p f = is_on s (asked s.ndim p) f

rows_next : (l : Library) (i : ℕ) → rows_of l (i + 1) ≡ rows_of l i ++ row_at l i ∷ []
unfolding rows_of
rows_next l i = rw (add-one i) (tab_end i (row_at l))

ids_next : (p : Row → Bool) (l : Library) (i : ℕ) → map id_in (keep p (rows_of l (i + 1))) ≡ map id_in (keep p (rows_of l i)) ++ cond (p (row_at l i)) (get_or l.ids i 0 ∷ []) []
unfolding keep
ids_next p l i =
    ap (λ (rows : List Row). map id_in (keep p rows)) (rows_next l i)
    ∙ ap (map id_in) (keep_append p (rows_of l i) (row_at l i ∷ []))
    ∙ map-append id_in (keep p (rows_of l i)) (keep p (row_at l i ∷ []))
    ∙ by_test (p (row_at l i)) (λ e. rw e) (λ e. rw e)

module _ {s : GridSearch} {p : Place} {f : Filter} {l : Library} where
  gathered_none : (marks : List ℕ) → Gathered s p f l 0 0 marks
  unfolding rows_of keep
  gathered_none marks = record { upto = omega arith; below = λ i h. absurd (omega arith); ids-are = refl }

  -- a row that does not count is passed
  gathered_passed : {i n : ℕ} {marks : List ℕ} → Gathered s p f l i n marks → on s p f (row_at l i) ≡ false → Gathered s p f l (i + 1) n marks
  gathered_passed {i} {n} {marks} g e = record {
    upto = omega (arith, g.upto);
    below = λ k h. omega (arith, g.below k h);
    ids-are =
        g.ids-are
        ∙ sym (ids_next (on s p f) l i
        ∙ ap (λ (c : Bool). map id_in (keep (on s p f) (rows_of l i)) ++ cond c (get_or l.ids i 0 ∷ []) []) e
        ∙ append-nil (map id_in (keep (on s p f) (rows_of l i))));
  }

  -- one that counts is marked
  gathered_marked : {i n : ℕ} {marks : List ℕ} → Gathered s p f l i n marks → n < length marks → on s p f (row_at l i) ≡ true → Gathered s p f l (i + 1) (n + 1) (set marks n i)
  gathered_marked {i} {n} {marks} g room e = record {
    upto = omega (arith, g.upto);
    below = λ k h.
        by_test (eqb k n)
        (λ w. rw (eqb-true k n w, get_or-set_same marks n i 0 room) (omega arith))
        (λ w. rw (get_or-set_other marks n k i 0 (eqb-false k n w)) (omega (arith, g.below k (omega (arith, eqb-false k n w)))));
    ids-are =
        ap (map (mark_id l.ids)) (ap (λ (m : ℕ). take m (set marks n i)) (add-one n) ∙ take-suc-set marks n i room)
        ∙ map-append (mark_id l.ids) (take n marks) (i ∷ [])
        ∙ ap (λ (front : List ℕ). front ++ get_or l.ids i 0 ∷ []) g.ids-are
        ∙ sym (ids_next (on s p f) l i ∙ ap (λ (c : Bool). map id_in (keep (on s p f) (rows_of l i)) ++ cond c (get_or l.ids i 0 ∷ []) []) e);
  }

  -- what is written behind the marks counts for nothing
  gathered_behind : {i n : ℕ} {marks : List ℕ} (k v : ℕ) → n ≤ k → Gathered s p f l i n marks → Gathered s p f l i n (set marks k v)
  gathered_behind {i} {n} {marks} k v h g = record {
    upto = g.upto;
    below = λ j w. rw (get_or-set_other marks k j v 0 (λ e. omega arith)) (g.below j w);
    ids-are = ap (map (mark_id l.ids)) (take-set-le n marks k v h) ∙ g.ids-are;
  }

  -- the same marks at the front of another list
  gathered_copied : {i n : ℕ} {marks : List ℕ} (more : List ℕ) → n ≤ length marks → Gathered s p f l i n marks → Gathered s p f l i n (take n marks ++ drop n more)
  gathered_copied {i} {n} {marks} more h g =
      let same : take n (take n marks ++ drop n more) ≡ take n marks = take_at (take n marks) (drop n more) n (length-take-le n marks h) in
      record {
        upto = g.upto;
        below = λ j k. rw (← get_or-take n (take n marks ++ drop n more) j 0 k, same, get_or-take n marks j 0 k) (g.below j k);
        ids-are = ap (map (mark_id l.ids)) same ∙ g.ids-are;
      }

  -- rows that do not count are passed at once
  gathered-beyond : (d : ℕ) {i n : ℕ} {marks : List ℕ} → Gathered s p f l i n marks
      → ((j : ℕ) → i ≤ j → j < i + d → on s p f (row_at l j) ≡ false) → Gathered s p f l (i + d) n marks
  gathered-beyond zero {i} {n} {marks} g far = let e : i ≡ i + 0 = omega arith in subst (λ (k : ℕ). Gathered s p f l k n marks) e g
  gathered-beyond (suc d) {i} {n} {marks} g far =
      let e : i + d + 1 ≡ i + suc d = omega arith in
      subst (λ (k : ℕ). Gathered s p f l k n marks) e (gathered_passed (gathered-beyond d g (λ j a b. far j a (omega arith))) (far (i + d) (omega arith) (omega arith)))

-- ---- the rows of a near container from row `first` on, behind the first `marked` marks

pub record Marking (s : GridSearch) (p : Place) (f : Filter) (l : Library) (first marked : ℕ) (marks₀ : List ℕ) (row n : ℕ) (marks : List ℕ) : Type 0 where
  pub same_length : length marks ≡ length marks₀
  pub past : marked ≤ n
  pub room : n < length marks
  pub before : Gathered s p f l first marked marks
  pub here : Gathered s p f l row n marks

module _ {s : GridSearch} {p : Place} {f : Filter} {l : Library} where
  module _ {first marked : ℕ} {marks₀ : List ℕ} {row n : ℕ} {marks : List ℕ} (w : Marking s p f l first marked marks₀ row n marks) where
    pub marking_next : (b : Bool) (m : ℕ) → b ≡ on s p f (row_at l row) → (b ≡ true → m ≡ n + 1) → (b ≡ false → m ≡ n + 0) → m ≢ length (set marks n row)
        → Marking s p f l first marked marks₀ (row + 1) m (set marks n row)
    marking_next b m k one none left = record {
      same_length = length-set marks n row ∙ w.same_length;
      past = by_test b (λ q. omega (arith, one q, w.past)) (λ q. omega (arith, none q, w.past));
      room = by_test b (λ q. omega (arith, one q, length-set marks n row, w.room, left)) (λ q. omega (arith, none q, length-set marks n row, w.room));
      before = gathered_behind n row w.past w.before;
      here = by_test b
          (λ q. rw (one q) (gathered_marked w.here w.room (sym k ∙ q)))
          (λ q. let e : m ≡ n = omega (arith, none q) in rw e (gathered_passed (gathered_behind n row (omega arith) w.here) (sym k ∙ q)));
    }

    -- no place would be left
    pub marking_full : {end : ℕ} (b : Bool) (m : ℕ) → (b ≡ true → m ≡ n + 1) → (b ≡ false → m ≡ n + 0) → m ≡ length (set marks n row) → first ≤ row → row < end
        → Marks s p f l first end marked (set marks n row) (record { row = row; marked = n })
    marking_full {end} b m one none full past h = record {
      from = past;
      upto = omega arith;
      inside = omega (arith, length-set marks n row, w.room);
      full = λ t. by_test b (λ q. omega (arith, one q, full)) (λ q. absurd (omega (arith, none q, full, w.room, length-set marks n row)));
      before = gathered_behind n row w.past w.before;
      gathered = gathered_behind n row (omega arith) w.here;
    }

    pub marking_end : {end : ℕ} → first ≤ end → row ≡ end → Marks s p f l first end marked marks (record { row = end; marked = n })
    marking_end {end} past e = record {
      from = past;
      upto = omega arith;
      inside = w.room;
      full = λ t. absurd (omega arith);
      before = w.before;
      gathered = subst (λ (k : ℕ). Gathered s p f l k n marks) e w.here;
    }

-- ---- a walk: its start, a container that starts, the rows of one, and its end

module _ {s : GridSearch} {p : Place} {f : Filter} {l : Library} where
  module _ {counts : Option (Bor (List ℕ))} where
    pub walked_none : Counted l.keys l.used counts → (marks : List ℕ) → 0 < length marks
        → Walked s p f l counts (record { row = 0; end = 0; place = 0; marked = 0 }) marks
    walked_none c marks h = record {
      upto = omega arith;
      end-upto = omega arith;
      near = λ i a b. absurd (omega arith);
      few = omega arith;
      counted = c;
      inside = h;
      gathered = gathered_none marks;
    }

    module _ {r : Reached} {marks : List ℕ} (w : Walked s p f l counts r marks) where
      -- the rows of a near container
      pub walked_rows : {after : List ℕ} {m : Marked} → Marks s p f l r.row r.end r.marked after m
          → Walked s p f l counts (record { row = m.row; end = r.end; place = r.place; marked = m.marked }) after
      walked_rows k = record {
        upto = k.upto;
        end-upto = w.end-upto;
        near = λ i a b. w.near i (omega (arith, k.from)) b;
        few = w.few;
        counted = w.counted;
        inside = k.inside;
        gathered = k.gathered;
      }

      -- a container that starts: near, with all its rows, or far, and then passed
      module _ (k : l.used ≤ length l.keys) (start : r.row ≡ r.end) (h : r.row < l.used) {end : ℕ} (is-end : end ≡ end_from l.keys l.used r.row) where
        alike : (i : ℕ) → r.row ≤ i → i < end → container_near s (asked s.ndim p) (get_or l.keys i 0) ≡ container_near s (asked s.ndim p) (get_or l.keys r.row 0)
        alike i a b = ap (container_near s (asked s.ndim p)) (end_alike l.keys l.used r.row k h i a (omega arith))

        pub walked_near : true ≡ container_near s (asked s.ndim p) (get_or l.keys r.row 0) → Walked s p f l counts (record { row = r.row; end = end; place = r.place + 1; marked = r.marked }) marks
        walked_near near = record {
          upto = omega (arith, end_past l.keys l.used r.row k h);
          end-upto = omega (arith, end_upto l.keys l.used r.row k h);
          near = λ i a b. alike i a b ∙ sym near;
          few = omega (arith, w.few, end_past l.keys l.used r.row k h);
          counted = counted_next l.keys l.used r.row k h counts r.place (rw start w.counted) is-end;
          inside = w.inside;
          gathered = w.gathered;
        }

        pub walked_far : false ≡ container_near s (asked s.ndim p) (get_or l.keys r.row 0) → Walked s p f l counts (record { row = end; end = end; place = r.place + 1; marked = r.marked }) marks
        walked_far far =
            let past : r.row < end = omega (arith, end_past l.keys l.used r.row k h) in
            let e : r.row + (end - r.row) ≡ end = omega arith in
            let all_far : (j : ℕ) → r.row ≤ j → j < r.row + (end - r.row) → on s p f (row_at l j) ≡ false =
            λ j a b. row_far s (asked s.ndim p) f (row_at l j) (alike j a (omega arith) ∙ sym far) in
            record {
              upto = omega arith;
              end-upto = omega (arith, end_upto l.keys l.used r.row k h);
              near = λ i a b. absurd (omega arith);
              few = omega (arith, w.few);
              counted = counted_next l.keys l.used r.row k h counts r.place (rw start w.counted) is-end;
              inside = w.inside;
              gathered = subst (λ (n : ℕ). Gathered s p f l n r.marked marks) e (gathered-beyond (end - r.row) w.gathered all_far);
            }

      pub walked_copied : (more : List ℕ) → r.marked < length more → Walked s p f l counts r (take r.marked marks ++ drop r.marked more)
      walked_copied more h = record {
        upto = w.upto;
        end-upto = w.end-upto;
        near = w.near;
        few = w.few;
        counted = w.counted;
        inside = rw (length-append (take r.marked marks), length-drop r.marked more, length-take-le r.marked marks (omega (arith, w.inside))) (omega arith);
        gathered = gathered_copied more (omega (arith, w.inside)) w.gathered;
      }

      pub walked_indices : l.used ≤ length l.ids → Indices (length l.ids) (length (take r.marked marks)) (take r.marked marks)
      walked_indices h j k =
          let n : j < r.marked = omega (arith, length-take-le r.marked marks (omega (arith, w.inside))) in
          rw (get_or-take r.marked marks j 0 n) (omega (arith, w.gathered.below j n, w.upto, w.end-upto))

      -- where the last row was reached, the ids of the marks are those of the listing
      pub walked_all : {list after : List ℕ} {o : Result ℕ Refusal} → l.used ≤ r.row
          → Out (distinct (map (mark_id l.ids) (take r.marked marks))) list o after → Out (ids_of (on s p f) (table l)) list o after
      unfolding table ids_of
      walked_all {list} {after} {o} h out =
          let e : r.row ≡ l.used = omega (arith, w.upto, w.end-upto) in
          let g : Gathered s p f l l.used r.marked marks = subst (λ (k : ℕ). Gathered s p f l k r.marked marks) e w.gathered in
          subst (λ (found : List ℕ). Out found list o after) (ap distinct g.ids-are) out

-- ---- the two ways out

module _ (ids marks out : List ℕ) (n : ℕ) (inside : n ≤ length marks) (are : map (mark_id ids) (take n marks) ≡ out) (list : List ℕ) where
  count : length out ≡ n
  count = ap length (sym are) ∙ length-map (take n marks) (mark_id ids) ∙ length-take-le n marks inside

  pub out_short : length list < n → Out out list (Err refusal.Short) list
  unfolding fill fault
  out_short h = let t : ltb (length list) (length out) ≡ true = lt-ltb (length list) (length out) (omega (arith, count)) in record { answers = rw t; list-is = rw t }

  pub out_long : (after : List ℕ) → n ≤ length list → after ≡ over (map (mark_id ids) (take n marks)) list → Out out list (Ok n) after
  unfolding fill fault
  out_long after h e =
      let t : ltb (length list) (length out) ≡ false = le-ltb (length list) (length out) (omega (arith, count)) in
      record { answers = rw (t, count); list-is = rw t (e ∙ ap (λ (l : List ℕ). over l list) are) }

-- ---- a list written at its front: one more

over_more : (xs : List ℕ) (v : ℕ) (list : List ℕ) → length xs < length list → set (over xs list) (length xs) v ≡ over (xs ++ v ∷ []) list
unfolding over
over_more [] v [] h = absurd (omega arith)
over_more [] v (y ∷ list) h = refl
over_more (x ∷ xs) v [] h = absurd (omega arith)
over_more (x ∷ xs) v (y ∷ list) h = ap (λ (l : List ℕ). x ∷ l) (over_more xs v list (omega arith))

pub written_next : (ids marks list : List ℕ) (i : ℕ) → i < length marks → length marks ≤ length list
    → set (over (map (mark_id ids) (take i marks)) list) i (mark_id ids (get_or marks i 0)) ≡ over (map (mark_id ids) (take (i + 1) marks)) list
written_next ids marks list i h room =
    let xs : List ℕ = map (mark_id ids) (take i marks) in
    let len : length xs ≡ i = length-map (take i marks) (mark_id ids) ∙ length-take-le i marks (omega arith) in
    ap (λ (j : ℕ). set (over xs list) j (mark_id ids (get_or marks i 0))) (sym len)
    ∙ over_more xs (mark_id ids (get_or marks i 0)) list (omega (arith, len))
    ∙ ap (λ (l : List ℕ). over l list) (sym (map_more (mark_id ids) marks i 0 h))
