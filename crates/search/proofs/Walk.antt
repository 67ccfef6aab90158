-- The walk over a container's rows: what it keeps of the rows that it has met, and that the nearest it ends with is the choice.
-- Assumes nothing.
use Prim.Native.Nat.{ℕ, zero, suc, ◌+◌, ◌≤◌, ◌<◌, zero-le, suc-le-suc}
use native.Mathlib.Nat.{le_of_suc-le-suc}
use native.Mathlib.Numerals.{add-one}
use native.Mathlib.Omega.{arith}
use mathlib.Core.Path.{◌≡◌, refl, sym, ap, ap₂, ◌∙◌}
use mathlib.Core.Logic.{⊎_elim}
use mathlib.Core.Bool.{Bool, true, false, cond}
use mathlib.Core.Option.{Option, none, some, Option-elim}
use mathlib.Core.List.{List, [], ◌∷◌}
use lib.ListN.{length, take, drop, get_or}
use lib.Seq.{length-take-le, get_or-take}
use lib.Ieee.{Float, lt, le}
use Rattle.std.specs.Prelude as declared
use Rattle.std.specs.Prelude.{Some, None}
use Rattle.std.specs.List.Sorted.{IsNonDecreasing}
use Rattle.std.proofs.lemmas.Option.{none-some}
use borrow.Author.Tests.{eq-eqb, ne_eqb}
use Rattle.basics.proofs.Bools.{by_test}
use Rattle.basics.specs.Lists.{keep, tab}
use Rattle.basics.proofs.Lists.{drop-tab}
use Rattle.floats.specs.Sqrt.{sqrt_of}
use Rattle.floats.specs.Tests.{Binary64}
use Rattle.floats.proofs.Order.{le_left, lt-le, le_join}
use Rattle.floats.proofs.Laws.{root_no_less}
use Rattle.geometry.specs.Position.{coords}
use Rattle.geometry.specs.Distances.{point_square, point_point}
use Rattle.grid_search.specs.declared.GridSearch.{GridSearch}
use Rattle.table.specs.declared.ItemId.{ItemId}
use Rattle.table.specs.declared.Row.{Row}
use Rattle.table.specs.Rows.{slot_at, slots_of, lead, key_in, id_in}
use Rattle.table.specs.Library.{Library, row_at, rows_of, table}
use Rattle.table.specs.Posts.{InOrder}
use Rattle.table.proofs.Order.{Lex, before_lex, sorted_at}
use Rattle.table.proofs.First.{rise, rising, first-most, below-first, from_first}
use Rattle.table.proofs.Libraries.{ordered}
use Rattle.rows.specs.Insert.{container_of}
use Rattle.search.specs.Search.{is_near, near_rows, away, chosen_before, nearer_of, nearest, chosen, id_of}
use Rattle.search.specs.Posts.{Beyond, takes_place}
use Rattle.search.proofs.Order.{nearer_chosen, stays_chosen, no_nearer}

-- ---- one row after the other

module _ (tol least s : Float) where
  -- where the square kept tells
  pub told_by_square : Binary64 least → Binary64 s → (best : declared.Option ItemId) → Beyond tol best least → le least s ≡ true → takes_place tol best least s ≡ false
  unfolding takes_place
  told_by_square B S None y h = y refl s S h
  told_by_square B S (Some i) y h = root_no_less least s B S h

  pub place-nearer : (best : declared.Option ItemId) {i : ItemId} → best ≡ Some i → takes_place tol best least s ≡ lt (sqrt_of s) (sqrt_of least)
  unfolding takes_place
  place-nearer best e = rw e

  pub place-near : (best : declared.Option ItemId) → best ≡ None → takes_place tol best least s ≡ le (sqrt_of s) tol
  unfolding takes_place
  place-near best e = rw e

-- ---- the rows that pass a test, from some row on

module _ (p : Row → Bool) where
  keep_skip : (n : ℕ) (g : ℕ → Row) (m : ℕ) → m ≤ n → ((j : ℕ) → j < m → p (g j) ≡ false) → keep p (tab n g) ≡ keep p (drop m (tab n g))
  unfolding keep
  keep_skip n g zero h k = refl
  keep_skip zero g (suc m) h k = refl
  keep_skip (suc n) g (suc m) h k = rw (k 0 (suc-le-suc zero-le)) (keep_skip n (λ i. g (suc i)) m (le_of_suc-le-suc h) (λ j l. k (suc j) (suc-le-suc l)))

  keep-none : (n : ℕ) (g : ℕ → Row) (i : ℕ) → ((j : ℕ) → i ≤ j → j < n → p (g j) ≡ false) → keep p (drop i (tab n g)) ≡ []
  unfolding keep
  keep-none zero g zero k = refl
  keep-none zero g (suc i) k = refl
  keep-none (suc n) g zero k = rw (k 0 zero-le (suc-le-suc zero-le)) (keep-none n (λ i. g (suc i)) zero (λ j l m. k (suc j) zero-le (suc-le-suc m)))
  keep-none (suc n) g (suc i) k = keep-none n (λ i. g (suc i)) i (λ j l m. k (suc j) (suc-le-suc l) (suc-le-suc m))

  keep-step : (n : ℕ) (g : ℕ → Row) (i : ℕ) → i < n → keep p (drop i (tab n g)) ≡ cond (p (g i)) (g i ∷ keep p (drop (i + 1) (tab n g))) (keep p (drop (i + 1) (tab n g)))
  unfolding keep
  keep-step n g i h = rw (add-one, drop-tab n g i h)

-- ---- the walk: over the rows of a container, from its first row to the first of another

module _ (s : GridSearch) (l : Library) (key : ℕ) (x : List Float) where
  -- the choice among a row that was chosen and those to come
  unfoldable pub with : Option Row → Option Row → Option Row
  with none o = o
  with (some r) o = nearer_of s x r o

  -- the nearest is a row that was chosen: a near one of the container, before row i
  pub record Held (i : ℕ) (r : Row) (best : declared.Option ItemId) (least : Float) : Type 0 where
    pub id : best ≡ Some r.id
    pub distance : sqrt_of least ≡ away s x r
    pub near : le (away s x r) s.tol_dist ≡ true
    pub inside : key_in r ≡ key
    pub place : ℕ
    pub earlier : place < i
    pub there : r ≡ row_at l place

  -- or there is none
  abbrev pub Kept : ℕ → Option Row → declared.Option ItemId → Float → Type 0
  Kept i none best least = (best ≡ None) × Beyond s.tol_dist best least
  Kept i (some r) best least = Held i r best least

  -- the walk has come to row i, which stands no earlier than the container's first
  pub record Looking (i : ℕ) (best : declared.Option ItemId) (least : Float) : Type 0 where
    pub from : lead key (take l.used l.keys) ≤ i
    pub upto : i ≤ l.used
    pub row : Option Row
    pub kept : Kept i row best least
    pub rest : nearest s x (near_rows s x (table l)) ≡ with row (nearest s x (keep (is_near s x) (drop i (table l))))

  -- what the next row is judged by
  pub beyond : (i : ℕ) (best : declared.Option ItemId) (least : Float) → Looking i best least → Beyond s.tol_dist best least
  beyond i best least w = go w.row w.kept
    where
      go : (r : Option Row) → Kept i r best least → Beyond s.tol_dist best least
      go none k = k.1
      go (some r) k = λ e. absurd (none-some r.id (sym e ∙ k.id))

module _ (s : GridSearch) (l : Library) (o : InOrder l) (key : ℕ) (x : List Float) (c : container_of s x ≡ key) where
  up : IsNonDecreasing (take l.used l.keys)
  up = rising (ordered o)

  key_at : (j : ℕ) → j < l.used → get_or (take l.used l.keys) j 0 ≡ get_or l.keys j 0
  key_at j h = get_or-take l.used l.keys j 0 h

  long : length (take l.used l.keys) ≡ l.used
  long = length-take-le l.used l.keys (ordered o).in_keys

  other_key : (r : Row) → (key_in r ≡ key → ⊥) → is_near s x r ≡ false
  unfolding is_near
  other_key r e = rw (c, ne_eqb (key_in r) key e)

  -- in the container near is told by the distance
  in_container_lem : (r : Row) → key_in r ≡ key → is_near s x r ≡ le (away s x r) s.tol_dist
  unfolding is_near away
  in_container_lem r e = rw (c, eq-eqb (key_in r) key e)

  pub look-start : (i : ℕ) (best : declared.Option ItemId) (least : Float) → i ≡ lead key (take l.used l.keys) → best ≡ None → Beyond s.tol_dist best least → Looking s l key x i best least
  unfolding table rows_of near_rows with
  look-start i best least e a y =
      let h : i ≤ l.used = omega (arith, first-most (take l.used l.keys) up key, long) in
      let low : (j : ℕ) → j < i → is_near s x (row_at l j) ≡ false =
      λ j k. other_key (row_at l j) (λ q. omega (arith, below-first (take l.used l.keys) up key j (omega arith), key_at j (omega arith))) in
      record { from = omega arith; upto = h; row = none; kept = (a, y); rest = ap (nearest s x) (keep_skip (is_near s x) l.used (row_at l) i h low) }

  module _ (i : ℕ) (best : declared.Option ItemId) (least : Float) (w : Looking s l key x i best least) where
    -- no near row is left: the one that was chosen is the choice
    over : keep (is_near s x) (drop i (table l)) ≡ [] → id_of best ≡ chosen s x (near_rows s x (table l))
    unfolding chosen nearest nearer_of with Option-elim
    over e = go w.row w.kept (w.rest ∙ ap (λ (rows : List Row). with s l key x w.row (nearest s x rows)) e)
      where
        go : (r : Option Row) → Kept s l key x i r best least → nearest s x (near_rows s x (table l)) ≡ with s l key x r (nearest s x []) → id_of best ≡ chosen s x (near_rows s x (table l))
        go none k f = rw (f, k.0)
        go (some r) k f = rw (f, k.id)

    -- a row of another container: there is none of this one from it on
    pub look_stop : i < l.used → (get_or l.keys i 0 ≡ key → ⊥) → id_of best ≡ chosen s x (near_rows s x (table l))
    unfolding table rows_of
    look_stop k f =
        let above : key ≤ get_or l.keys i 0 = omega (arith, from_first (take l.used l.keys) up key i w.from (omega (arith, long)), key_at i k) in
        over (keep-none (is_near s x) l.used (row_at l) i (λ j h m. other_key (row_at l j) (λ q. f (omega (arith, rise (ordered o) i j h m)))))

    pub look_end : l.used ≤ i → id_of best ≡ chosen s x (near_rows s x (table l))
    unfolding table rows_of
    look_end h = over (keep-none (is_near s x) l.used (row_at l) i (λ j k m. absurd (omega arith)))

    -- a row of this container: near is told by its distance alone
    module _ (k : i < l.used) (f : get_or l.keys i 0 ≡ key) where
      abbrev here : Row
      here = row_at l i

      abbrev tol : Float
      tol = s.tol_dist

      abbrev off : Float
      off = away s x here

      abbrev tail : List Row
      tail = keep (is_near s x) (drop (i + 1) (table l))

      from_here : keep (is_near s x) (drop i (table l)) ≡ cond (le off tol) (here ∷ tail) tail
      unfolding table rows_of
      from_here = keep-step (is_near s x) l.used (row_at l) i k ∙ ap (λ (b : Bool). cond b (here ∷ tail) tail) (in_container_lem here f)

      near_here : le off tol ≡ true → keep (is_near s x) (drop i (table l)) ≡ here ∷ tail
      near_here h = from_here ∙ ap (λ (b : Bool). cond b (here ∷ tail) tail) h

      far_here : le off tol ≡ false → keep (is_near s x) (drop i (table l)) ≡ tail
      far_here h = from_here ∙ ap (λ (b : Bool). cond b (here ∷ tail) tail) h

      rest-near : le off tol ≡ true → nearest s x (near_rows s x (table l)) ≡ with s l key x w.row (nearer_of s x here (nearest s x tail))
      unfolding nearest
      rest-near h = w.rest ∙ ap (λ (rows : List Row). with s l key x w.row (nearest s x rows)) (near_here h)

      rest_far : le off tol ≡ false → nearest s x (near_rows s x (table l)) ≡ with s l key x w.row (nearest s x tail)
      rest_far h = w.rest ∙ ap (λ (rows : List Row). with s l key x w.row (nearest s x rows)) (far_here h)

      -- an earlier row of the container has a lower id
      lower : (r : Row) → key_in r ≡ key → (m : ℕ) → m < i → r ≡ row_at l m → id_in r < id_in here
      unfolding Lex slots_of
      lower r e m h g =
          let d : id_in r ≡ get_or l.ids m 0 = ap id_in g in
          let q : get_or l.keys m 0 ≡ key = sym (ap key_in g) ∙ e in
          ⊎_elim (λ j. absurd (omega arith)) (λ j. omega arith)
          (before_lex (slot_at l.keys l.ids m) (slot_at l.keys l.ids i) (sorted_at l.used (slot_at l.keys l.ids) (ordered o).order m i h k))

      -- the square of this row's distance
      module _ (sq : Float) (d : sqrt_of sq ≡ off) where
        abbrev Next : declared.Option ItemId → Float → Type 0
        Next after square = Looking s l key x (i + 1) after square

        abbrev taken : Bool
        taken = takes_place tol best least sq

        -- this row is chosen now
        chosen_now : le off tol ≡ true → nearest s x (near_rows s x (table l)) ≡ nearer_of s x here (nearest s x tail) → Next (Some here.id) sq
        unfolding with
        chosen_now n e = record {
          from = omega (arith, w.from);
          upto = omega arith;
          row = some here;
          kept = record {
            id = refl;
            distance = d;
            near = n;
            inside = f;
            place = i;
            earlier = omega arith;
            there = refl;
          };
          rest = e;
        }

        -- what was chosen stays
        as_before : nearest s x (near_rows s x (table l)) ≡ with s l key x w.row (nearest s x tail) → Next best least
        as_before e = record {
          from = omega (arith, w.from);
          upto = omega arith;
          row = w.row;
          kept = later w.row w.kept;
          rest = e;
        }
          where
            later : (r : Option Row) → Kept s l key x i r best least → Kept s l key x (i + 1) r best least
            later none z = z
            later (some r) z = record {
              id = z.id;
              distance = z.distance;
              near = z.near;
              inside = z.inside;
              place = z.place;
              earlier = omega (arith, z.earlier);
              there = z.there;
            }

        -- with no row chosen so far this one is chosen where it is near
        module _ (e : w.row ≡ none) (z : best ≡ None) where
          first_near : taken ≡ le off tol
          first_near = place-near tol least sq best z ∙ ap (λ (v : Float). le v tol) d

          first_met : taken ≡ true → Next (Some here.id) sq
          unfolding with
          first_met t = let h = sym first_near ∙ t in chosen_now h (rest-near h ∙ ap (λ (r : Option Row). with s l key x r (nearer_of s x here (nearest s x tail))) e)

          none_met : taken ≡ false → Next best least
          none_met t = as_before (rest_far (sym first_near ∙ t))

        -- with one chosen, a nearer one takes its place, and one that is not near is no nearer
        module _ (b : Row) (e : w.row ≡ some b) (z : Held s l key x i b best least) where
          judged : taken ≡ lt off (away s x b)
          judged = place-nearer tol least sq best z.id ∙ ap₂ lt d z.distance

          both : le off tol ≡ true → nearest s x (near_rows s x (table l)) ≡ nearer_of s x b (nearer_of s x here (nearest s x tail))
          unfolding with
          both h = rest-near h ∙ ap (λ (r : Option Row). with s l key x r (nearer_of s x here (nearest s x tail))) e

          another : taken ≡ true → Next (Some here.id) sq
          another t =
              let g : lt off (away s x b) ≡ true = sym judged ∙ t in
              let h : le off tol ≡ true = le_join off (away s x b) tol (lt-le off (away s x b) g) z.near in
              chosen_now h (both h ∙ nearer_chosen s x b here g (nearest s x tail))

          goes_before : le off tol ≡ true → lt off (away s x b) ≡ false → chosen_before s x b here ≡ true
          goes_before h g = no_nearer s x b here (le_left (away s x b) tol z.near) (le_left off tol h) g (lower b z.inside z.place z.earlier z.there)

          stays : le off tol ≡ true → lt off (away s x b) ≡ false → nearest s x (near_rows s x (table l)) ≡ with s l key x w.row (nearest s x tail)
          unfolding with
          stays h g = both h ∙ stays_chosen s x b here (goes_before h g) (nearest s x tail) ∙ ap (λ (r : Option Row). with s l key x r (nearest s x tail)) (sym e)

          same : taken ≡ false → Next best least
          same t =
              let g : lt off (away s x b) ≡ false = sym judged ∙ t in
              by_test (le off tol) (λ h. as_before (stays h g)) (λ h. as_before (rest_far h))

        look_nearer : taken ≡ true → Next (Some here.id) sq
        look_nearer t = go w.row refl w.kept
          where
            go : (r : Option Row) → w.row ≡ r → Kept s l key x i r best least → Next (Some here.id) sq
            go none e z = first_met e z.0 t
            go (some b) e z = another b e z t

        look_on : taken ≡ false → Next best least
        look_on t = go w.row refl w.kept
          where
            go : (r : Option Row) → w.row ≡ r → Kept s l key x i r best least → Next best least
            go none e z = none_met e z.0 t
            go (some b) e z = same b e z t

      -- the same of the row and the square as the code has them
      module _ {r : Row} (e : r ≡ here) {sq : Float} (d : sq ≡ point_square (coords s.ndim r.at) x) where
        root : sqrt_of sq ≡ off
        unfolding away point_point
        root = ap sqrt_of d ∙ ap (λ (q : Row). sqrt_of (point_square (coords s.ndim q.at) x)) e

        pub look-nearer : takes_place tol best least sq ≡ true → Looking s l key x (i + 1) (Some r.id) sq
        look-nearer t = rw e (look_nearer sq root t)

        pub look-on : takes_place tol best least sq ≡ false → Looking s l key x (i + 1) best least
        look-on t = look_on sq root t
