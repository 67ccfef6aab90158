-- The laws of a change: what was handed in passes 24, 13 and 29 after it where it passed them before, in the same space; what it does to the rows of one id; and who accepts it.
-- The laws that look at the kind of change have one clause for each kind; the rest goes by these.
use Prim.Native.Nat.{ℕ, ◌≤◌}
use native.Mathlib.Omega.{arith}
use mathlib.Core.Path.{◌≡◌, refl, sym, ◌∙◌, ap, ap₂, subst}
use mathlib.Core.Bool.{true, false, not}
use mathlib.Core.Option.{Option, none, some}
use mathlib.Core.List.{List, [], ◌∷◌, ◌++◌, map}
use lib.Dec.{eqb}
use lib.ListN.{length}
use lib.Ieee.{Float}
use borrow.Author.Tests.{eqb-true, not-false, le-leb, leb-true}
use Rattle.basics.specs.Lists.{has}
use Rattle.basics.specs.Refusals.{Test, refuse, fault}
use Rattle.basics.proofs.Refusals.{passed, unrefused, fault_left, fault-right}
use Rattle.geometry.specs.Position.{position_of}
use Rattle.grid_search.specs.declared.GridSearch.{GridSearch}
use Rattle.table.specs.declared.Row.{Row}
use Rattle.table.specs.Rows.{slot_of, sorted, id_in, own}
use Rattle.table.specs.Library.{Library, table, blank, Space, space, fits, roomy}
use Rattle.table.proofs.Ids.{length-own, other-put_in, own-put_in, has-own, sorted-without, other-without, own-without}
use Rattle.table.proofs.Libraries.{table-write, roomy_fewer}
use Rattle.rows.specs.Damage.{library_tests}
use Rattle.rows.specs.Turn.{settle}
use Rattle.rows.specs.Insert.{points, targets, rows_with, position_tests, room_tests, insert_tests, insertion}
use Rattle.rows.proofs.Check.{whole}
use Rattle.rows.proofs.Kept.{inserted-order, accepted-library, accepted_position, accepted-room, accepted-space, accepted-passes}
use Rattle.strike.specs.Strike.{id_tests, strike_tests, striking}
use Rattle.strike.proofs.Kept.{struck-has, struck-space, struck-passes}
use Rattle.directory.specs.Entries.{directory_of}
use Rattle.directory.proofs.Fewer.{fewer_entries}
use Rattle.independence.specs.Holdings.{Holding, rows_in, Lent, places_of, lent, holding_tests, Held, held_by}
use Rattle.independence.specs.Run.{Change, insert, strike, change, changing, step, refusal_in, refusal}
use Rattle.independence.specs.Histories.{whose, effect}
use Rattle.independence.proofs.Holdings.{library-passes, order_in, settle_in, places_tests, leaving, leaving_passes, leaving_lent}
use Rattle.independence.proofs.Held.{held-is}
use Rattle.independence.proofs.Plain.{plain_tests, counting, left}

-- ---- a change of a library with its directory, or without one

unfoldable pub own_tests : GridSearch → Holding → Change → List Test
own_tests s h c = plain_tests s h.library c ++ places_tests h.directory (effect s c (rows_in h))

unfoldable pub change_tests : GridSearch → Holding → Change → List Test
change_tests s h c = holding_tests s h ++ own_tests s h c

abbrev pub changed : GridSearch → Holding → Change → Holding
changed s h c = leaving h (left s h.library c)

-- the tests of a change are those that its function is proved by
insert_tests_lem : (s : GridSearch) (l : Library) (i : ℕ) (x : List Float) {o : Option ℕ} → fault (library_tests s l ++ plain_tests s l (insert i x)) ≡ o → fault (insert_tests s l i x) ≡ o
unfolding plain_tests insert_tests
insert_tests_lem s l i x e = e

strike_tests_lem : (s : GridSearch) (l : Library) (i : ℕ) {o : Option ℕ} → fault (library_tests s l ++ plain_tests s l (strike i)) ≡ o → fault (strike_tests s l i) ≡ o
unfolding plain_tests strike_tests
strike_tests_lem s l i e = e

-- ---- one clause for each kind of change

-- the tests decide between what the change leaves and what was there
pub changing-is : (s : GridSearch) (l : Library) (c : Change) → changing s l c ≡ settle (fault (library_tests s l ++ plain_tests s l c)) (counting s c (table l)) (left s l c) l
unfolding changing insertion insert_tests striking strike_tests plain_tests counting left
changing-is s l (insert i x) = refl
changing-is s l (strike i) = refl

-- and they look at the space and the rows of a library alone
plain-same : (s : GridSearch) (l m : Library) → space l ≡ space m → table l ≡ table m → (c : Change) → plain_tests s l c ≡ plain_tests s m c
unfolding plain_tests room_tests
plain-same s l m z t (insert i x) = ap₂ (λ (u : Space) (rows : List Row). position_tests s x (points s x) ++ (refuse 12 (not (roomy u (rows_with s i x rows))) ∷ [])) z t
plain-same s l m z t (strike i) = ap (id_tests i) t

module _ (s : GridSearch) (i : ℕ) where
  -- a change of another id leaves the rows of i
  pub other-effect : (c : Change) (rows : List Row) → eqb (whose c) i ≡ false → own i (effect s c rows) ≡ own i rows
  unfolding whose effect rows_with
  other-effect (insert j x) rows e = other-put_in i j (position_of x) (targets s x) rows e
  other-effect (strike j) rows e = other-without j i rows e

  own-rows : (j : ℕ) (x : List Float) (rows : List Row) → eqb j i ≡ true → sorted (map slot_of rows) ≡ true → own i (rows_with s j x rows) ≡ rows_with s j x (own i rows)
  unfolding rows_with
  own-rows j x rows e o = own-put_in i j (position_of x) (targets s x) rows e o

  -- a change of i changes the rows of i as if they were alone
  pub own-effect : (c : Change) (rows : List Row) → eqb (whose c) i ≡ true → sorted (map slot_of rows) ≡ true → own i (effect s c rows) ≡ effect s c (own i rows)
  unfolding whose effect
  own-effect (insert j x) rows e o = own-rows j x rows e o
  own-effect (strike j) rows e o = own-without j i rows

  -- rows that have room have room without those of other ids
  roomy-own : (space : Space) (rows : List Row) → roomy space rows ≡ true → roomy space (own i rows) ≡ true
  roomy-own space rows e = roomy_fewer space rows (own i rows) (length-own i rows) e

  -- a change of i that a library accepts, its own tests let pass where the rows of i are alone, in the same space
  plain_too : (l l' : Library) (c : Change) → eqb (whose c) i ≡ true → space l ≡ space l' → own i (table l) ≡ table l'
      → fault (library_tests s l ++ plain_tests s l c) ≡ none → fault (plain_tests s l' c) ≡ none
  unfolding whose plain_tests room_tests id_tests
  plain_too l l' (insert j x) e z r q =
      let k = insert_tests_lem s l j x q in
      let o : sorted (map slot_of (table l)) ≡ true = (whole s l (accepted-library s l j x k)).order in
      fault-right (position_tests s x (points s x)) (room_tests l' (rows_with s j x (table l'))) (accepted_position s l j x k)
      ∙ passed (room_tests l' (rows_with s j x (table l'))) (
        ap not (ap₂ roomy (sym z) (ap (rows_with s j x) (sym r) ∙ sym (own-rows j x (table l) e o)) ∙ roomy-own (space l) (rows_with s j x (table l)) (accepted-room s l j x k)),
        tt,
      )
  plain_too l l' (strike j) e z r q =
      let h : has j (map id_in (own j (table l))) ≡ true = sym (has-own j (table l)) ∙ struck-has s l j (strike_tests_lem s l j q) in
      let h' : has j (map id_in (own i (table l))) ≡ true = subst (λ (k : ℕ). has j (map id_in (own k (table l))) ≡ true) (eqb-true j i e) h in
      passed (id_tests j (table l')) (ap (λ (rows : List Row). not (has j (map id_in rows))) (sym r) ∙ ap not h', tt)

-- the rows that it leaves are those of its effect
left_table : (s : GridSearch) (l : Library) (c : Change) → table (left s l c) ≡ effect s c (table l)
unfolding left effect
left_table s l (insert i x) = table-write _ l
left_table s l (strike i) = table-write _ (blank l)

-- it leaves the space as it was, and a library that passes 24 and 13
left_space : (s : GridSearch) (l : Library) (c : Change) → fault (library_tests s l ++ plain_tests s l c) ≡ none → space (left s l c) ≡ space l
unfolding left
left_space s l (insert i x) q = accepted-space s l i x (insert_tests_lem s l i x q)
left_space s l (strike i) q = struck-space s l i (strike_tests_lem s l i q)

pub left_passes : (s : GridSearch) (l : Library) (c : Change) → fault (library_tests s l ++ plain_tests s l c) ≡ none → fault (library_tests s (left s l c)) ≡ none
unfolding left
left_passes s l (insert i x) q = accepted-passes s l i x (insert_tests_lem s l i x q)
left_passes s l (strike i) q = struck-passes s l i (strike_tests_lem s l i q)

pub effect-order : (s : GridSearch) (c : Change) (rows : List Row) → sorted (map slot_of rows) ≡ true → sorted (map slot_of (effect s c rows)) ≡ true
unfolding effect
effect-order s (insert i x) rows o = inserted-order s i x rows o
effect-order s (strike i) rows o = sorted-without i rows o

-- ---- the same for every change

pub changed_table : (s : GridSearch) (h : Holding) (c : Change) → rows_in (changed s h c) ≡ effect s c (rows_in h)
changed_table s h c = left_table s h.library c

-- what a change that is accepted has passed: the tests of the holding, its own, and the directory's room
module _ (s : GridSearch) (h : Holding) (c : Change) (q : fault (change_tests s h c) ≡ none) where
  pub fit : fault (holding_tests s h) ≡ none
  unfolding change_tests
  fit = fault_left (holding_tests s h) (own_tests s h c) q

  own-passes : fault (plain_tests s h.library c ++ places_tests h.directory (effect s c (rows_in h))) ≡ none
  unfolding change_tests own_tests
  own-passes = sym (fault-right (holding_tests s h) (own_tests s h c) fit) ∙ q

  plain-own : fault (plain_tests s h.library c) ≡ none
  plain-own = fault_left (plain_tests s h.library c) (places_tests h.directory (effect s c (rows_in h))) own-passes

  pub plain_passes : fault (library_tests s h.library ++ plain_tests s h.library c) ≡ none
  plain_passes = fault-right (library_tests s h.library) (plain_tests s h.library c) (library-passes s h fit) ∙ plain-own

  places-fit : fits (places_of h.directory) (length (directory_of (effect s c (rows_in h)))) ≡ true
  unfolding places_tests
  places-fit =
      let last = places_tests h.directory (effect s c (rows_in h)) in
      not-false _ (unrefused last (sym (fault-right (plain_tests s h.library c) last plain-own) ∙ own-passes)).0

  pub places_left : fits (places_of h.directory) (length (directory_of (table (left s h.library c)))) ≡ true
  places_left = ap (λ (rows : List Row). fits (places_of h.directory) (length (directory_of rows))) (left_table s h.library c) ∙ places-fit

  -- the space is as it was, and what is left passes 24, 13 and 29
  pub changed_space : lent (changed s h c) ≡ lent h
  changed_space = leaving_lent s h (left s h.library c) fit (left_passes s h.library c plain_passes) (left_space s h.library c plain_passes) places_left

  pub changed_passes : fault (holding_tests s (changed s h c)) ≡ none
  changed_passes = leaving_passes s h (left s h.library c) fit (left_passes s h.library c plain_passes) (left_space s h.library c plain_passes) places_left

-- the change's own tests look at what was lent and at the rows in use alone
pub same-own : (s : GridSearch) (h m : Holding) → lent h ≡ lent m → rows_in h ≡ rows_in m → (c : Change) → own_tests s h c ≡ own_tests s m c
unfolding own_tests places_tests lent space
same-own s h m z t c =
    ap₂ (λ (ps qs : List Test). ps ++ qs) (plain-same s h.library m.library (λ i. record { rows = (z i).rows }) t c)
    (ap₂ (λ (y : Lent) (rows : List Row). refuse 12 (not (fits y.places (length (directory_of (effect s c rows))))) ∷ []) z t)

pub fits_fewer : (ns : List ℕ) {n m : ℕ} → m ≤ n → fits ns n ≡ true → fits ns m ≡ true
unfolding fits
fits_fewer [] h e = refl
fits_fewer (k ∷ ns) {n} {m} h e = le-leb m k (omega (arith, leb-true n k e))

module _ (s : GridSearch) (i : ℕ) (h h' : Holding) (c : Change) (e : eqb (whose c) i ≡ true) (z : lent h ≡ lent h') (r : own i (rows_in h) ≡ rows_in h') (q : fault (change_tests s h c) ≡ none) where
  -- the rows of i alone have no more entries than all rows
  places_too : fits (places_of h'.directory) (length (directory_of (effect s c (rows_in h')))) ≡ true
  unfolding lent own
  places_too =
      let alone : own i (effect s c (rows_in h)) ≡ effect s c (rows_in h') = own-effect s i c (rows_in h) e (order_in s h (fit s h c q)) ∙ ap (effect s c) r in
      ap₂ (λ (y : Lent) (rows : List Row). fits y.places (length (directory_of rows))) (sym z) (sym alone)
      ∙ fits_fewer (places_of h.directory) (fewer_entries _ (effect s c (rows_in h))) (places-fit s h c q)

  own_too : fault (own_tests s h' c) ≡ none
  unfolding own_tests places_tests lent space
  own_too =
      let last = places_tests h'.directory (effect s c (rows_in h')) in
      fault-right (plain_tests s h'.library c) last (plain_too s i h.library h'.library c e (λ j. record { rows = (z j).rows }) r (plain_passes s h c q))
      ∙ passed last (ap not places_too, tt)

changing_by : (s : GridSearch) (h : Holding) (c : Change) (o : Option ℕ) → fault (change_tests s h c) ≡ o
    → held_by s h.library h.directory (changing s h.library c) ≡ settle_in o (counting s c (rows_in h)) (changed s h c) h
unfolding change_tests own_tests
changing_by s h c o e =
    ap (held_by s h.library h.directory) (changing-is s h.library c)
    ∙ held-is s h (plain_tests s h.library c) (counting s c (rows_in h)) (left s h.library c)
    ∙ ap (λ (v : Option ℕ). settle_in v (counting s c (rows_in h)) (changed s h c) h)
    (ap (λ (rows : List Row). fault (holding_tests s h ++ (plain_tests s h.library c ++ places_tests h.directory rows))) (left_table s h.library c) ∙ e)

pub changing-held : (s : GridSearch) (h : Holding) (c : Change)
    → held_by s h.library h.directory (changing s h.library c) ≡ settle_in (fault (change_tests s h c)) (counting s c (rows_in h)) (changed s h c) h
changing-held s h c = changing_by s h c (fault (change_tests s h c)) refl

-- what `step` does
pub step_done : (s : GridSearch) (h : Holding) (c : Change) → fault (change_tests s h c) ≡ none
    → ((step s h (change c)).holding ≡ changed s h c) × (refusal (step s h (change c)).reply ≡ none)
unfolding step refusal settle_in
step_done s h c e = let d = changing_by s h c none e in (ap (λ (t : Held). t.holding) d, ap (λ (t : Held). refusal_in t.answer) d)

pub step-refused : (s : GridSearch) (h : Holding) (c : Change) (n : ℕ) → fault (change_tests s h c) ≡ some n
    → ((step s h (change c)).holding ≡ h) × (refusal (step s h (change c)).reply ≡ some n)
unfolding step refusal settle_in
step-refused s h c n e = let d = changing_by s h c (some n) e in (ap (λ (t : Held). t.holding) d, ap (λ (t : Held). refusal_in t.answer) d)

-- another library of the same space, which passes its own tests and has the rows of i alone, accepts a change of i that the first accepts
pub accepts_too : (s : GridSearch) (h h' : Holding) → fault (holding_tests s h') ≡ none → lent h ≡ lent h' → (i : ℕ) (c : Change) → eqb (whose c) i ≡ true → own i (rows_in h) ≡ rows_in h'
    → fault (change_tests s h c) ≡ none → fault (change_tests s h' c) ≡ none
accepts_too s h h' v z i c e r q = unfold change_tests in fault-right (holding_tests s h') (own_tests s h' c) v ∙ own_too s i h h' c e z r q
