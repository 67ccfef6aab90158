-- Near and listed beside the answers of `search` and of a listing.
use Prim.Native.Nat.{ℕ, ◌≤◌}
use native.Mathlib.Omega.{arith}
use mathlib.Core.Path.{◌≡◌, refl, sym, ◌∙◌, ap}
use mathlib.Core.Bool.{Bool, true, false, ◌&&◌, and-false}
use mathlib.Core.Logic.{⊎_elim}
use mathlib.Core.Option.{Option, none, some, Option-elim, some-ne-none}
use mathlib.Core.List.Memᴰ
use mathlib.Core.List.{List, [], ◌∷◌, ◌++◌, append_assoc, Memᴰ}
use lib.Dec.{ltb, eqb}
use lib.ListN.{length}
use lib.Ieee.{Float, le, eq}
use borrow.Author.Tests.{eqb-true, eq-eqb, le-ltb}
use Rattle.basics.proofs.Bools.{clash, both, and_both, or_either, or-true}
use Rattle.basics.specs.Lists.{all, has}
use Rattle.basics.specs.Refusals.{Test, refuse, fault, refused, success, is_none}
use Rattle.basics.proofs.Refusals.{fault_left, fault-right}
use Rattle.floats.proofs.Order.{eq-le}
use Rattle.grid_search.specs.declared.GridSearch.{GridSearch}
use Rattle.table.specs.declared.Row.{Row}
use Rattle.table.specs.Rows.{id_in}
use Rattle.table.specs.Library.{Library}
use Rattle.rows.specs.Damage.{library_tests}
use Rattle.directory.specs.Directory.{Directory}
use Rattle.directory.specs.Calls.{both_tests, directory_tests}
use Rattle.search.specs.Search.{near_rows, away, chosen}
use Rattle.search.proofs.Choice.{Leads, Choice, chosen_row, chosen_none}
use Rattle.listing.specs.declared.Filter.{Filter}
use Rattle.sorting.specs.Ascent.{ascending}
use Rattle.listing.specs.Place.{Asked, is_on, place_tests}
use Rattle.listing.specs.Listing.{occupied}
use Rattle.basics.specs.Filled.{Filled, fill}
use Rattle.basics.proofs.Filled.{fill-success, fill-refused}
use Rattle.independence.specs.Holdings.{Holding, rows_in, tests_by, holding_tests, searching, listing_in}
use Rattle.independence.specs.Queries.{pass, near_tests, near, distance, ids_in, placed_tests, on}
use Rattle.independence.specs.Claims.{Finding, Writing}
use Rattle.table.proofs.Libraries.{length-table}
use Rattle.independence.proofs.Holdings.{searching-is, listing-is}
use Rattle.independence.proofs.Ids.{holds, ids-ascend, ids-no_more}
use Rattle.independence.proofs.Distances.{only_row}
use Rattle.independence.proofs.Replies.{value_of_lem, refusal_of}
use Rattle.independence.proofs.Damage.{clean, says, came_later}

-- ---- the rows of an id

-- where rows hold an id, one of them is its own
held_row : (i : ℕ) (rows : List Row) → holds i rows ≡ true → (r : Row) × Memᴰ r rows × (id_in r ≡ i)
unfolding has
held_row i [] h = clash h refl
held_row i (r ∷ rows) h =
    ⊎_elim (λ (e : eqb (id_in r) i ≡ true). (r, Memᴰ.head refl, eqb-true (id_in r) i e))
    (λ (k : holds i rows ≡ true). let d = held_row i rows k in (d.0, Memᴰ.tail d.1, d.2))
    (or_either (eqb (id_in r) i) (holds i rows) h)

-- the other way round
row_held : (r : Row) (rows : List Row) → Memᴰ r rows → {i : ℕ} → id_in r ≡ i → holds i rows ≡ true
unfolding has
row_held r [] m e = absurd (Memᴰ.not-nil m)
row_held r (t ∷ rows) m {i} e =
    ⊎_elim (λ (g : r ≡ t). rw (eq-eqb (id_in t) i (ap id_in (sym g) ∙ e))) (λ (k : Memᴰ r rows). or-true (eqb (id_in t) i) (row_held r rows k e)) (Memᴰ.cases_cons m)

-- ---- search

near-is : (s : GridSearch) (l : Holding) (x : List Float) (i : ℕ) → near s l x i ≡ (pass (near_tests s l x) && holds i (near_rows s x (rows_in l)))
unfolding near
near-is s l x i = refl

module _ (s : GridSearch) (l : Holding) (x : List Float) where
  abbrev rows : List Row
  rows = near_rows s x (rows_in l)

  valued : {o : Option ℕ} → searching s l x ≡ success o → (fault (near_tests s l x) ≡ none) × (chosen s x rows ≡ o)
  valued e = value_of_lem (fault (near_tests s l x)) (chosen s x rows) (sym (searching-is s l x) ∙ e)

  turned : {n : ℕ} → searching s l x ≡ refused n → pass (near_tests s l x) ≡ false
  unfolding pass is_none
  turned e = ap is_none (refusal_of (fault (near_tests s l x)) (chosen s x rows) (sym (searching-is s l x) ∙ e))

  -- the distance of an id is that of its near row
  measured : fault (near_tests s l x) ≡ none → (r : Row) → Memᴰ r rows → {i : ℕ} → id_in r ≡ i → distance s l x i ≡ away s x r
  unfolding distance Option-elim
  measured v r m e = rw (only_row s l x v r m e)

  -- the id found is that of the row chosen, and an id that is near that of a near row
  module _ (j : ℕ) (e : searching s l x ≡ success (some j)) where
    picked : (r : Row) × Choice s x rows r × (id_in r ≡ j)
    picked = chosen_row s x (rows_in l) j (valued e).1

    found-near : near s l x j ≡ true
    unfolding pass is_none
    found-near = near-is s l x j ∙ both (ap is_none (valued e).0) (row_held picked.0 rows picked.1.among picked.2)

    module _ (i : ℕ) (h : near s l x i ≡ true) where
      other : (r : Row) × Memᴰ r rows × (id_in r ≡ i)
      other = held_row i rows (and_both (pass (near_tests s l x)) (holds i rows) (sym (near-is s l x i) ∙ h)).1

      leading : Leads s x picked.0 other.0
      leading = picked.1.leads other.0 other.1

      of_found : distance s l x j ≡ away s x picked.0
      of_found = measured (valued e).0 picked.0 picked.1.among picked.2

      of_other : distance s l x i ≡ away s x other.0
      of_other = measured (valued e).0 other.0 other.1 other.2

      no_nearer : le (distance s l x j) (distance s l x i) ≡ true
      no_nearer = rw (of_found, of_other) leading.not_farther

      no_lower : eq (distance s l x i) (distance s l x j) ≡ true → j ≤ i
      no_lower q = rw (sym picked.2, sym other.2) (leading.not_higher (eq-le (away s x other.0) (away s x picked.0) (rw (of_other, of_found) at q)))

  pub finding : Finding s l x
  unfolding has
  finding = record {
    is_near = found-near;
    is_nearest = no_nearer;
    is_lowest = no_lower;
    nothing_near = λ e i.
        near-is s l x i
        ∙ ap (λ (rs : List Row). pass (near_tests s l x) && holds i rs) (chosen_none s x (rows_in l) (valued e).1)
        ∙ and-false (pass (near_tests s l x));
    refused_near = λ n e i. near-is s l x i ∙ ap (λ (b : Bool). b && holds i rows) (turned e);
  }

-- ---- listing

-- of tests that go on with 14, another number is one of those before
before_14 : (ts : List Test) (b : Bool) (n : ℕ) → fault (ts ++ (refuse 14 b ∷ [])) ≡ some n → eqb n 14 ≡ false → pass ts ≡ false
unfolding pass is_none fault
before_14 ts b n e f = go (fault ts) refl
  where
    last : (b : Bool) → fault (refuse 14 b ∷ []) ≡ some n → eqb n 14 ≡ true
    last true e = let z : 14 ≡ n = cc in eq-eqb n 14 (sym z)
    last false e = let z : ◌≡◌ {A = ℕ} 0 1 = cc in absurd (omega arith)

    go : (o : Option ℕ) → fault ts ≡ o → is_none (fault ts) ≡ false
    go none g = clash (last b (sym (fault-right ts (refuse 14 b ∷ []) g) ∙ e)) f
    go (some m) g = ap is_none g

-- tests that have no 14 among them do not give it, where the last does not fail
never_14 : (ts : List Test) (b : Bool) → clean (says 14) ts ≡ true → b ≡ false → fault (ts ++ (refuse 14 b ∷ [])) ≡ some 14 → ⊥
unfolding fault
never_14 ts b k f e = absurd (some-ne-none 14 (sym e ∙ fault-right ts (refuse 14 b ∷ []) (came_later 14 ts (refuse 14 b ∷ []) k e) ∙ passes))
  where
    passes : fault (refuse 14 b ∷ []) ≡ none
    passes = rw f

pass_left : (us ts : List Test) → fault (us ++ ts) ≡ none → pass us ≡ true
unfolding pass is_none
pass_left us ts e = ap is_none (fault_left us ts e)

module _ (s : GridSearch) (l : Holding) (p : Asked) (f : Filter) (lent : List ℕ) where
  on-is : (i : ℕ) → on s l p f i ≡ (pass (placed_tests s l p f) && has i (ids_in s l p f))
  unfolding on
  on-is i = refl

  tests : List Test
  tests = placed_tests s l p f ++ (refuse 14 (ltb (length lent) (length (ids_in s l p f))) ∷ [])

  listed-is : listing_in s l p f lent ≡ fill (fault tests) (ids_in s l p f) lent
  unfolding tests placed_tests
  listed-is =
      listing-is s l p f lent
      ∙ ap (λ (ts : List Test). fill (fault ts) (ids_in s l p f) lent)
      (sym (append_assoc (holding_tests s l) (place_tests s p f (occupied (rows_in l))) (refuse 14 (ltb (length lent) (length (ids_in s l p f))) ∷ [])))

  listed-ascend : ascending (ids_in s l p f) ≡ true
  unfolding ids_in
  listed-ascend = ids-ascend (is_on s p f) (rows_in l)

  listed-no_more : length (ids_in s l p f) ≤ l.library.used
  unfolding ids_in
  listed-no_more = omega (arith, ids-no_more (is_on s p f) (rows_in l), length-table l.library)

  no_14 : clean (says 14) (placed_tests s l p f) ≡ true
  unfolding placed_tests holding_tests
  no_14 = never l.library l.directory
    where
      never : (m : Library) (o : Option Directory) → clean (says 14) (tests_by s m o ++ place_tests s p f (occupied (rows_in l))) ≡ true
      never m none = unfold clean all says tests_by library_tests place_tests in refl
      never m (some d) = unfold clean all says tests_by directory_tests both_tests place_tests in refl

  pub writing : Writing s l p f lent
  unfolding tests
  writing = record {
    writes = λ n e.
        let d = fill-success (ids_in s l p f) lent n (fault tests) (ap (λ (t : Filled). t.answer) (sym listed-is) ∙ e) in
        let t = pass_left (placed_tests s l p f) (refuse 14 (ltb (length lent) (length (ids_in s l p f))) ∷ []) d.0 in
        (ap (λ (t : Filled). t.list) listed-is ∙ d.1, d.2, λ i. sym (on-is i ∙ ap (λ (b : Bool). b && has i (ids_in s l p f)) t));
    ascend = listed-ascend;
    no_more = listed-no_more;
    long_enough = λ h e.
        never_14 (placed_tests s l p f) (ltb (length lent) (length (ids_in s l p f))) no_14 (le-ltb (length lent) (length (ids_in s l p f)) (omega (arith, listed-no_more)))
        (fill-refused (ids_in s l p f) lent 14 (fault tests) (ap (λ (t : Filled). t.answer) (sym listed-is) ∙ e));
    refused_on = λ n e g i.
        let d = fill-refused (ids_in s l p f) lent n (fault tests) (ap (λ (t : Filled). t.answer) (sym listed-is) ∙ e) in
        on-is i ∙ ap (λ (b : Bool). b && has i (ids_in s l p f)) (before_14 (placed_tests s l p f) (ltb (length lent) (length (ids_in s l p f))) n d g);
  }
