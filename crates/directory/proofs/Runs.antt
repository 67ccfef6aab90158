-- The rows of one container, from its first on: where they end, and how the entries of rows begin.
-- Assumes nothing.
use Prim.Native.Nat.{ℕ, zero, suc, ◌+◌, ◌-◌, ◌≤◌, ◌<◌}
use native.Mathlib.Nat.{le_of_suc-le-suc, not-suc-le-zero}
use native.Mathlib.Decide.{dec_le}
use native.Mathlib.Omega.{arith}
use mathlib.Core.Path.{◌≡◌, refl, sym, ap, ◌∙◌}
use mathlib.Core.Bool.{true, false}
use mathlib.Core.List.{List, [], ◌∷◌}
use lib.Dec.{eqb}
use lib.ListN.{length, get_or, drop, length-drop, drop_of_length-le}
use lib.Seq.{drop-cons, get_or-drop, drop-drop}
use borrow.Author.Tests.{eqb-true, eqb-false, eq-eqb}
use Rattle.basics.proofs.Bools.{by_test, clash, and_left, and_right}
use Rattle.table.specs.Rows.{run}
use Rattle.table.proofs.Runs.{run-most}
use Rattle.std.specs.List.Sorted.{IsNonDecreasing}
use Rattle.directory.specs.declared.Entry.{Entry}
use Rattle.directory.specs.Entries.{entry, entries_from, same_entry}
use Rattle.directory.specs.Posts.{leads}
use Rattle.directory.proofs.Entries.{entries-front}

-- ---- how many keys from the front are one key

run_in : (k : ℕ) (ks : List ℕ) (i : ℕ) → i < run k ks → get_or ks i 0 ≡ k
unfolding run
run_in k [] i h = absurd (not-suc-le-zero h)
run_in k (j ∷ ks) zero h = by_test (eqb j k) (λ e. eqb-true j k e) (λ e. absurd (not-suc-le-zero (rw e at h)))
run_in k (j ∷ ks) (suc i) h = by_test (eqb j k) (λ e. run_in k ks i (le_of_suc-le-suc (rw e at h))) (λ e. absurd (not-suc-le-zero (rw e at h)))

run_behind : (k : ℕ) (ks : List ℕ) → run k ks < length ks → get_or ks (run k ks) 0 ≡ k → ⊥
unfolding run
run_behind k [] h g = not-suc-le-zero h
run_behind k (j ∷ ks) h g =
    by_test (eqb j k) (λ e. run_behind k ks (le_of_suc-le-suc (rw e at h)) (rw e at g)) (λ e. eqb-false j k e (rw e at g))

-- ---- the rows from `next` on, which have a container there

module _ (keys : List ℕ) (next : ℕ) (h : next < length keys) where
  abbrev key : ℕ
  key = get_or keys next 0

  abbrev behind : List ℕ
  behind = drop (suc next) keys

  -- how many rows it has
  abbrev pub size : ℕ
  size = suc (run key behind)

  abbrev rows : List ℕ
  rows = drop next keys

  rows_are : rows ≡ key ∷ behind
  rows_are = drop-cons keys next 0 h

  pub size-run : run key rows ≡ size
  unfolding run
  size-run = rw (rows_are, eq-eqb key key refl)

  -- the entries from there on begin with its own
  pub front : entries_from next rows ≡ entry key next size ∷ entries_from (next + size) (drop (next + size) keys)
  front =
      let far : suc next + run key behind ≡ next + size = omega arith in
      ap (entries_from next) rows_are
      ∙ entries-front next key behind
      ∙ ap (λ (ks : List ℕ). entry key next size ∷ entries_from (next + size) ks) (drop-drop (run key behind) (suc next) keys ∙ ap (λ (n : ℕ). drop n keys) far)

  -- as the walk from container to container takes them
  pub front-run : {n : ℕ} → n ≡ run key rows → entries_from next rows ≡ entry key next n ∷ entries_from (next + n) (drop (next + n) keys)
  front-run {n} e = front ∙ ap (λ (i : ℕ). entry key next i ∷ entries_from (next + i) (drop (next + i) keys)) (sym (e ∙ size-run))

  size_behind : length behind ≡ length keys - suc next
  size_behind = length-drop (suc next) keys

  pub size-most : next + size ≤ length keys
  size-most = omega (arith, run-most key behind, size_behind)

  pub run-inside : {n : ℕ} → n ≡ run key rows → next + n ≤ length keys
  run-inside e = omega (arith, e, size-run, size-most)

  at_behind : (i : ℕ) → get_or behind i 0 ≡ get_or keys (suc next + i) 0
  at_behind i = get_or-drop (suc next) keys i 0

  -- the rows of the container have its key, and the row behind them has not
  pub in_run : (j : ℕ) → next ≤ j → j < next + size → get_or keys j 0 ≡ key
  in_run j k l = go (dec_le j next)
    where
      go : Dec (j ≤ next) → get_or keys j 0 ≡ key
      go (yes g) = ap (λ (n : ℕ). get_or keys n 0) (omega arith)
      go (no g) =
          let i = j - suc next in
          let e : suc next + i ≡ j = omega arith in
          ap (λ (n : ℕ). get_or keys n 0) (sym e) ∙ sym (at_behind i) ∙ run_in key behind i (omega arith)

  pub behind_run : next + size < length keys → get_or keys (next + size) 0 ≡ key → ⊥
  behind_run l g =
      let e : suc next + run key behind ≡ next + size = omega arith in
      run_behind key behind (omega (arith, size_behind)) (at_behind (run key behind) ∙ ap (λ (n : ℕ). get_or keys n 0) e ∙ g)

  -- keys that do not descend: a later row of its key is one of its rows
  module _ (o : IsNonDecreasing keys) where
    last_in : (j : ℕ) → next ≤ j → j < length keys → get_or keys j 0 ≡ key → j < next + size
    last_in j k l g = go (dec_le (next + size) j)
      where
        go : Dec (next + size ≤ j) → j < next + size
        go (yes m) =
            absurd
            (behind_run (omega arith)
            (omega (arith, o next (next + size) 0 (omega arith) (omega arith), o (next + size) j 0 m l)))
        go (no m) = omega arith

    -- so the rows at the ends tell how many there are
    pub ends_tell : (n : ℕ) → 1 ≤ n → next + n ≤ length keys → get_or keys (next + n - 1) 0 ≡ key → (next + n < length keys → get_or keys (next + n) 0 ≡ key → ⊥) → n ≡ size
    ends_tell n k l g b = go (dec_le size n)
      where
        most : n ≤ size
        most = omega (arith, last_in (next + n - 1) (omega arith) (omega arith) g)

        go : Dec (size ≤ n) → n ≡ size
        go (yes m) = omega (arith, most)
        go (no m) = absurd (b (omega (arith, size-most)) (in_run (next + n) (omega arith) (omega arith)))

-- ---- an entry that is the first of those from `next` on

module _ (keys : List ℕ) (next : ℕ) (d : Entry) where
  abbrev left : List Entry
  left = entries_from next (drop next keys)

  -- it is the container's there
  pub record Leads : Type 0 where
    pub some : next < length keys
    pub key-is : d.key ≡ get_or keys next 0
    pub first-is : d.first ≡ next
    pub count-is : d.count ≡ size keys next some

  pub none-left : length keys ≤ next → left ≡ []
  unfolding entries_from
  none-left h = ap (entries_from next) (drop_of_length-le keys h)

  pub leads_true : Leads → leads d left ≡ true
  unfolding leads same_entry
  leads_true w = rw (front keys next w.some, eq-eqb _ _ w.key-is, eq-eqb _ _ w.first-is, eq-eqb _ _ w.count-is)

  pub leads_what : leads d left ≡ true → Leads
  unfolding leads same_entry
  leads_what e = go (dec_le (length keys) next)
    where
      go : Dec (length keys ≤ next) → Leads
      go (yes h) = clash e (ap (leads d) (none-left h))
      go (no h) =
          let s : next < length keys = omega arith in
          let f : same_entry d (entry (get_or keys next 0) next (size keys next s)) ≡ true = sym (ap (leads d) (front keys next s)) ∙ e in
          let a = and_left (eqb d.key (get_or keys next 0)) _ f in
          let g = and_right (eqb d.key (get_or keys next 0)) _ f in
          record {
            some = s;
            key-is = eqb-true _ _ a;
            first-is = eqb-true _ _ (and_left (eqb d.first next) _ g);
            count-is = eqb-true _ _ (and_right (eqb d.first next) _ g);
          }

  pub leads_false : (Leads → ⊥) → leads d left ≡ false
  leads_false n = by_test (leads d left) (λ e. absurd (n (leads_what e))) (λ e. e)

  -- its first row and the row behind it tell, where keys do not descend
  pub ends-lead : IsNonDecreasing keys → d.first ≡ next → 1 ≤ d.count → next + d.count ≤ length keys → get_or keys next 0 ≡ d.key → get_or keys (next + d.count - 1) 0 ≡ d.key
      → (next + d.count < length keys → get_or keys (next + d.count) 0 ≡ d.key → ⊥) → leads d left ≡ true
  ends-lead o f k l e g b =
      let s : next < length keys = omega arith in
      leads_true record {
        some = s;
        key-is = sym e;
        first-is = f;
        count-is = ends_tell keys next s o d.count k l (g ∙ sym e) (λ m z. b m (z ∙ e));
      }

  -- and where the row behind it has its key, it is not
  pub goes_on : next + d.count < length keys → get_or keys (next + d.count) 0 ≡ d.key → leads d left ≡ false
  goes_on l g =
      leads_false
      (λ w. let n = w.count-is in
      let e : next + d.count ≡ next + size keys next w.some = ap (λ (m : ℕ). next + m) n in
      behind_run keys next w.some (omega arith) (ap (λ (j : ℕ). get_or keys j 0) (sym e) ∙ g ∙ w.key-is))
