-- Containers side by side: where the rows of one end, which they are, and the counts of the containers behind it.
-- Assumes nothing.
use Prim.Native.Nat.{ℕ, zero, suc, ◌+◌, ◌-◌, ◌≤◌, ◌<◌}
use native.Mathlib.Numerals.{add-one}
use native.Mathlib.Omega.{arith}
use mathlib.Core.Path.{◌≡◌, refl, sym, ap, ◌∙◌, subst}
use mathlib.Core.List.{List, [], ◌∷◌}
use lib.Dec.{eqb, ltb}
use lib.ListN.{length, get_or, take, drop, drop_of_length-le}
use lib.Seq.{get_or-drop, get_or-take, drop-cons, drop-drop, slice-cons, length-slice}
use denote.Ref.{Bor}
use Rattle.std.specs.Prelude.{Option, Some, None}
use Rattle.std.proofs.lemmas.List.{drop-take}
use borrow.Author.Tests.{eqb-true, ltb-true, ltb-false}
use Rattle.basics.proofs.Bools.{by_test}
use Rattle.table.specs.Rows.{run}
use Rattle.table.proofs.Runs.{run-one, run-most}
use Rattle.listing.specs.Posts.{end_from, Runs, CountedFrom}

-- ---- a run of equal keys

run-same : (k : ℕ) (ks : List ℕ) (i : ℕ) → i < run k ks → get_or ks i 0 ≡ k
unfolding run
run-same k [] i h = absurd (omega arith)
run-same k (j ∷ ks) zero h = by_test (eqb j k) (λ e. eqb-true j k e) (λ e. let z : 0 < 0 = rw e at h in absurd (omega arith))
run-same k (j ∷ ks) (suc i) h =
    by_test (eqb j k) (λ e. let m : suc i < suc (run k ks) = rw e at h in run-same k ks i (omega arith)) (λ e. let z : suc i < 0 = rw e at h in absurd (omega arith))

-- ---- the rows of a container from its first on

module _ (keys : List ℕ) (used first : ℕ) (k : used ≤ length keys) (h : first < used) where
  abbrev key : ℕ
  key = get_or keys first 0

  -- how many of its rows stand behind the first
  abbrev behind : ℕ
  behind = run key (drop (suc first) (take used keys))

  end_behind : end_from keys used first ≡ suc first + behind
  end_behind =
      let e : run key (drop first (take used keys)) ≡ suc (run key (drop (first + 1) (take used keys))) = run-one key used keys first h k refl in
      let g : run key (drop (first + 1) (take used keys)) ≡ behind = ap (λ (i : ℕ). run key (drop i (take used keys))) (add-one first) in
      omega arith

  pub end_past : first < end_from keys used first
  end_past = omega (arith, end_behind)

  -- as they are counted
  pub end-run : {n : ℕ} → n ≡ run key (take (used - first) (drop first keys)) → first + n ≡ end_from keys used first
  end-run e =
      let all : first + (used - first) ≡ used = omega arith in
      ap (λ (n : ℕ). first + n) (e ∙ ap (run key) (sym (drop-take first (used - first) keys) ∙ ap (λ (n : ℕ). drop first (take n keys)) all))

  pub end_upto : end_from keys used first ≤ used
  end_upto = omega (arith, run-most key (drop first (take used keys)), length-slice first used keys k)

  pub end_alike : (i : ℕ) → first ≤ i → i < end_from keys used first → get_or keys i 0 ≡ key
  end_alike i a b =
      let e : first + (i - first) ≡ i = omega arith in
      let u = end_upto in
      let t : get_or (take used keys) i 0 ≡ get_or keys i 0 = get_or-take used keys i 0 (omega arith) in
      let d : get_or (drop first (take used keys)) (i - first) 0 ≡ get_or (take used keys) i 0 =
      get_or-drop first (take used keys) (i - first) 0 ∙ ap (λ (j : ℕ). get_or (take used keys) j 0) e in
      sym (d ∙ t) ∙ run-same key (drop first (take used keys)) (i - first) (omega arith)

  -- ---- counts

  module _ (counts : List ℕ) (place : ℕ) (r : Runs (drop place counts) (drop first (take used keys))) where
    -- a row has a container, which has a count
    pub count-inside : place < length counts
    count-inside =
        by_test (ltb place (length counts)) (λ t. ltb-true place (length counts) t)
        (λ t.
        let e : drop first (take used keys) ≡ [] = rw (drop_of_length-le counts {i = place} (ltb-false place (length counts) t)) at r in
        absurd (omega (arith, ap length e, length-slice first used keys k)))

    front_runs : (get_or counts place 0 ≡ suc behind) × Runs (drop (suc place) counts) (drop behind (drop (suc first) (take used keys)))
    front_runs = rw (drop-cons counts place 0 count-inside, slice-cons first used keys 0 h k) at r

    pub count_end : first + get_or counts place 0 ≡ end_from keys used first
    count_end = omega (arith, front_runs.0, end_behind)

    next_runs : {end : ℕ} → end ≡ end_from keys used first → Runs (drop (place + 1) counts) (drop end (take used keys))
    next_runs {end} is-end =
        let e : drop behind (drop (suc first) (take used keys)) ≡ drop end (take used keys) =
        drop-drop behind (suc first) (take used keys) ∙ ap (λ (n : ℕ). drop n (take used keys)) (sym (is-end ∙ end_behind)) in
        subst (λ (n : ℕ). Runs (drop n counts) (drop end (take used keys))) (sym (add-one place)) (subst (λ (ks : List ℕ). Runs (drop (suc place) counts) ks) e front_runs.1)

  pub counted_next : (counts : Option (Bor (List ℕ))) (place : ℕ) {end : ℕ} → CountedFrom keys used counts place first → end ≡ end_from keys used first → CountedFrom keys used counts (place + 1) end
  counted_next (Some counts) place c is-end = next_runs counts.now place c is-end
  counted_next None place c is-end = tt

  -- by the keys
  pub keys_end : first + run (get_or (take used keys) first 0) (drop first (take used keys)) ≡ end_from keys used first
  keys_end = ap (λ (j : ℕ). first + run j (drop first (take used keys))) (get_or-take used keys first 0 h)
