-- Fewer rows have no more entries: how many entries rows have, and rows that are left out.
-- Assumes nothing.
use Prim.Native.Nat.{ℕ, suc, ◌+◌, ◌≤◌}
use native.Mathlib.Omega.{arith}
use mathlib.Core.Path.{◌≡◌, refl, sym, ap, ◌∙◌}
use mathlib.Core.Bool.{Bool, true, false, cond}
use mathlib.Core.List.{List, [], ◌∷◌, map}
use lib.Dec.{eqb}
use lib.ListN.{length, drop}
use borrow.Author.Tests.{eqb-true}
use Rattle.basics.proofs.Bools.{by_test}
use Rattle.basics.specs.Lists.{keep}
use Rattle.table.specs.declared.Row.{Row}
use Rattle.table.specs.Rows.{run, key_in}
use Rattle.directory.specs.declared.Entry.{Entry}
use Rattle.directory.specs.Entries.{entry, join, entries_from, directory_of}
use Rattle.directory.proofs.Entries.{join-same, join-other, entries-front}

-- how many of the keys differ from the one before, which for the first is p
unfoldable pub changes : ℕ → List ℕ → ℕ
changes p [] = 0
changes p (k ∷ ks) = cond (eqb k p) 0 1 + changes k ks

length-join : (n k : ℕ) (e : Entry) (es : List Entry) → length (join n k (e ∷ es)) ≡ cond (eqb e.key k) 0 1 + suc (length es)
length-join n k e es = by_test (eqb e.key k) (λ h. rw h (omega (arith, ap length (join-same n k e es h)))) (λ h. rw h (omega (arith, ap length (join-other n k e es h))))

entries_next : (n k : ℕ) (ks : List ℕ) → entries_from n (k ∷ ks) ≡ join n k (entries_from (suc n) ks)
unfolding entries_from
entries_next n k ks = refl

-- each run of equal keys has one entry
pub length-entries : (n k : ℕ) (ks : List ℕ) → length (entries_from n (k ∷ ks)) ≡ suc (changes k ks)
unfolding changes
length-entries n k [] = unfold entries_from join in refl
length-entries n k (j ∷ ks) =
    let rest = entries_from (suc n + suc (run j ks)) (drop (run j ks) ks) in
    let front : entries_from (suc n) (j ∷ ks) ≡ entry j (suc n) (suc (run j ks)) ∷ rest = entries-front (suc n) j ks in
    let ih : suc (length rest) ≡ suc (changes j ks) = sym (ap length front) ∙ length-entries (suc n) j ks in
    let whole : length (entries_from n (k ∷ j ∷ ks)) ≡ cond (eqb j k) 0 1 + suc (length rest) =
    ap length (entries_next n k (j ∷ ks)) ∙ ap (λ (es : List Entry). length (join n k es)) front ∙ length-join n k _ rest in
    omega (arith, whole, ih)

-- another key before them makes at most one more
changes_one_more : (p k : ℕ) (ks : List ℕ) → changes p ks ≤ 1 + changes k ks
unfolding changes
changes_one_more p k [] = omega arith
changes_one_more p k (j ∷ ks) = by_test (eqb j p) (λ e. rw e (omega arith)) (λ e. rw e (omega arith))

module _ (q : Row → Bool) where
  fewer_changes : (p : ℕ) (rows : List Row) → changes p (map key_in (keep q rows)) ≤ changes p (map key_in rows)
  unfolding keep changes
  fewer_changes p [] = omega arith
  fewer_changes p (r ∷ rows) = by_test (q r) (kept (fewer_changes (key_in r) rows)) (left_out (fewer_changes (key_in r) rows))
    where
      kept : changes (key_in r) (map key_in (keep q rows)) ≤ changes (key_in r) (map key_in rows) → q r ≡ true → changes p (map key_in (keep q (r ∷ rows))) ≤ changes p (map key_in (r ∷ rows))
      kept ih e = rw e (omega arith)

      left_out : changes (key_in r) (map key_in (keep q rows)) ≤ changes (key_in r) (map key_in rows) → q r ≡ false → changes p (map key_in (keep q (r ∷ rows))) ≤ changes p (map key_in (r ∷ rows))
      left_out ih e =
          rw e (by_test (eqb (key_in r) p)
          (λ h. let z : key_in r ≡ p = eqb-true (key_in r) p h in rw (h, sym z) (omega arith))
          (λ h. rw h (omega (arith, changes_one_more p (key_in r) (map key_in (keep q rows))))))

  at_most : (k : ℕ) (ks : List ℕ) → length (entries_from 0 ks) ≤ suc (changes k ks)
  unfolding changes
  at_most k [] = unfold entries_from in omega arith
  at_most k (j ∷ ks) = omega (arith, length-entries 0 j ks)

  -- rows that are left out make no entry more
  pub fewer_entries : (rows : List Row) → length (directory_of (keep q rows)) ≤ length (directory_of rows)
  unfolding keep directory_of
  fewer_entries [] = omega arith
  fewer_entries (r ∷ rows) = by_test (q r) kept left_out
    where
      all_of : length (entries_from 0 (map key_in (r ∷ rows))) ≡ suc (changes (key_in r) (map key_in rows))
      all_of = length-entries 0 (key_in r) (map key_in rows)

      kept : q r ≡ true → length (directory_of (keep q (r ∷ rows))) ≤ length (directory_of (r ∷ rows))
      kept e = rw e (omega (arith, all_of, length-entries 0 (key_in r) (map key_in (keep q rows)), fewer_changes (key_in r) rows))

      left_out : q r ≡ false → length (directory_of (keep q (r ∷ rows))) ≤ length (directory_of (r ∷ rows))
      left_out e = rw e (omega (arith, all_of, at_most (key_in r) (map key_in (keep q rows)), fewer_changes (key_in r) rows))
