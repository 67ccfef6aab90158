-- Laws of the entries of rows.
-- Assumes nothing.
use Prim.Native.Nat.{ℕ, suc, ◌+◌, ◌≤◌}
use native.Mathlib.Omega.{arith}
use mathlib.Core.Path.{◌≡◌, refl, sym, ap, ◌∙◌}
use mathlib.Core.Bool.{Bool, true, false, ◌||◌}
use mathlib.Core.List.{List, [], ◌∷◌, map}
use lib.Dec.{eqb}
use lib.ListN.{length, drop, length-map}
use borrow.Author.Tests.{eqb-true}
use Rattle.basics.specs.Lists.{has}
use Rattle.basics.proofs.Bools.{by_test}
use Rattle.table.specs.declared.Row.{Row}
use Rattle.table.specs.Rows.{run, key_in}
use Rattle.directory.specs.declared.Entry.{Entry}
use Rattle.directory.specs.Entries.{entry, key_of, join, entries_from, directory_of}

-- a row joins the first entry, or has one of its own
pub join-same : (n k : ℕ) (e : Entry) (es : List Entry) → eqb e.key k ≡ true → join n k (e ∷ es) ≡ entry k n (suc e.count) ∷ es
unfolding join
join-same n k e es h = rw h

pub join-other : (n k : ℕ) (e : Entry) (es : List Entry) → eqb e.key k ≡ false → join n k (e ∷ es) ≡ entry k n 1 ∷ e ∷ es
unfolding join
join-other n k e es h = rw h

-- the first entry is that of the rows that begin with the first key's run, and the rest is that of the rows behind them
pub entries-front : (n k : ℕ) (ks : List ℕ) → entries_from n (k ∷ ks) ≡ entry k n (suc (run k ks)) ∷ entries_from (n + suc (run k ks)) (drop (run k ks) ks)
unfolding entries_from run
entries-front n k [] = unfold join in refl
entries-front n k (j ∷ ks) = by_test (eqb j k) (same (entries-front (suc n) j ks)) (other (entries-front (suc n) j ks))
  where
    other : entries_from (suc n) (j ∷ ks) ≡ entry j (suc n) (suc (run j ks)) ∷ entries_from (suc n + suc (run j ks)) (drop (run j ks) ks)
        → eqb j k ≡ false → entries_from n (k ∷ j ∷ ks) ≡ entry k n (suc (run k (j ∷ ks))) ∷ entries_from (n + suc (run k (j ∷ ks))) (drop (run k (j ∷ ks)) (j ∷ ks))
    other ih e =
        let one : suc n ≡ n + 1 = omega arith in
        rw e (ap (join n k) ih ∙ join-other n k _ _ e ∙ ap (λ (es : List Entry). entry k n 1 ∷ es) (sym ih ∙ ap (λ (m : ℕ). entries_from m (j ∷ ks)) one))

    same : entries_from (suc n) (j ∷ ks) ≡ entry j (suc n) (suc (run j ks)) ∷ entries_from (suc n + suc (run j ks)) (drop (run j ks) ks)
        → eqb j k ≡ true → entries_from n (k ∷ j ∷ ks) ≡ entry k n (suc (run k (j ∷ ks))) ∷ entries_from (n + suc (run k (j ∷ ks))) (drop (run k (j ∷ ks)) (j ∷ ks))
    same ih e =
        let q : j ≡ k = eqb-true j k e in
        let far : (m : ℕ) → suc n + suc m ≡ n + suc (suc m) = λ m. omega arith in
        rw e (ap (join n k) ih ∙ join-same n k _ _ e ∙ ap (λ (i : ℕ). entry k n (suc (suc (run i ks))) ∷ entries_from (suc n + suc (run i ks)) (drop (run i ks) ks)) q
        ∙ ap (λ (m : ℕ). entry k n (suc (suc (run k ks))) ∷ entries_from m (drop (run k ks) ks)) (far (run k ks)))

-- ---- how many there are, and which keys they have

length-join : (n k : ℕ) (es : List Entry) → length (join n k es) ≤ suc (length es)
unfolding join
length-join n k [] = omega arith
length-join n k (e ∷ es) = by_test (eqb e.key k) (λ h. rw h (omega arith)) (λ h. rw h (omega arith))

pub entries-few : (n : ℕ) (ks : List ℕ) → length (entries_from n ks) ≤ length ks
unfolding entries_from
entries-few n [] = omega arith
entries-few n (k ∷ ks) = omega (arith, length-join n k (entries_from (suc n) ks), entries-few (suc n) ks)

-- no more containers than rows
pub directory-few : (rows : List Row) → length (directory_of rows) ≤ length rows
unfolding directory_of
directory-few rows = omega (arith, entries-few 0 (map key_in rows), length-map rows key_in)

-- the keys of rows are those of their entries
has_join : (j n k : ℕ) (es : List Entry) → has j (map key_of (join n k es)) ≡ (eqb k j || has j (map key_of es))
unfolding join has
has_join j n k [] = refl
has_join j n k (e ∷ es) = by_test (eqb e.key k) (λ h. rw h (twice (eqb-true e.key k h))) (λ h. rw h)
  where
    again : (a b : Bool) → (a || b) ≡ (a || (a || b))
    again true b = refl
    again false b = refl

    twice : e.key ≡ k → (eqb k j || has j (map key_of es)) ≡ (eqb k j || (eqb e.key j || has j (map key_of es)))
    twice q = rw q (again (eqb k j) (has j (map key_of es)))

pub entries_have : (j n : ℕ) (ks : List ℕ) → has j (map key_of (entries_from n ks)) ≡ has j ks
unfolding entries_from has
entries_have j n [] = refl
entries_have j n (k ∷ ks) = has_join j n k (entries_from (suc n) ks) ∙ ap (λ (b : Bool). eqb k j || b) (entries_have j (suc n) ks)
