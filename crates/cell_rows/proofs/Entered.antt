-- Numbers entered one after the other into an ascending list, each once.
-- Assumes nothing.
use Prim.Native.Nat.{ℕ, zero, suc, ◌+◌, ◌≤◌, ◌<◌, zero-le}
use native.Mathlib.Nat.{not-suc-le-zero}
use native.Mathlib.Omega.{arith}
use mathlib.Core.Path.{◌≡◌, refl, sym, ap, ◌∙◌, subst}
use mathlib.Core.Logic.{◌⊎◌, inl, inr}
use mathlib.Core.List.{List, [], ◌∷◌, ◌++◌, append-nil}
use lib.Dec.{eqb}
use borrow.Author.Tests.{eqb-true, eqb-false, lt-ltb, le-ltb, eq-eqb, ne_eqb, le-leb, lt-leb}
use Rattle.basics.proofs.Bools.{by_test}
use Rattle.basics.specs.Lists.{enter}
use Rattle.basics.proofs.Numbers.{trichotomy}
use Rattle.sorting.specs.Sorted.{sort_in, sorted_of}
use Rattle.sorting.proofs.Counts.{count, hit, count-cons, count-append, hit_same, Stands, counted}
use Rattle.sorting.proofs.Orders.{ListSorted, sorted_tail, sorted_of_lem, count-sorted, sorted-is}

unfoldable pub entered : List ℕ → List ℕ → List ℕ
entered [] l = l
entered (x ∷ xs) l = entered xs (enter x l)

-- ---- counts of small lists

none_or : (n : ℕ) → (n ≡ 0) ⊎ (0 < n)
none_or zero = inl refl
none_or (suc n) = inr (omega arith)

-- either not there, or there
absent_or : (v : ℕ) (l : List ℕ) → (count v l ≡ 0) ⊎ (0 < count v l)
absent_or v l = none_or (count v l)

pub hit_other : (v x : ℕ) → (x ≡ v → ⊥) → hit v x ≡ 0
unfolding hit
hit_other v x h = rw (ne_eqb x v h)

-- ---- one number

-- a number that is not there is placed
enter-place : (x : ℕ) (l : List ℕ) → count x l ≡ 0 → enter x l ≡ sort_in x l
unfolding enter sort_in
enter-place x [] h = refl
enter-place x (j ∷ js) h = go (enter-place x js) (trichotomy x j)
  where
    go : (count x js ≡ 0 → enter x js ≡ sort_in x js) → (x < j) ⊎ ((x ≡ j) ⊎ (j < x)) → enter x (j ∷ js) ≡ sort_in x (j ∷ js)
    go ih (inl b) = rw (lt-ltb x j b, le-leb x j (omega arith))
    go ih (inr (inl b)) = absurd (omega (arith, count-cons x j js, ap (hit x) b, hit_same x))
    go ih (inr (inr b)) =
        rw (le-ltb x j (omega arith), ne_eqb j x (λ e. absurd (omega arith)), lt-leb x j b)
        (ap (λ (l : List ℕ). j ∷ l) (ih (omega (arith, count-cons x j js))))

-- so an ascending list stays so
pub enter_new : (x : ℕ) (l : List ℕ) → ListSorted l → count x l ≡ 0 → enter x l ≡ sorted_of (x ∷ l)
unfolding sorted_of
enter_new x l up h = enter-place x l h ∙ ap (sort_in x) (sorted-is l l up (λ v. refl))

-- a number that is there changes nothing
pub enter_there : (x : ℕ) (l : List ℕ) → ListSorted l → 0 < count x l → enter x l ≡ l
unfolding enter count
enter_there x [] up h = absurd (not-suc-le-zero h)
enter_there x (j ∷ js) up h = go (enter_there x js (sorted_tail j js up)) (trichotomy x j)
  where
    least : j ≤ x
    least = let s : Stands x (j ∷ js) = counted x (j ∷ js) h in subst (λ (w : ℕ). j ≤ w) s.is (up 0 s.at zero-le s.inside)

    go : (0 < count x js → enter x js ≡ js) → (x < j) ⊎ ((x ≡ j) ⊎ (j < x)) → enter x (j ∷ js) ≡ j ∷ js
    go ih (inl b) = absurd (omega (arith, least))
    go ih (inr (inl b)) = rw (le-ltb x j (omega arith), eq-eqb j x (sym b))
    go ih (inr (inr b)) =
        rw (le-ltb x j (omega arith), ne_eqb j x (λ e. absurd (omega arith)))
        (ap (λ (l : List ℕ). j ∷ l) (ih (omega (arith, count-cons x j js, hit_other x j (λ e. absurd (omega arith))))))

pub ascending-enter : (x : ℕ) (l : List ℕ) → ListSorted l → ListSorted (enter x l)
ascending-enter x l up = go (absent_or x l)
  where
    go : (count x l ≡ 0) ⊎ (0 < count x l) → ListSorted (enter x l)
    go (inl h) = rw (enter_new x l up h) (sorted_of_lem (x ∷ l))
    go (inr h) = rw (enter_there x l up h) up

enter-has : (v x : ℕ) (l : List ℕ) → ListSorted l → 0 < hit v x + count v l → 0 < count v (enter x l)
enter-has v x l up h = go (absent_or x l)
  where
    go : (count x l ≡ 0) ⊎ (0 < count x l) → 0 < count v (enter x l)
    go (inl k) = rw (enter_new x l up k, count-sorted v (x ∷ l), count-cons v x l) h
    go (inr k) = rw (enter_there x l up k) (by_test (eqb x v) (λ e. subst (λ (w : ℕ). 0 < count w l) (eqb-true x v e) k) (λ e. omega (arith, h, hit_other v x (eqb-false x v e))))

-- ---- one after the other

pub ascending-entered : (xs l : List ℕ) → ListSorted l → ListSorted (entered xs l)
unfolding entered
ascending-entered [] l up = up
ascending-entered (x ∷ xs) l up = ascending-entered xs (enter x l) (ascending-enter x l up)

pub entered-append : (xs ys l : List ℕ) → entered (xs ++ ys) l ≡ entered ys (entered xs l)
unfolding entered
entered-append [] ys l = refl
entered-append (x ∷ xs) ys l = entered-append xs ys (enter x l)

pub entered-has : (v : ℕ) (xs l : List ℕ) → ListSorted l → 0 < count v xs + count v l → 0 < count v (entered xs l)
unfolding entered count
entered-has v [] l up h = omega arith
entered-has v (x ∷ xs) l up h = entered-has v xs (enter x l) (ascending-enter x l up) (go (none_or (hit v x + count v l)))
  where
    go : (hit v x + count v l ≡ 0) ⊎ (0 < hit v x + count v l) → 0 < count v xs + count v (enter x l)
    go (inl e) = omega (arith, h, count-cons v x xs)
    go (inr k) = omega (arith, enter-has v x l up k)

-- numbers none of which stands twice: together with the list they are entered into, sorted
pub entered-sorted : (xs l : List ℕ) → ListSorted l → ((v : ℕ) → count v xs + count v l ≤ 1) → entered xs l ≡ sorted_of (xs ++ l)
unfolding entered
entered-sorted [] l up h = sorted-is l l up (λ v. refl)
entered-sorted (x ∷ xs) l up h =
    let e : enter x l ≡ sorted_of (x ∷ l) = enter_new x l up (omega (arith, h x, count-cons x x xs, hit_same x)) in
    rw e
    (entered-sorted xs (sorted_of (x ∷ l)) (sorted_of_lem (x ∷ l)) (λ v. omega (arith, h v, count-sorted v (x ∷ l), count-cons v x l, count-cons v x xs))
    ∙ sorted-is (x ∷ xs ++ l) (sorted_of (xs ++ sorted_of (x ∷ l))) (sorted_of_lem (xs ++ sorted_of (x ∷ l)))
    (λ v. omega (arith, count-sorted v (xs ++ sorted_of (x ∷ l)), count-append v xs (sorted_of (x ∷ l)), count-sorted v (x ∷ l), count-cons v x l, count-cons v x (xs ++ l), count-append v xs l)))

none_above : ListSorted []
none_above i j h k = absurd (not-suc-le-zero k)

pub entered-none : (xs : List ℕ) → ((v : ℕ) → count v xs ≤ 1) → entered xs [] ≡ sorted_of xs
unfolding count
entered-none xs h = entered-sorted xs [] none_above (λ v. omega (arith, h v)) ∙ ap sorted_of (append-nil xs)
