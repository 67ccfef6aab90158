-- Laws of the order of slots: of two, of a list in strict order by its indices, and of where a slot stands in it.
-- Assumes nothing.
use Prim.Native.Nat.{ℕ, zero, suc, ◌+◌, ◌≤◌, ◌<◌, zero-le, suc-le-suc}
use native.Mathlib.Nat.{le_of_suc-le-suc, not-suc-le-zero, eq-or-lt_of_le}
use native.Mathlib.Omega.{arith}
use mathlib.Core.Path.{◌≡◌, refl, sym, ap, subst}
use mathlib.Core.Logic.{◌⊎◌, inl, inr, ⊎_elim}
use mathlib.Core.Bool.{true, false, false≢true, or-true}
use mathlib.Core.List.{List, [], ◌∷◌}
use lib.ListN.{length}
use lib.Dec.{ltb, eqb}
use borrow.Author.Tests.{ltb-true, eqb-true, lt-ltb, eq-eqb}
use Rattle.basics.proofs.Bools.{by_test, clash, and_both, or_either}
use Rattle.basics.specs.Lists.{tab}
use Rattle.basics.proofs.Numbers.{trichotomy}
use Rattle.table.specs.Rows.{Slot, before, same, chain, sorted, lower, held}

-- ---- the order

unfoldable pub Lex : Slot → Slot → Type 0
Lex p q = (p.key < q.key) ⊎ ((p.key ≡ q.key) × (p.id < q.id))

pub before_lex : (p q : Slot) → before p q ≡ true → Lex p q
unfolding before Lex
before_lex p q e = ⊎_elim (λ h. inl (ltb-true _ _ h)) (λ h. inr (second (and_both (eqb p.key q.key) (ltb p.id q.id) h))) (or_either _ _ e)
  where
    second : (eqb p.key q.key ≡ true) × (ltb p.id q.id ≡ true) → (p.key ≡ q.key) × (p.id < q.id)
    second h = (eqb-true _ _ h.0, ltb-true _ _ h.1)

pub lex_before : (p q : Slot) → Lex p q → before p q ≡ true
unfolding before Lex
lex_before p q (inl h) = simp (lt-ltb _ _ h)
lex_before p q (inr h) = simp (eq-eqb _ _ h.0, lt-ltb _ _ h.1, or-true)

lex_trans : (p q r : Slot) → Lex p q → Lex q r → Lex p r
unfolding Lex
lex_trans p q r (inl a) (inl b) = inl (omega arith)
lex_trans p q r (inl a) (inr b) = inl (omega arith)
lex_trans p q r (inr a) (inl b) = inl (omega arith)
lex_trans p q r (inr a) (inr b) = inr (omega arith)

pub before_trans : (p q r : Slot) → before p q ≡ true → before q r ≡ true → before p r ≡ true
before_trans p q r d e = lex_before p r (lex_trans p q r (before_lex p q d) (before_lex q r e))

lex_irrefl : (p : Slot) → Lex p p → ⊥
unfolding Lex
lex_irrefl p (inl a) = omega arith
lex_irrefl p (inr a) = omega arith

pub before_irrefl : (p : Slot) → before p p ≡ false
before_irrefl p = by_test (before p p) (λ e. absurd (lex_irrefl p (before_lex p p e))) (λ e. e)

-- of two slots one is before the other, or they are the same
pub before-total : (p q : Slot) → before p q ≡ false → same p q ≡ false → before q p ≡ true
unfolding Lex same
before-total p q e f = lex_before q p (go (trichotomy q.key p.key) (trichotomy q.id p.id))
  where
    no : Lex p q → Lex q p
    no l = clash (lex_before p q l) e

    ids : p.key ≡ q.key → (q.id < p.id) ⊎ ((q.id ≡ p.id) ⊎ (p.id < q.id)) → Lex q p
    ids k (inl h) = inr (sym k, h)
    ids k (inr (inl h)) = clash (simp (eq-eqb _ _ k, eq-eqb _ _ (sym h))) f
    ids k (inr (inr h)) = no (inr (k, h))

    go : (q.key < p.key) ⊎ ((q.key ≡ p.key) ⊎ (p.key < q.key)) → (q.id < p.id) ⊎ ((q.id ≡ p.id) ⊎ (p.id < q.id)) → Lex q p
    go (inl h) t = inl h
    go (inr (inl h)) t = ids (sym h) t
    go (inr (inr h)) t = no (inl h)

pub same-eq : (p q : Slot) → same p q ≡ true → p ≡ q
unfolding same
same-eq p q e = let h = and_both (eqb p.key q.key) (eqb p.id q.id) e in λ i. record { key = eqb-true p.key q.key h.0 i; id = eqb-true p.id q.id h.1 i }

-- ---- strict order, by indices

pub chain-sorted : (p : Slot) (ps : List Slot) → chain p ps ≡ true → sorted ps ≡ true
unfolding chain sorted
chain-sorted p [] e = refl
chain-sorted p (q ∷ qs) e = (and_both (before p q) (chain q qs) e).1

chain_at : (p : Slot) (n : ℕ) (f : ℕ → Slot) → chain p (tab n f) ≡ true → (j : ℕ) → j < n → before p (f j) ≡ true
unfolding chain
chain_at p zero f e j h = absurd (not-suc-le-zero h)
chain_at p (suc n) f e zero h = (and_both _ _ e).0
chain_at p (suc n) f e (suc j) h =
    let b = and_both (before p (f 0)) (chain (f 0) (tab n (λ i. f (suc i)))) e in
    before_trans p (f 0) (f (suc j)) b.0 (chain_at (f 0) n (λ i. f (suc i)) b.1 j (le_of_suc-le-suc h))

pub sorted_at : (n : ℕ) (f : ℕ → Slot) → sorted (tab n f) ≡ true → (i j : ℕ) → i < j → j < n → before (f i) (f j) ≡ true
unfolding sorted
sorted_at zero f e i j h k = absurd (not-suc-le-zero k)
sorted_at (suc n) f e zero zero h k = absurd (not-suc-le-zero h)
sorted_at (suc n) f e zero (suc j) h k = chain_at (f 0) n (λ i. f (suc i)) e j (le_of_suc-le-suc k)
sorted_at (suc n) f e (suc i) zero h k = absurd (not-suc-le-zero h)
sorted_at (suc n) f e (suc i) (suc j) h k =
    sorted_at n (λ m. f (suc m)) (chain-sorted (f 0) (tab n (λ m. f (suc m))) e) i j (le_of_suc-le-suc h) (le_of_suc-le-suc k)

-- what stands at m settles all on one side of it
module _ (p : Slot) (n : ℕ) (f : ℕ → Slot) (e : sorted (tab n f) ≡ true) (m : ℕ) (h : m < n) where
  pub all-before : before (f m) p ≡ true → (k : ℕ) → k < m + 1 → before (f k) p ≡ true
  all-before b k l =
      ⊎_elim (λ q. subst (λ (i : ℕ). before (f i) p ≡ true) (sym q) b) (λ lt. before_trans (f k) (f m) p (sorted_at n f e k m lt h) b)
      (eq-or-lt_of_le (omega arith))

  pub none_before : before (f m) p ≡ false → (k : ℕ) → m ≤ k → k < n → before (f k) p ≡ false
  none_before b k l g =
      ⊎_elim (λ q. subst (λ (i : ℕ). before (f i) p ≡ false) q b)
      (λ lt. by_test (before (f k) p) (λ t. clash (before_trans (f m) (f k) p (sorted_at n f e m k lt g) t) b) (λ t. t))
      (eq-or-lt_of_le l)

-- the slot of p, by what stands before it and after it
pub lower-tab : (p : Slot) (n : ℕ) (f : ℕ → Slot) (r : ℕ) → r ≤ n
    → ((k : ℕ) → k < r → before (f k) p ≡ true) → (r < n → before (f r) p ≡ false)
    → r ≡ lower p (tab n f)
unfolding lower
lower-tab p zero f zero h below above = refl
lower-tab p zero f (suc r) h below above = absurd (not-suc-le-zero h)
lower-tab p (suc n) f zero h below above = simp (above (suc-le-suc zero-le))
lower-tab p (suc n) f (suc r) h below above =
    rw (below 0 (suc-le-suc zero-le))
    (ap suc (lower-tab p n (λ i. f (suc i)) r (le_of_suc-le-suc h) (λ k l. below (suc k) (suc-le-suc l)) (λ l. above (suc-le-suc l))))

-- where the slots that stand before p and those that do not have met
pub lower-met : (p : Slot) (n : ℕ) (f : ℕ → Slot) (lo hi : ℕ) → hi ≤ n → hi ≤ lo → lo ≤ hi
    → ((k : ℕ) → k < lo → before (f k) p ≡ true) → ((k : ℕ) → hi ≤ k → k < n → before (f k) p ≡ false)
    → lo ≡ lower p (tab n f)
lower-met p n f lo hi h k l below above = lower-tab p n f lo (omega arith) below (λ m. above lo k m)

pub held-tab : (p : Slot) (n : ℕ) (f : ℕ → Slot) → lower p (tab n f) < n → held p (tab n f) ≡ same (f (lower p (tab n f))) p
unfolding held lower
held-tab p zero f h = absurd (not-suc-le-zero h)
held-tab p (suc n) f h = by_test (before (f 0) p) (λ e. rw e (held-tab p n (λ i. f (suc i)) (le_of_suc-le-suc (rw e at h)))) (λ e. rw e)

pub held_none : (p : Slot) (n : ℕ) (f : ℕ → Slot) → n ≤ lower p (tab n f) → held p (tab n f) ≡ false
unfolding held lower
held_none p zero f h = refl
held_none p (suc n) f h =
    by_test (before (f 0) p) (λ e. rw e (held_none p n (λ i. f (suc i)) (le_of_suc-le-suc (rw e at h)))) (λ e. absurd (not-suc-le-zero (rw e at h)))

-- the same where the index is known by an equation
pub held_at : (p : Slot) (n : ℕ) (f : ℕ → Slot) (at : ℕ) → at ≡ lower p (tab n f) → at < n → held p (tab n f) ≡ same (f at) p
held_at p n f at e h = rw e (held-tab p n f (rw e at h))

pub held-past : (p : Slot) (n : ℕ) (f : ℕ → Slot) (at : ℕ) → at ≡ lower p (tab n f) → n ≤ at → held p (tab n f) ≡ false
held-past p n f at e h = held_none p n f (rw e at h)

pub lower-le : (p : Slot) (ps : List Slot) → lower p ps ≤ length ps
unfolding lower
lower-le p [] = zero-le
lower-le p (q ∷ qs) = by_test (before q p) (λ e. rw e (suc-le-suc (lower-le p qs))) (λ e. rw e zero-le)

pub held-lt : (p : Slot) (ps : List Slot) → held p ps ≡ true → lower p ps < length ps
unfolding lower held
held-lt p [] h = absurd (false≢true h)
held-lt p (q ∷ qs) h = by_test (before q p) (λ e. rw e (suc-le-suc (held-lt p qs (rw e at h)))) (λ e. rw e (suc-le-suc zero-le))
