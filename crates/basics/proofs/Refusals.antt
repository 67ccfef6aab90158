-- Laws of refusals: what is known where no test failed, of two lists of tests joined, and of the number as the C interface has it.
-- Assumes nothing.
use Prim.Native.Nat.{ℕ}
use mathlib.Core.Path.{◌≡◌, refl, sym, ap}
use mathlib.Core.Logic.{◌⊎◌, inl, inr}
use mathlib.Core.Bool.{true, false}
use mathlib.Core.Option.{Option, none, some, some-ne-none}
use mathlib.Core.List.{List, [], ◌∷◌, ◌++◌}
use Rattle.basics.proofs.Bools.{which}
use Rattle.basics.specs.Refusals.{Test, fault, code, answer, through}

pub through-answer : {A B : Type 0} (f : A → B) (o : Option ℕ) (a : A) → through f (answer o a) ≡ answer o (f a)
unfolding answer
through-answer f none a = refl
through-answer f (some n) a = refl

abbrev pub Passed : List Test → Type 0
Passed [] = Unit {0}
Passed (t ∷ ts) = (t.fails ≡ false) × Passed ts

pub unrefused : (ts : List Test) → fault ts ≡ none → Passed ts
unfolding fault
unrefused [] e = tt
unrefused (t ∷ ts) e = go (unrefused ts) (which t.fails)
  where
    go : (fault ts ≡ none → Passed ts) → (t.fails ≡ true) ⊎ (t.fails ≡ false) → Passed (t ∷ ts)
    go ih (inl f) = absurd (some-ne-none t.number (rw f at e))
    go ih (inr f) = (f, ih (rw f at e))

pub passed : (ts : List Test) → Passed ts → fault ts ≡ none
unfolding fault
passed [] p = refl
passed (t ∷ ts) p = rw p.0 (passed ts p.1)

pub fault_left : (us ts : List Test) → fault (us ++ ts) ≡ none → fault us ≡ none
unfolding fault
fault_left [] ts e = refl
fault_left (u ∷ us) ts e = go (fault_left us ts) (which u.fails)
  where
    go : (fault (us ++ ts) ≡ none → fault us ≡ none) → (u.fails ≡ true) ⊎ (u.fails ≡ false) → fault (u ∷ us) ≡ none
    go ih (inl f) = absurd (some-ne-none u.number (rw f at e))
    go ih (inr f) = rw f (ih (rw f at e))

pub fault-right : (us ts : List Test) → fault us ≡ none → fault (us ++ ts) ≡ fault ts
unfolding fault
fault-right [] ts e = refl
fault-right (u ∷ us) ts e = go (fault-right us ts) (which u.fails)
  where
    go : (fault us ≡ none → fault (us ++ ts) ≡ fault ts) → (u.fails ≡ true) ⊎ (u.fails ≡ false) → fault (u ∷ us ++ ts) ≡ fault ts
    go ih (inl f) = absurd (some-ne-none u.number (rw f at e))
    go ih (inr f) = rw f (ih (rw f at e))

pub fault_stop : (us ts : List Test) (n : ℕ) → fault us ≡ some n → fault (us ++ ts) ≡ some n
unfolding fault
fault_stop [] ts n e = absurd (some-ne-none n (sym e))
fault_stop (u ∷ us) ts n e = go (fault_stop us ts n) (which u.fails)
  where
    go : (fault us ≡ some n → fault (us ++ ts) ≡ some n) → (u.fails ≡ true) ⊎ (u.fails ≡ false) → fault (u ∷ us ++ ts) ≡ some n
    go ih (inl f) = rw f (rw f at e)
    go ih (inr f) = rw f (ih (rw f at e))

-- ---- the number, as the C interface has it

pub code-some : (o : Option ℕ) (n : ℕ) → n ≡ code o → (n ≡ 0 → ⊥) → o ≡ some n
unfolding code
code-some none n e h = absurd (h e)
code-some (some m) n e h = ap some (sym e)

-- no test has the number 0
abbrev pub Numbered : List Test → Type 0
Numbered [] = Unit {0}
Numbered (t ∷ ts) = (t.number ≡ 0 → ⊥) × Numbered ts

pub code-none : (ts : List Test) → Numbered ts → 0 ≡ code (fault ts) → fault ts ≡ none
unfolding fault code
code-none [] h e = refl
code-none (t ∷ ts) h e = go (code-none ts h.1) (which t.fails)
  where
    go : (0 ≡ code (fault ts) → fault ts ≡ none) → (t.fails ≡ true) ⊎ (t.fails ≡ false) → fault (t ∷ ts) ≡ none
    go ih (inl f) = absurd (h.0 (sym (rw f at e)))
    go ih (inr f) = rw f (ih (rw f at e))
