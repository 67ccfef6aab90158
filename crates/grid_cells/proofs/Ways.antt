-- Ways through tests: what the tests of divisions say, a test that fails before others, and what an answer and an option tell.
-- Assumes nothing.
use Prim.Native.Nat.{ℕ, ◌≤◌}
use native.Mathlib.Omega.{arith}
use mathlib.Core.Path.{◌≡◌, refl}
use mathlib.Core.Bool.{Bool, true, false, cond}
use mathlib.Core.Option as math
use Rattle.std.specs.Prelude.{Option, Some, None, Ok, Err}
use Rattle.std.specs.Option.{ok_or}
use mathlib.Core.List.{List, [], ◌∷◌}
use lib.Dec.{ltb, eqb}
use borrow.Author.Tests.{eqb-false, ltb-false, le-leb}
use Rattle.basics.proofs.Bools.{both, or_left, or_right}
use Rattle.basics.specs.Lists.{all, any}
use Rattle.basics.specs.Refusals.{refused, success, answer}
use Rattle.grid.specs.Divisions.{division}

-- from 1 to 1,024: neither none nor many
pub divided : (ns : List ℕ) → any (λ (d : ℕ). eqb d 0) ns ≡ false → any (λ (d : ℕ). ltb 1024 d) ns ≡ false → all division ns ≡ true
unfolding any all
divided [] e f = refl
divided (n ∷ ns) e f =
    let none : n ≡ 0 → ⊥ = eqb-false n 0 (or_left (eqb n 0) (any (λ (d : ℕ). eqb d 0) ns) e) in
    let few : n ≤ 1024 = ltb-false 1024 n (or_left (ltb 1024 n) (any (λ (d : ℕ). ltb 1024 d) ns) f) in
    both (both (le-leb 1 n (positive n none)) (le-leb n 1024 few))
    (divided ns (or_right (eqb n 0) (any (λ (d : ℕ). eqb d 0) ns) e) (or_right (ltb 1024 n) (any (λ (d : ℕ). ltb 1024 d) ns) f))
  where
    positive : (n : ℕ) → (n ≡ 0 → ⊥) → 1 ≤ n
    positive n h = omega arith

-- a test that fails by itself fails before others
pub first_fails : (b : Bool) {n : ℕ} (k : ℕ) (rest : math.Option ℕ) → math.some n ≡ cond b (math.some k) math.none → math.some n ≡ cond b (math.some k) rest
first_fails true k rest e = e
first_fails false {n} k rest e = absurd (math.some-ne-none n e)

-- ---- what an answer tells

pub answered_by : {A : Type 0} (o : math.Option ℕ) (x a : A) → success x ≡ answer o a → (o ≡ math.none) × (x ≡ a)
unfolding answer
answered_by math.none x a e = (refl, cc)
answered_by (math.some n) x a e = absurd (never e)
  where
    never : success x ≡ refused n → ⊥
    never f = cc

pub refused_by : {A : Type 0} (o : math.Option ℕ) (r : ℕ) (a : A) → refused r ≡ answer o a → o ≡ math.some r
unfolding answer
refused_by math.none r a e = absurd (never e)
  where
    never : refused r ≡ success a → ⊥
    never f = cc
refused_by (math.some n) r a e = cc

-- ---- what an option tells that was made a result

pub none_by : {A E : Type 0} (o : Option A) (e d : E) → Err d ≡ ok_or o e → (o ≡ None) × (d ≡ e)
none_by None e d h = (refl, cc)
none_by (Some a) e d h = absurd (never h)
  where
    never : Err d ≡ Ok a → ⊥
    never f = cc

pub some_by : {A E : Type 0} (o : Option A) (e : E) (a : A) → Ok a ≡ ok_or o e → o ≡ Some a
some_by None e a h = absurd (never h)
  where
    never : Ok a ≡ Err e → ⊥
    never f = cc
some_by (Some b) e a h = cc
