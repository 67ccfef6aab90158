-- What turns a call away. A call's tests stand in the order of document 01's line 'Order', and the first that fails gives the number.
-- Assumes nothing.
use Rattle.std.specs.Prelude.{ℕ, Bool, true, false, cond, List, [], ◌∷◌}
use Rattle.std.proofs.Math.Option.{Option, none, some}

-- a test with document 01's number: it fails where the call is to be turned away
pub record Test : Type 0 where
  pub number : ℕ
  pub fails : Bool

abbrev pub refuse : ℕ → Bool → Test
refuse n b = record { number = n; fails = b }

-- the number of the first test that fails
unfoldable pub fault : List Test → Option ℕ
fault [] = none
fault (t ∷ ts) = let rest = fault ts in cond t.fails (some t.number) rest

unfoldable pub is_none : Option ℕ → Bool
is_none none = true
is_none (some n) = false

-- 0 where no test fails, as the C interface has it
unfoldable pub code : Option ℕ → ℕ
code none = 0
code (some n) = n

-- What a call answers: document 01's number, or its value. Each enum of the code has a definition, by cases, into this type.
pub data Answer (A : Type 0) : Type 0 where
  refused : ℕ → Answer A
  success : A → Answer A

-- the value, where no test failed
unfoldable pub answer : {A : Type 0} → Option ℕ → A → Answer A
answer none a = success a
answer (some n) a = refused n

-- a value worked on further, where there is one
abbrev pub through : {A B : Type 0} → (A → B) → Answer A → Answer B
through f (refused n) = refused n
through f (success a) = success (f a)
