-- What the test of divisions says of a record of them, and that products of divisions are small. Assumes nothing.
use Prim.Native.Nat.{ℕ, ◌*◌, ◌≤◌}
use native.Mathlib.Nat.{mul-le-mul}
use mathlib.Core.Path.{◌≡◌}
use mathlib.Core.Bool.{true}
use mathlib.Core.List.{List, [], ◌∷◌}
use lib.Dec.{leb}
use borrow.Author.Tests.{leb-true}
use Rattle.basics.proofs.Bools.{and_left, and_right}
use Rattle.basics.specs.Lists.{all}
use Rattle.grid.specs.declared.Divisions.{Divisions}
use Rattle.grid.specs.Divisions.{counts, division}

-- from 1 to 1,024
pub record InRange (n : ℕ) : Type 0 where
  pub least : 1 ≤ n
  pub most : n ≤ 1024

pub in_range : (n : ℕ) → division n ≡ true → InRange n
in_range n h = record { least = leb-true 1 n (and_left (leb 1 n) (leb n 1024) h); most = leb-true n 1024 (and_right (leb 1 n) (leb n 1024) h) }

pub first_of : (n : ℕ) (ns : List ℕ) → all division (n ∷ ns) ≡ true → InRange n
unfolding all
first_of n ns h = in_range n (and_left (division n) (all division ns) h)

pub rest_of : (n : ℕ) (ns : List ℕ) → all division (n ∷ ns) ≡ true → all division ns ≡ true
unfolding all
rest_of n ns h = and_right (division n) (all division ns) h

-- divisions along three axes
pub record Bounds (d : Divisions) : Type 0 where
  pub x : InRange d.x
  pub y : InRange d.y
  pub z : InRange d.z

pub bounds : (d : Divisions) → all division (counts 3 d) ≡ true → Bounds d
bounds d h =
    let k = rest_of d.x (d.y ∷ d.z ∷ []) h in
    record { x = first_of d.x (d.y ∷ d.z ∷ []) h; y = first_of d.y (d.z ∷ []) k; z = first_of d.z [] (rest_of d.y (d.z ∷ []) k) }

-- products of two and of three
pub two-small : {a b : ℕ} → a ≤ 1024 → b ≤ 1024 → a * b ≤ 1048576
two-small h k = mul-le-mul h k

pub three_small : {a b c : ℕ} → a ≤ 1024 → b ≤ 1024 → c ≤ 1024 → a * b * c ≤ 1073741824
three_small h k l = mul-le-mul (mul-le-mul h k) l
