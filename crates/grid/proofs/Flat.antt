-- The Rust's formulas for a key and for its indices, which have a term or a quotient for each axis, are the recursive ones; what an index along an axis says
-- of its ratio; and a position is outside where it is along some axis. Assumes nothing.
use Prim.Native.Nat.{ℕ, zero, suc, ◌+◌, ◌*◌, ◌/◌, ◌%◌, ◌<◌}
use native.Mathlib.Nat.{mul-zero, add-zero, mul-one, mul_comm, mul_assoc, mul-add, mul-pos, mod-lt, mod-eq_of_lt, div-eq_of_lt, div-div-eq-div-mul, div-lt_iff_lt-mul, mod-add-div, add-mul-mod_self_left, add-mul-div_left, zero-add}
use native.Mathlib.Omega.{arith}
use mathlib.Core.Path.{◌≡◌, refl, sym, ap, ◌∙◌, subst}
use mathlib.Core.Bool.{Bool, true, false, ◌||◌}
use mathlib.Core.List.{List, [], ◌∷◌}
use lib.Dec.{ltb}
use lib.ListN.{take}
use lib.Ieee.{Float, lt}
use Rattle.basics.proofs.Bools.{by_test}
use Rattle.basics.specs.Lists.{any}
use Rattle.std.specs.Prelude.{Some, None}
use Rattle.grid.specs.Containers.{outside, inner, along, combine, containers}
use Rattle.grid.proofs.Keys.{digit-below}

-- ---- keys
pub key-is : (n0 n1 n2 i j k : ℕ) → i + j * n0 + k * n0 * n1 ≡ combine (n0 ∷ n1 ∷ n2 ∷ []) (i ∷ j ∷ k ∷ [])
unfolding combine
key-is n0 n1 n2 i j k = rw (mul-zero, add-zero)
    (omega (arith, mul_comm j n0, mul-add n0 j (n1 * k), mul_assoc n0 n1 k, mul_assoc k n0 n1, mul_comm k (n0 * n1)))

-- ---- indices
split : (x j y k i : ℕ) → i + x * (j + y * k) ≡ i + x * j + x * y * k
split x j y k i = omega (arith, mul-add x j (y * k), mul_assoc x y k)

pub second-index : (x y key : ℕ) → 0 < x → 0 < y → key % (x * y) / x ≡ key / x % y
second-index x y key X Y =
    let q = key / x in
    let i = key % x in
    let j = q % y in
    let k = q / y in
    let e : key ≡ i + x * j + x * y * k = sym (mod-add-div key x) ∙ ap (λ (z : ℕ). i + x * z) (sym (mod-add-div q y)) ∙ split x j y k i in
    let r : key % (x * y) ≡ i + x * j = ap (λ (z : ℕ). z % (x * y)) e ∙ add-mul-mod_self_left (i + x * j) (x * y) k ∙ mod-eq_of_lt (digit-below x i j y (mod-lt key X) (mod-lt q Y)) in
    ap (λ (z : ℕ). z / x) r ∙ add-mul-div_left i j X ∙ ap (λ (z : ℕ). z + j) (div-eq_of_lt (mod-lt key X)) ∙ zero-add j

pub third-index : (x y z key : ℕ) → 0 < x → 0 < y → key < containers (x ∷ y ∷ z ∷ []) → key / (x * y) ≡ key / x / y % z
unfolding containers
third-index x y z key X Y h =
    sym (div-div-eq-div-mul key x y)
    ∙ sym (mod-eq_of_lt (subst (λ (n : ℕ). n < z) (sym (div-div-eq-div-mul key x y)) ((div-lt_iff_lt-mul (mul-pos X Y)).1 (subst (λ (n : ℕ). key < n) (turned x y z) h))))
  where
    turned : (x y z : ℕ) → x * (y * (z * 1)) ≡ z * (x * y)
    turned x y z = rw mul-one (sym (mul_assoc x y z) ∙ mul_comm (x * y) z)

-- ---- the index along an axis
pub along_far : (n r : ℕ) → along n r ≡ None → ltb n r ≡ true
unfolding along
along_far n r e = by_test (ltb n r) (λ t. t) (λ t. never (rw t at e))
  where
    never : {A : Type 0} {i : ℕ} → Some i ≡ None → A
    never e = let z : ◌≡◌ {A = ℕ} 0 1 = cc in absurd (omega arith)

pub along-index : (n r i : ℕ) → along n r ≡ Some i → (ltb n r ≡ false) × (inner n r ≡ i)
unfolding along
along-index n r i e = by_test (ltb n r) (λ t. never (rw t at e)) (λ t. (t, same (rw t at e)))
  where
    never : {A : Type 0} {i : ℕ} → None ≡ Some i → A
    never e = let z : ◌≡◌ {A = ℕ} 0 1 = cc in absurd (omega arith)

    same : Some (inner n r) ≡ Some i → inner n r ≡ i
    same f = cc

-- ---- outside, by the test along each axis
-- whether each coordinate lies below the low end or above the high one
abbrev pub beyonds : List Float → List Float → List Float → List Bool
beyonds (a ∷ los) (b ∷ his) (x ∷ xs) = (lt x a || lt b x) ∷ beyonds los his xs
beyonds [] his xs = []
beyonds (a ∷ los) [] xs = []
beyonds (a ∷ los) (b ∷ his) [] = []

pub outside_tests : (n : ℕ) (los his xs : List Float) → outside (take n los) (take n his) (take n xs) ≡ any (λ (b : Bool). b) (take n (beyonds los his xs))
unfolding outside any
outside_tests zero los his xs = refl
outside_tests (suc n) (a ∷ los) (b ∷ his) (x ∷ xs) = rw (outside_tests n los his xs)
outside_tests (suc n) [] his xs = refl
outside_tests (suc n) (a ∷ los) [] xs = refl
outside_tests (suc n) (a ∷ los) (b ∷ his) [] = refl
