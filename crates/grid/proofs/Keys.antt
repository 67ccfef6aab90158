-- Laws of keys, over any number of axes: a key and its indices give each other back, and the key of a position is below the number of containers.
-- Assumes nothing.
use Prim.Native.Nat.{ℕ, zero, suc, ◌+◌, ◌-◌, ◌*◌, ◌/◌, ◌%◌, ◌≤◌, ◌<◌}
use native.Mathlib.Nat.{lt_of_lt_of_le, zero-mul, mul_comm, mul-le-mul_left, mod-lt, mod-eq_of_lt, div-eq_of_lt, mod-add-div, add-mul-mod_self_left, add-mul-div_left, div-lt_iff_lt-mul, mul-suc, zero-add}
use native.Mathlib.Omega.{arith}
use mathlib.Core.Path.{◌≡◌, refl, ap, ◌∙◌, subst}
use mathlib.Core.Logic.{◌⊎◌, inl, inr}
use mathlib.Core.Bool.{true, false, cond}
use mathlib.Core.List.{List, [], ◌∷◌}
use lib.Dec.{ltb, leb, eqb}
use lib.ListN.{length}
use lib.Ieee.{Float}
use borrow.Author.Tests.{ltb-false, leb-true, eqb-true, eqb-false}
use Rattle.basics.proofs.Bools.{which, and_left, and_both, or_left, or_right}
use Rattle.basics.specs.Lists.{all, zip_with}
use Rattle.grid.specs.Divisions.{division}
use Rattle.grid.specs.Containers.{InGrid, ratios, exceed, inner, combine, key_of, containers, pivots}

-- ---- indices to a key and back
pub digit-below : (n i c k : ℕ) → i < n → c < k → i + n * c < n * k
digit-below n i c k h g = lt_of_lt_of_le (omega (arith, mul-suc n c)) (mul-le-mul_left n g)

pub combine-below : (ns is : List ℕ) → InGrid ns is → combine ns is < containers ns
unfolding combine containers
combine-below [] [] b = omega arith
combine-below [] (i ∷ is) b = absurd b
combine-below (n ∷ ns) [] b = absurd b
combine-below (n ∷ ns) (i ∷ is) b = digit-below n i (combine ns is) (containers ns) b.0 (combine-below ns is b.1)

positive : (i n : ℕ) → i < n → 0 < n
positive i n h = omega arith

pub pivots-combine : (ns is : List ℕ) → InGrid ns is → pivots ns (combine ns is) ≡ is
unfolding combine pivots
pivots-combine [] [] b = refl
pivots-combine [] (i ∷ is) b = absurd b
pivots-combine (n ∷ ns) [] b = absurd b
pivots-combine (n ∷ ns) (i ∷ is) b =
    let c = combine ns is in
    let r : (i + n * c) % n ≡ i = add-mul-mod_self_left i n c ∙ mod-eq_of_lt b.0 in
    let q : (i + n * c) / n ≡ c = add-mul-div_left i c (positive i n b.0) ∙ ap (λ (x : ℕ). x + c) (div-eq_of_lt b.0) ∙ zero-add c in
    rw (r, q, pivots-combine ns is b.1)

-- ---- a key to indices and back
some-division : (n k key : ℕ) → key < n * k → 0 < n
some-division zero k key h = absurd (omega (arith, zero-mul k))
some-division (suc n) k key h = omega arith

quotient_below : (n k key : ℕ) → key < n * k → key / n < k
quotient_below n k key h = (div-lt_iff_lt-mul (some-division n k key h)).1 (subst (λ (x : ℕ). key < x) (mul_comm n k) h)

pub pivots-below : (ns : List ℕ) (key : ℕ) → key < containers ns → InGrid ns (pivots ns key)
unfolding pivots containers
pivots-below [] key h = tt
pivots-below (n ∷ ns) key h = (mod-lt key (some-division n (containers ns) key h), pivots-below ns (key / n) (quotient_below n (containers ns) key h))

pub combine-pivots : (ns : List ℕ) (key : ℕ) → key < containers ns → combine ns (pivots ns key) ≡ key
unfolding combine pivots containers
combine-pivots [] key h = omega arith
combine-pivots (n ∷ ns) key h = rw (combine-pivots ns (key / n) (quotient_below n (containers ns) key h)) (mod-add-div key n)

-- ---- ratios to indices
inner_below : (n r : ℕ) → 1 ≤ n → r ≤ n → inner n r < n
unfolding inner
inner_below n r P h = go (which (eqb r n))
  where
    go : (eqb r n ≡ true) ⊎ (eqb r n ≡ false) → cond (eqb r n) (r - 1) r < n
    go (inl e) = rw e (omega (arith, eqb-true r n e))
    go (inr e) = rw e (other n r h (eqb-false r n e))
      where
        other : (n r : ℕ) → r ≤ n → (r ≡ n → ⊥) → r < n
        other n r h e = omega arith

pub indices-below : (ns rs : List ℕ) → length rs ≡ length ns → all division ns ≡ true → exceed ns rs ≡ false → InGrid ns (zip_with inner ns rs)
unfolding zip_with all exceed
indices-below [] [] l d e = tt
indices-below [] (r ∷ rs) l d e = tt
indices-below (n ∷ ns) [] l d e = absurd (omega arith)
indices-below (n ∷ ns) (r ∷ rs) l d e =
    let a = and_both (division n) (all division ns) d in (
      inner_below n r (leb-true 1 n (and_left (leb 1 n) (leb n 1024) a.0)) (ltb-false n r (or_left (ltb n r) (exceed ns rs) e)),
      indices-below ns rs (omega arith) a.1 (or_right (ltb n r) (exceed ns rs) e),
    )

pub key_below : (ns : List ℕ) (side : Float) (xmin x : List Float) → length (ratios side xmin x) ≡ length ns → all division ns ≡ true → exceed ns (ratios side xmin x) ≡ false
    → key_of ns side xmin x < containers ns
unfolding key_of
key_below ns side xmin x l d e = combine-below ns (zip_with inner ns (ratios side xmin x)) (indices-below ns (ratios side xmin x) l d e)
