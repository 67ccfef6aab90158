-- In 2D a third axis of one division, along which every ratio and index is 0, adds nothing: what a list of the divisions in use says, the three of their record say. Assumes nothing.
use Prim.Native.Nat.{ℕ, suc, ◌/◌, ◌≤◌, ◌<◌}
use native.Mathlib.Nat.{mod-one, mul-one, mul_assoc}
use native.Mathlib.Omega.{arith}
use mathlib.Core.Path.{◌≡◌, refl, ap, ◌∙◌}
use mathlib.Core.Bool.{true, cond}
use mathlib.Core.List.{List, [], ◌∷◌}
use lib.Dec.{eqb}
use lib.ListN.{length}
use lib.Ieee.{Float}
use Rattle.basics.specs.Lists.{all, zip_with}
use Rattle.floats.specs.Rounded.{◌⊖◌, ◌⊘◌, truncate}
use Rattle.geometry.specs.declared.Position.{Position}
use Rattle.geometry.specs.Position.{coords, dimension}
use Rattle.geometry.proofs.Axes.{for_axes, entries_of}
use Rattle.grid.specs.declared.Divisions.{Divisions}
use Rattle.std.specs.Prelude.{Some, None}
use Rattle.grid.specs.declared.Pivot.{Pivot}
use Rattle.grid.specs.Divisions.{counts, divisions_of, division}
use Rattle.grid.proofs.Keys.{pivots-below}
use Rattle.grid.proofs.Bounds.{Bounds, bounds, three_small}
use Rattle.grid.specs.Containers.{ratios, exceed, inner, combine, key_of, located, containers, indices, pivot_of, pivots}

module _ (n : ℕ) (h : dimension n ≡ true) (d e : Divisions) (u : e ≡ divisions_of (counts n d)) where
  -- the divisions are in range
  pub divided : all division (counts n d) ≡ true → all division (counts 3 e) ≡ true
  unfolding all
  divided k = rw u (for_axes (λ n. all division (counts n d) ≡ true → all division (counts 3 (divisions_of (counts n d))) ≡ true) (λ k. k) (λ k. k) n h k)

  pub sized : all division (counts n d) ≡ true → Bounds e
  sized k = bounds e (divided k)

  -- they are the same along the axes in use
  pub counts-are : counts n e ≡ counts n d
  counts-are = rw u (for_axes (λ n. counts n (divisions_of (counts n d)) ≡ counts n d) refl refl n h)

  -- there are as many containers
  pub containers-are : containers (counts 3 e) ≡ containers (counts n d)
  unfolding containers
  containers-are = rw u (for_axes (λ n. containers (counts 3 (divisions_of (counts n d))) ≡ containers (counts n d)) refl refl n h)

  -- no more than 2 ^ 30
  pub few-containers : all division (counts n d) ≡ true → containers (counts n d) ≤ 1073741824
  unfolding containers
  few-containers k = let b = sized k in rw (← containers-are, mul-one e.z, ← mul_assoc e.x e.y e.z) (three_small b.x.most b.y.most b.z.most)

  -- a key has the same indices
  pub pivots-are : (key : ℕ) → pivot_of (pivots (counts 3 e) key) ≡ pivot_of (pivots (counts n d) key)
  unfolding pivots
  pivots-are key = rw u (for_axes (λ n. pivot_of (pivots (counts 3 (divisions_of (counts n d))) key) ≡ pivot_of (pivots (counts n d) key)) (rw mod-one) refl n h)

  -- a position falls into the same container, its ratio along the third axis being 0 in 2D
  pub located-is : (side : Float) (xmin x : Position)
      → let t : Float → Float → ℕ = λ (a b : Float). truncate ((a ⊖ b) ⊘ side) in
      let rs = t x.x xmin.x ∷ t x.y xmin.y ∷ cond (eqb n 3) (t x.z xmin.z) 0 ∷ [] in
      located (counts n d) side (coords n xmin) (coords n x) ≡ cond (exceed (counts 3 e) rs) None (Some (record { 0 = combine (counts 3 e) (zip_with inner (counts 3 e) rs) }))
  unfolding located key_of ratios exceed combine zip_with inner
  located-is side xmin x =
      rw u
      (for_axes
      (λ n. let t : Float → Float → ℕ = λ (a b : Float). truncate ((a ⊖ b) ⊘ side) in
      let ns = counts 3 (divisions_of (counts n d)) in
      let rs = t x.x xmin.x ∷ t x.y xmin.y ∷ cond (eqb n 3) (t x.z xmin.z) 0 ∷ [] in
      located (counts n d) side (coords n xmin) (coords n x) ≡ cond (exceed ns rs) None (Some (record { 0 = combine ns (zip_with inner ns rs) })))
      refl refl n h)

-- ---- the indices of a key
pivots-length : (ns : List ℕ) (key : ℕ) → length (pivots ns key) ≡ length ns
unfolding pivots
pivots-length [] key = refl
pivots-length (n ∷ ns) key = ap suc (pivots-length ns (key / n))

-- each is small
pub record Small (p : Pivot) : Type 0 where
  pub i : p.i ≤ 1024
  pub j : p.j ≤ 1024
  pub k : p.k ≤ 1024

module _ (n : ℕ) (h : dimension n ≡ true) (d : Divisions) (key : ℕ) where
  -- the record of them has them along the axes in use
  pub indices-are : (p : Pivot) → p ≡ pivot_of (pivots (counts n d) key) → indices n p ≡ pivots (counts n d) key
  indices-are p e = ap (indices n) e ∙ entries_of 0 n (pivots (counts n d) key) h (pivots-length (counts n d) key ∙ for_axes (λ n. length (counts n d) ≡ n) refl refl n h)

  pub small : all division (counts n d) ≡ true → key < containers (counts n d) → (p : Pivot) → p ≡ pivot_of (pivots (counts n d) key) → Small p
  unfolding pivots
  small k l p e =
      let u = divisions_of (counts n d) in
      let b = bounds u (divided n h d u refl k) in
      let q = pivots-below (counts 3 u) key (rw (containers-are n h d u refl) l) in
      rw (e, ← pivots-are n h d u refl key) (record { i = below q.0 b.x.most; j = below q.1.0 b.y.most; k = below q.1.1.0 b.z.most })
    where
      below : {i n : ℕ} → i < n → n ≤ 1024 → i ≤ 1024
      below h k = omega arith
