-- The walk over the corners of a box that gathers the keys of their containers.
-- Assumes nothing.
use Prim.Native.Nat.{ℕ, ◌+◌, ◌^◌, ◌≤◌, ◌<◌}
use native.Mathlib.Nat.{lt_of_lt_of_le}
use native.Mathlib.Numerals.{add-one}
use native.Mathlib.Omega.{arith}
use mathlib.Core.Path.{◌≡◌, refl, sym, ap, ◌∙◌}
use mathlib.Core.Bool.{Bool, true, false, ◌||◌}
use mathlib.Core.List.{List, [], ◌∷◌, ◌++◌, map}
use lib.Dec.{ltb, eqb}
use lib.ListN.{length, take, drop, set, length-append, drop_of_length-le}
use lib.Seq.{take-suc-set, length-take-le}
use lib.Ieee.{Float}
use borrow.Author.Tests.{lt-ltb}
use Rattle.basics.proofs.Bools.{by_test, both, and_left, and_right}
use Rattle.basics.specs.Lists.{all, any, has}
use Rattle.basics.proofs.Lists.{length-tab, drop-tab}
use Rattle.geometry.specs.declared.Position.{Position}
use Rattle.geometry.specs.Position.{coords, dimension, box_corner}
use Rattle.geometry.proofs.Axes.{for_axes, coords-length}
use Rattle.grid.specs.declared.ContainerKey.{ContainerKey}
use Rattle.std.specs.Prelude.{Some, None}
use Rattle.std.specs.List.{list_any}
use Rattle.grid.specs.Divisions.{counts, divisions_of}
use Rattle.grid.specs.Containers.{ratios}
use Rattle.grid.proofs.InUse.{few-containers}
use Rattle.grid.proofs.Keys.{key_below}
use Rattle.mesh.specs.declared.BoundingBox.{BoundingBox}
use Rattle.mesh.specs.Mesh.{Box, boxed}
use Rattle.cell_rows.specs.declared.Containers.{Containers}
use Rattle.cell_rows.specs.declared.keys.CellKeys.{CellKeys}
use Rattle.cell_rows.specs.Keys.{held}
use Rattle.cell_rows.specs.Filing.{cell_key, cell_exceeds, box_corners, box_exceeds}
use Rattle.cell_rows.specs.Steps.{Keyed, cell_container, join_once, once, box_keys, box_keys_or}

-- ---- the container of a position

pub is_key : (g : Containers) (x : List Float) {k : ContainerKey} → cell_container g x ≡ Some k → (cell_exceeds g x ≡ false) × (k.0 ≡ cell_key g x)
unfolding cell_container
is_key g x {k} e = by_test (cell_exceeds g x) (λ t. absurd (never (rw t at e))) (λ t. (t, same (rw t at e)))
  where
    never : None ≡ Some k → ⊥
    never f = cc

    same : Some (record { 0 = cell_key g x }) ≡ Some k → k.0 ≡ cell_key g x
    same f = let h : ◌≡◌ {A = ContainerKey} (record { 0 = cell_key g x }) k = cc in sym (ap (λ (c : ContainerKey). c.0) h)

pub is_far : (g : Containers) (x : List Float) → cell_container g x ≡ None → cell_exceeds g x ≡ true
unfolding cell_container
is_far g x e = by_test (cell_exceeds g x) (λ t. t) (λ t. absurd (never (rw t at e)))
  where
    never : {k : ContainerKey} → Some k ≡ None → ⊥
    never f = cc

-- ---- keys are small

abbrev pub small : ℕ → Bool
small k = ltb k 1073741824

pub key-small : (g : Containers) (x : Position) → Keyed g → cell_exceeds g (coords g.ndim x) ≡ false → cell_key g (coords g.ndim x) < 1073741824
unfolding cell_key cell_exceeds
key-small g x d e =
    let ns = counts g.ndim g.ndiv in
    (lt_of_lt_of_le
    (key_below ns g.side_length (coords g.ndim g.xmin) (coords g.ndim x)
    (for_axes (λ n. length (ratios g.side_length (coords n g.xmin) (coords n x)) ≡ length (counts n g.ndiv)) refl refl g.ndim d.axes)
    d.divisions e)
    (few-containers g.ndim d.axes g.ndiv (divisions_of ns) refl d.divisions))

all_append : (p : ℕ → Bool) (xs ys : List ℕ) → all p xs ≡ true → all p ys ≡ true → all p (xs ++ ys) ≡ true
unfolding all
all_append p [] ys f g = g
all_append p (x ∷ xs) ys f g = both (and_left (p x) (all p xs) f) (all_append p xs ys (and_right (p x) (all p xs) f) g)

pub join-small : (k : ℕ) (seen : List ℕ) → k < 1073741824 → all small seen ≡ true → all small (join_once k seen) ≡ true
unfolding join_once all
join-small k seen h s = by_test (has k seen) (λ e. rw e s) (λ e. rw e (all_append small seen (k ∷ []) s (both (lt-ltb k 1073741824 h) refl)))

join-most : (k : ℕ) (seen : List ℕ) → length (join_once k seen) ≤ length seen + 1
unfolding join_once
join-most k seen = by_test (has k seen) (λ e. rw e (omega arith)) (λ e. rw (e, length-append seen (k ∷ [])) (omega arith))

-- ---- one key more

-- the library's word for a number that stands in a list is document 01's
pub has-list : (k : ℕ) (l : List ℕ) → has k l ≡ list_any (λ (j : ℕ). eqb j k) l
unfolding has
has-list k [] = refl
has-list k (j ∷ js) = ap (λ (b : Bool). eqb j k || b) (has-list k js)

pub join_old : (k : ℕ) (l : List ℕ) → has k l ≡ true → l ≡ join_once k l
unfolding join_once
join_old k l e = rw e

pub join_new : (k n : ℕ) (l : List ℕ) → n < length l → has k (take n l) ≡ false → take (n + 1) (set l n k) ≡ join_once k (take n l)
unfolding join_once
join_new k n l h e = rw (e, add-one) (take-suc-set l n k h)

pub length_held : (k : CellKeys) → length (held k) ≡ k.count
length_held k = length-take-le k.count k.keys (omega (arith, k.few, k.room))

-- ---- corners

-- what is known once the corners before number c are passed
pub record Walked (g : Containers) (n : ℕ) (b : BoundingBox) (c : ℕ) (keys : List ℕ) : Type 0 where
  pub few : length keys ≤ c
  pub near : any (cell_exceeds g) (box_corners (boxed n b)) ≡ any (cell_exceeds g) (drop c (box_corners (boxed n b)))
  pub seen : once [] (map (cell_key g) (box_corners (boxed n b))) ≡ once keys (map (cell_key g) (drop c (box_corners (boxed n b))))

any-is : (g : Containers) (a : Box) → box_exceeds g a ≡ any (cell_exceeds g) (box_corners a)
unfolding box_exceeds
any-is g a = refl

keys-are : (g : Containers) (a : Box) → box_keys g a ≡ once [] (map (cell_key g) (box_corners a))
unfolding box_keys
keys-are g a = refl

module _ (n : ℕ) (b : BoundingBox) (d : dimension n ≡ true) where
  corners-next : (c : ℕ) → c < 2 ^ n → drop c (box_corners (boxed n b)) ≡ box_corner (coords n b.low) (coords n b.high) c ∷ drop (c + 1) (box_corners (boxed n b))
  unfolding box_corners
  corners-next c h =
      drop-tab (2 ^ length (coords n b.low)) (box_corner (coords n b.low) (coords n b.high)) c (rw (coords-length n b.low d) h)
      ∙ ap (λ (k : ℕ). box_corner (coords n b.low) (coords n b.high) c ∷ drop k (box_corners (boxed n b))) (sym (add-one c))

  corners_end : (c : ℕ) → 2 ^ n ≤ c → drop c (box_corners (boxed n b)) ≡ []
  unfolding box_corners
  corners_end c h =
      let k : length (box_corners (boxed n b)) ≤ c = rw (length-tab (2 ^ length (coords n b.low)) (box_corner (coords n b.low) (coords n b.high)), coords-length n b.low d) h in
      drop_of_length-le (box_corners (boxed n b)) k

module _ {g : Containers} {n : ℕ} {b : BoundingBox} (d : dimension n ≡ true) where
  pub walk_start : {keys : List ℕ} → keys ≡ [] → Walked g n b 0 keys
  walk_start e = rw e (record { few = omega arith; near = refl; seen = refl })

  module _ {c : ℕ} {keys : List ℕ} (w : Walked g n b c keys) where
    pub walk-next : (x : Position) {v : ℕ} {keys' : List ℕ} → c < 2 ^ n → coords n x ≡ box_corner (coords n b.low) (coords n b.high) c
        → (cell_exceeds g (coords n x) ≡ false) × (v ≡ cell_key g (coords n x)) → keys' ≡ join_once v keys → Walked g n b (c + 1) keys'
    unfolding any once
    walk-next x {v} h e f j = record {
      few = omega (arith, w.few, join-most v keys, ap length j);
      near = w.near ∙ rw (corners-next n b d c h, ← e, f.0);
      seen = w.seen ∙ rw (corners-next n b d c h, ← e, ← f.1, j);
    }

    -- a corner that is too far ends the walk
    pub walk_far : (x : Position) → c < 2 ^ n → coords n x ≡ box_corner (coords n b.low) (coords n b.high) c → cell_exceeds g (coords n x) ≡ true → None ≡ box_keys_or g (boxed n b)
    unfolding box_keys_or any
    walk_far x h e f =
        let far : any (cell_exceeds g) (box_corners (boxed n b)) ≡ true = w.near ∙ rw (corners-next n b d c h, ← e, f) in
        rw (any-is g (boxed n b), far)

    pub walk_end : 2 ^ n ≤ c → Some keys ≡ box_keys_or g (boxed n b)
    unfolding box_keys_or any once
    walk_end h =
        let near : any (cell_exceeds g) (box_corners (boxed n b)) ≡ false = w.near ∙ rw (corners_end n b d c h) in
        let seen : once [] (map (cell_key g) (box_corners (boxed n b))) ≡ keys = w.seen ∙ rw (corners_end n b d c h) in
        rw (any-is g (boxed n b), near, keys-are g (boxed n b), seen)
