-- Zeros from an index on, for any kind of entry.
-- Assumes nothing.
use Prim.Native.Nat.{ℕ, zero, suc, ◌-◌, ◌≤◌}
use native.Mathlib.Nat.{le_of_suc-le-suc, not-suc-le-zero}
use native.Mathlib.Omega.{arith}
use mathlib.Core.Path.{◌≡◌, refl, ap}
use mathlib.Core.List.{List, [], ◌∷◌, ◌++◌, map, append-nil}
use borrow.Rule.Slice.PartMut.{put_mid}
use Rattle.std.proofs.lemmas.List.{take_rest}
use lib.ListN.{length, take, drop, replicate, length-drop, drop_of_length-le}
use Rattle.basics.specs.Lists.{over}
use Rattle.table.specs.Posts.{cleared}

module _ {A : Type 0} (v : A) where
  cleared-front : (s : List A) → replicate (length s) v ≡ cleared v 0 s
  unfolding cleared
  cleared-front [] = refl
  cleared-front (x ∷ s) = ap (λ (r : List A). v ∷ r) (cleared-front s)

  cleared-rest : (n : ℕ) (s : List A) → n ≤ length s → take n s ++ replicate (length (drop n s)) v ≡ cleared v n s
  unfolding cleared
  cleared-rest zero s h = cleared-front s
  cleared-rest (suc n) [] h = absurd (not-suc-le-zero h)
  cleared-rest (suc n) (x ∷ s) h = ap (λ (r : List A). x ∷ r) (cleared-rest n s (le_of_suc-le-suc h))

  -- after `s[n..].fill(v)`
  pub filled : (n : ℕ) (s filling : List A) → n ≤ length s → filling ≡ replicate (length (take (length s - n) (drop n s))) v → put_mid n (length s - n) s filling ≡ cleared v n s
  filled n s filling h e =
      let all : take (length s - n) (drop n s) ≡ drop n s = take_rest s n in
      let none : drop (length s - n) (drop n s) ≡ [] = drop_of_length-le (drop n s) (omega (arith, length-drop n s)) in
      rw (e, none, append-nil, all) (cleared-rest n s h)

  all-cleared : (now old : List A) → length now ≡ length old → cleared v 0 now ≡ map (λ (x : A). v) old
  unfolding cleared
  all-cleared [] [] m = refl
  all-cleared [] (y ∷ old) m = absurd (omega arith)
  all-cleared (x ∷ now) [] m = absurd (omega arith)
  all-cleared (x ∷ now) (y ∷ old) m = ap (λ (r : List A). v ∷ r) (all-cleared now old (omega arith))

  -- as the layout has it: what is written over a list of as many zeros
  pub cleared-over : (new now old : List A) → new ≡ take (length new) now → length now ≡ length old → cleared v (length new) now ≡ over new (map (λ (x : A). v) old)
  unfolding cleared over
  cleared-over [] now old e m = all-cleared now old m
  cleared-over (a ∷ new) [] old e m = let z : ◌≡◌ {A = ℕ} (length (a ∷ new)) 0 = ap length e in absurd (omega arith)
  cleared-over (a ∷ new) (x ∷ now) [] e m = absurd (omega arith)
  cleared-over (a ∷ new) (x ∷ now) (y ∷ old) e m =
      let h : a ≡ x = cc in
      let t : new ≡ take (length new) now = cc in
      rw h (ap (λ (r : List A). x ∷ r) (cleared-over new now old t (omega arith)))
