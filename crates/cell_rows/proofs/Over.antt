-- Lists written over the front of other lists.
-- Assumes nothing.
use Prim.Native.Nat.{ℕ, suc, ◌+◌, ◌-◌, ◌≤◌, ◌<◌}
use native.Mathlib.Numerals.{add-one}
use native.Mathlib.Omega.{arith}
use mathlib.Core.Path.{◌≡◌, refl, sym, ap, ap₂, ◌∙◌}
use mathlib.Core.List.{List, [], ◌++◌, map, append_assoc, append-nil}
use lib.ListN.{length, get_or, take, drop, set, length-drop, length-map, get_or-map, drop_of_length-le}
use lib.Seq.{take_at, drop_at, length-take-le, take-suc, drop-cons, set_at, append_snoc, drop-drop, take-add, take-length, get_or_at}
use borrow.Rule.Slice.PartMut.{put_mid}
use Rattle.basics.specs.Lists.{over}

module _ {A : Type 0} where
  pub take-over : (new old : List A) (n : ℕ) → length new ≡ n → take n (over new old) ≡ new
  unfolding over
  take-over new old n e = take_at new (drop (length new) old) n e

  pub drop-over : (new old : List A) (n : ℕ) → length new ≡ n → drop n (over new old) ≡ drop n old
  unfolding over
  drop-over new old n e = drop_at new (drop (length new) old) n e ∙ ap (λ (k : ℕ). drop k old) e

  -- nothing yet
  pub over_none : (old : List A) → old ≡ over [] old
  unfolding over
  over_none old = refl

  -- the first n of the new, and one more
  pub over-next : (new old : List A) (n : ℕ) (d : A) → n < length new → length new ≤ length old → set (over (take n new) old) n (get_or new n d) ≡ over (take (n + 1) new) old
  unfolding over
  over-next new old n d h k =
      let e : length (take n new) ≡ n = length-take-le n new (omega arith) in
      let f : length (take (suc n) new) ≡ suc n = length-take-le (suc n) new (omega arith) in
      ap (λ (j : ℕ). set (take n new ++ drop j old) n (get_or new n d)) e
      ∙ ap (λ (l : List A). set (take n new ++ l) n (get_or new n d)) (drop-cons old n d (omega arith))
      ∙ set_at (take n new) (get_or old n d) (drop (suc n) old) (get_or new n d) n e
      ∙ sym (append_snoc (take n new) (get_or new n d) (drop (suc n) old))
      ∙ ap (λ (l : List A). l ++ drop (suc n) old) (sym (take-suc new n d h))
      ∙ sym (ap (λ (j : ℕ). take j new ++ drop (length (take j new)) old) (add-one n) ∙ ap (λ (j : ℕ). take (suc n) new ++ drop j old) f)

  -- the first n of the new, and k more that another list has
  pub over_more : (new old l : List A) (n k : ℕ) → n + k ≤ length new → length new ≤ length old → take k (drop n new) ≡ l → length l ≡ k
      → take n (over (take n new) old) ++ over l (drop n (over (take n new) old)) ≡ over (take (n + k) new) old
  unfolding over
  over_more new old l n k h j e m =
      let f : length (take n new) ≡ n = length-take-le n new (omega arith) in
      let g : length (take (n + k) new) ≡ n + k = length-take-le (n + k) new h in
      let front : take n (over (take n new) old) ≡ take n new = take-over (take n new) old n f in
      let rest : drop n (over (take n new) old) ≡ drop n old = drop-over (take n new) old n f in
      rw (front, rest, m, g, drop-drop, take-add n k new, e, append_assoc)

  -- a part of a list up to its end, whose front is written over
  pub put_over : (new l part : List A) (n : ℕ) → n ≤ length l → part ≡ over new (take (length l - n) (drop n l)) → put_mid n (length l - n) l part ≡ take n l ++ over new (drop n l)
  put_over new l part n h e =
      let all : take (length l - n) (drop n l) ≡ drop n l = ap (λ (k : ℕ). take k (drop n l)) (sym (length-drop n l)) ∙ take-length (drop n l) in
      let past : length (drop n l) ≤ length l - n = omega (arith, length-drop n l) in
      ap (λ (x : List A). take n l ++ x) (ap₂ ◌++◌ (e ∙ ap (over new) all) (drop_of_length-le (drop n l) past) ∙ append-nil (over new (drop n l)))

  -- what is not written over yet
  pub over_ahead : (new old : List A) (i : ℕ) (d : A) → i ≤ length new → i < length old → get_or (over (take i new) old) i d ≡ get_or old i d
  unfolding over
  over_ahead new old i d h k =
      let e : length (take i new) ≡ i = length-take-le i new h in
      rw (e, drop-cons old i d k) (get_or_at (take i new) (get_or old i d) (drop (suc i) old) d i e)

  -- all that there is
  pub over_all : (new old : List A) (n : ℕ) → length new ≡ n → length old ≡ n → over (take n new) old ≡ new
  unfolding over
  over_all new old n e f =
      let all : take n new ≡ new = ap (λ (k : ℕ). take k new) (sym e) ∙ take-length new in
      let past : length old ≤ length new = omega arith in
      rw (all, drop_of_length-le old past, append-nil)

-- a walk that puts the entries of a list through a function and writes them over the front of a list
pub over-map_next : (f : ℕ → ℕ) (l old : List ℕ) (i v : ℕ) → i < length l → length l ≤ length old → v ≡ get_or l i 0 → set (over (take i (map f l)) old) i (f v) ≡ over (take (i + 1) (map f l)) old
over-map_next f l old i v h k e =
    ap (λ (x : ℕ). set (over (take i (map f l)) old) i x) (ap f e ∙ sym (get_or-map f l i 0))
    ∙ over-next (map f l) old i (f 0) (rw (length-map l f) h) (rw (length-map l f) k)
