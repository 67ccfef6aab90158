-- A text cut at a byte: its first piece lies before the first such byte.
-- Assumes nothing.
use Prim.Native.Nat.{ℕ, suc, ◌<◌}
use native.Mathlib.Numerals.{add-one, one-add}
use native.Mathlib.Omega.{arith}
use mathlib.Core.Path.{◌≡◌, refl, sym, ap, ◌∙◌}
use mathlib.Core.Bool.{false, ◌||◌}
use mathlib.Core.List.{List, [], ◌∷◌, ◌++◌}
use lib.Dec.{ltb, eqb}
use Rattle.std.specs.List.{position, position_or_len, slice_split, onto_first}
use Rattle.std.proofs.Common.{Some, None}
use borrow.Author.Tests.{eq-eqb, ltb-true, ltb-false}
use lib.ListN.{length, take, drop, length-append}
use lib.Seq.{take-append_seam, drop-append-add}
use Rattle.basics.specs.Lists.{leading, has}
use Rattle.basics.proofs.Bools.{by_test, or_left, or_right}
use Rattle.basics.proofs.Lists.{leading-most}
use Rattle.lines.specs.Pieces.{onto, split}

-- ---- how many bytes stand before the first b

-- the same by std's `position`
leading-position : (v : ℕ) (s : List ℕ) → leading v s ≡ position_or_len (λ b. eqb b v) s
unfolding leading
leading-position v [] = refl
leading-position v (x ∷ s) = by_test (eqb x v) (λ e. rw e) (λ e. rw (e, leading-position v s) (sym (one-add _)))

pub leading_found : (v : ℕ) (s : List ℕ) (n : ℕ) → Some n ≡ position (λ b. eqb b v) s → (leading v s ≡ n) × (n < length s)
leading_found v s n e =
    by_test (ltb (position_or_len (λ b. eqb b v) s) (length s))
    (λ t. let z = rw t at e in let k : n ≡ position_or_len (λ b. eqb b v) s = cc in (leading-position v s ∙ sym k, omega (arith, k, ltb-true _ _ t)))
    (λ t. absurd (let z = rw t at e in cc))

pub leading_unfound : (v : ℕ) (s : List ℕ) → None ≡ position (λ b. eqb b v) s → leading v s ≡ length s
leading_unfound v s e =
    by_test (ltb (position_or_len (λ b. eqb b v) s) (length s))
    (λ t. absurd (let z = rw t at e in cc))
    (λ t. omega (arith, leading-most v s, leading-position v s, ltb-false _ _ t))

-- where a byte is in neither of two texts, it is not in both together
pub has-append : (v : ℕ) (a b : List ℕ) → has v (a ++ b) ≡ (has v a || has v b)
unfolding has
has-append v [] b = refl
has-append v (x ∷ a) b = by_test (eqb x v) (λ e. rw e) (λ e. rw e (has-append v a b))

pub leading-none : (v : ℕ) (a : List ℕ) → has v a ≡ false → leading v a ≡ length a
unfolding leading has
leading-none v [] h = refl
leading-none v (x ∷ a) h = rw (or_left (eqb x v) (has v a) h) (ap suc (leading-none v a (or_right (eqb x v) (has v a) h)))

pub leading-before : (v : ℕ) (a rest : List ℕ) → has v a ≡ false → leading v (a ++ v ∷ rest) ≡ length a
unfolding leading has
leading-before v [] rest h = rw (eq-eqb v v refl)
leading-before v (x ∷ a) rest h = rw (or_left (eqb x v) (has v a) h) (ap suc (leading-before v a rest (or_right (eqb x v) (has v a) h)))

-- ---- the pieces

pub split-some : (b : ℕ) (s : List ℕ) → 0 < length (split b s)
unfolding split onto
split-some b [] = omega arith
split-some b (x ∷ s) = by_test (eqb x b) (λ e. rw e (omega arith)) (λ e. rw e (onto-some (split b s)))
  where
    onto-some : (ps : List (List ℕ)) → 0 < length (onto x ps)
    onto-some [] = omega arith
    onto-some (p ∷ ps) = omega arith

-- the first piece lies before the first b, and the others after it
pub split-first : (b : ℕ) (s : List ℕ) → leading b s < length s → split b s ≡ take (leading b s) s ∷ split b (drop (suc (leading b s)) s)
unfolding split onto leading
split-first b [] h = absurd (omega arith)
split-first b (x ∷ s) h =
    by_test (eqb x b)
    (λ e. rw e)
    (λ e. let k : leading b s < length s = omega (arith, rw e at h) in rw (e, split-first b s k))

-- where there is none, the text is the only piece
pub split-none : (b : ℕ) (s : List ℕ) → leading b s ≡ length s → split b s ≡ s ∷ []
unfolding split onto leading
split-none b [] h = refl
split-none b (x ∷ s) h = by_test (eqb x b) (λ e. absurd (omega (arith, rw e at h))) (λ e. let k : leading b s ≡ length s = omega (arith, rw e at h) in rw (e, split-none b s k))

-- they are what std's `split` gives
onto-first : (x : ℕ) (ps : List (List ℕ)) → onto x ps ≡ onto_first x ps
unfolding onto
onto-first x [] = refl
onto-first x (p ∷ ps) = refl

pub split-is : (b : ℕ) (s : List ℕ) → split b s ≡ slice_split (λ x. eqb x b) s
unfolding split
split-is b [] = refl
split-is b (x ∷ s) = rw (← split-is b s, ← onto-first x (split b s))

-- the same of a text given by its pieces
module _ (b : ℕ) (a : List ℕ) (h : has b a ≡ false) where
  pub split-whole : split b a ≡ a ∷ []
  split-whole = split-none b a (leading-none b a h)

  pub split-joined : (rest : List ℕ) → split b (a ++ b ∷ rest) ≡ a ∷ split b rest
  split-joined rest =
      let n = leading-before b a rest h in
      let e = split-first b (a ++ b ∷ rest) (omega (arith, n, length-append a (b ∷ rest))) in
      let t : take (leading b (a ++ b ∷ rest)) (a ++ b ∷ rest) ≡ a = rw n (take-append_seam a (b ∷ rest)) in
      let d : drop (suc (leading b (a ++ b ∷ rest))) (a ++ b ∷ rest) ≡ rest = rw (n, ← add-one) (drop-append-add a (b ∷ rest) 1) in
      e ∙ rw (t, d)
