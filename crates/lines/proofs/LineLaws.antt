-- The lines of a text, one after the other from its start.
-- Assumes nothing.
use Prim.Native.Nat.{ℕ, zero, suc, ◌+◌, ◌-◌, ◌≤◌, ◌<◌}
use native.Mathlib.Nat.{eq-or-lt_of_le, le-suc}
use native.Mathlib.Omega.{arith}
use mathlib.Core.Logic.{⊎_elim}
use mathlib.Core.Path.{◌≡◌, refl, sym, ap, ◌∙◌}
use mathlib.Core.Bool.{true, false}
use mathlib.Core.List.{List, [], ◌∷◌, ◌++◌}
use lib.Dec.{eqb}
use lib.Pointwise.{pointwise}
use denote.Ref.{Bor}
use Rattle.std.specs.List.{position}
use Rattle.std.specs.Option.{MatchOption, unwrap_or}
use Rattle.std.proofs.Common.{Option, Some, None}
use borrow.Author.Tests.{eq-eqb, ne_eqb, eqb-true}
use lib.ListN.{length, get_or, take, drop, length-drop, drop_of_length-le}
use lib.Seq.{drop-cons, drop-drop, take_all, take-take, length-take-le}
use Rattle.basics.specs.Lists.{leading, has}
use Rattle.basics.proofs.Bools.{by_test, clash, and_left}
use Rattle.basics.proofs.Lists.{leading-most}
use Rattle.lines.specs.Pieces.{onto, split}
use Rattle.lines.specs.Lines.{without_cr, ended, lines}
use Rattle.lines.specs.Posts.{IsLine}
use Rattle.lines.specs.declared.Line.{Line}
use Rattle.lines.proofs.Pieces.{leading_found, leading_unfound, split-some, split-first, split-none, split-joined}

-- ---- one CR at the end of a piece

pub without-cut : (s : List ℕ) (n : ℕ) → length s ≡ suc n → get_or s n 0 ≡ 13 → without_cr s ≡ take n s
unfolding without_cr
without-cut [] n h e = absurd (omega arith)
without-cut (x ∷ []) zero h e = rw (eq-eqb x 13 e)
without-cut (x ∷ []) (suc n) h e = absurd (omega arith)
without-cut (x ∷ y ∷ ys) zero h e = absurd (omega arith)
without-cut (x ∷ y ∷ ys) (suc n) h e = ap (λ (r : List ℕ). x ∷ r) (without-cut (y ∷ ys) n (omega arith) e)

pub without_kept : (s : List ℕ) → ((n : ℕ) → length s ≡ suc n → get_or s n 0 ≡ 13 → ⊥) → without_cr s ≡ s
unfolding without_cr
without_kept [] h = refl
without_kept (x ∷ []) h = rw (ne_eqb x 13 (h 0 refl))
without_kept (x ∷ y ∷ ys) h = ap (λ (r : List ℕ). x ∷ r) (without_kept (y ∷ ys) (λ n l. h (suc n) (ap suc l)))

-- a piece that ends in another byte
pub without_last : (a : List ℕ) (x : ℕ) → (x ≡ 13 → ⊥) → without_cr (a ++ x ∷ []) ≡ a ++ x ∷ []
unfolding without_cr
without_last [] x h = rw (ne_eqb x 13 h)
without_last (y ∷ []) x h = ap (λ (r : List ℕ). y ∷ r) (without_last [] x h)
without_last (y ∷ z ∷ zs) x h = ap (λ (r : List ℕ). y ∷ r) (without_last (z ∷ zs) x h)

-- ---- from one line to the next

ended-cons : (p : List ℕ) (ps : List (List ℕ)) → 0 < length ps → ended (p ∷ ps) ≡ without_cr p ∷ ended ps
unfolding ended
ended-cons p [] h = absurd (omega arith)
ended-cons [] (q ∷ qs) h = refl
ended-cons (x ∷ xs) (q ∷ qs) h = refl

pub lines_none : lines [] ≡ []
unfolding lines
lines_none = refl

-- a line that has an LF after it
pub lines-first : (s : List ℕ) → leading 10 s < length s → lines s ≡ without_cr (take (leading 10 s) s) ∷ lines (drop (suc (leading 10 s)) s)
unfolding lines
lines-first s h = ap ended (split-first 10 s h) ∙ ended-cons (take (leading 10 s) s) (split 10 (drop (suc (leading 10 s)) s)) (split-some 10 (drop (suc (leading 10 s)) s))

-- the last, that has none
pub lines_last : (s : List ℕ) → 0 < length s → leading 10 s ≡ length s → lines s ≡ s ∷ []
unfolding lines ended
lines_last [] h e = absurd (omega arith)
lines_last (x ∷ xs) h e = ap ended (split-none 10 (x ∷ xs) e)

-- a line in front of a text
pub lines-joined : (a : List ℕ) → has 10 a ≡ false → without_cr a ≡ a → (rest : List ℕ) → lines (a ++ 10 ∷ rest) ≡ a ∷ lines rest
unfolding lines
lines-joined a h e rest =
    ap ended (split-joined 10 a h rest)
    ∙ ended-cons a (split 10 rest) (split-some 10 rest)
    ∙ ap (λ (p : List ℕ). p ∷ ended (split 10 rest)) e

-- ---- how many lines

pub lines-some : (s : List ℕ) → 0 < length s → 0 < length (lines s)
lines-some s h =
    ⊎_elim
    (λ k. rw (lines_last s h k) (omega arith))
    (λ k. rw (lines-first s k) (omega arith))
    (eq-or-lt_of_le (leading-most 10 s))

onto-most : (x : ℕ) (ps : List (List ℕ)) → length (ended (onto x ps)) ≤ suc (length (ended ps))
unfolding ended onto
onto-most x [] = omega arith
onto-most x ([] ∷ []) = omega arith
onto-most x ((y ∷ ys) ∷ []) = omega arith
onto-most x (p ∷ q ∷ qs) = le-suc _

pub lines-most : (s : List ℕ) → length (lines s) ≤ length s
unfolding lines split
lines-most [] = omega arith
lines-most (x ∷ s) =
    by_test (eqb x 10)
    (λ e. rw (e, ended-cons [] (split 10 s) (split-some 10 s)) (omega (arith, lines-most s)))
    (λ e. rw e (omega (arith, onto-most x (split 10 s), lines-most s)))

-- ---- the first line

pub first-none : (s : List ℕ) → true ≡ eqb (length s) 0 → lines s ≡ []
first-none [] e = lines_none
first-none (x ∷ s) e = absurd (omega (arith, eqb-true (length (x ∷ s)) 0 (sym e)))

-- what is there of the line at the text's start, as the code's slices give it
pub first-line : (s : List ℕ) (r : Line) → IsLine s 0 r → lines s ≡ take r.end s ∷ lines (take (length s - r.next) (drop r.next s))
first-line s r l =
    let end : r.end - 0 ≡ r.end = omega arith in
    rw (take_all (length s - r.next) (drop r.next s) (omega (arith, length-drop r.next s))) (rw end at l.first)

-- as the code takes a CR away
last : (s : List ℕ) (n : ℕ) → length s ≡ suc n → drop n s ≡ get_or s n 0 ∷ []
last s n h = drop-cons s n 0 (omega arith) ∙ ap (λ (r : List ℕ). get_or s n 0 ∷ r) (drop_of_length-le s {i = suc n} (omega arith))

pub without-stripped : (s : List ℕ) (r : Option (Bor (List ℕ))) (whole : Bor (List ℕ)) → whole.now ≡ s
    → MatchOption r (pointwise eqb (drop (length s - 1) s) (13 ∷ []) ≡ false) (λ x. (pointwise eqb (drop (length s - 1) s) (13 ∷ []) ≡ true)
    × (x.now ≡ take (length s - 1) s) × (length x.now + 1 ≡ length s))
    → without_cr s ≡ (unwrap_or r whole).now
without-stripped s None whole w e =
    without_kept s (λ n l b. let m : n ≡ length s - 1 = omega arith in clash (rw (← m, last s n l, eq-eqb _ _ b)) e) ∙ sym w
without-stripped s (Some x) whole w e =
    let l : length s ≡ suc (length s - 1) = omega arith in
    without-cut s (length s - 1) l (eqb-true _ _ (and_left _ true (rw (last s (length s - 1) l) at e.0))) ∙ sym e.1

-- ---- the line at an index: a law for each way out of `line_at`

pub without-most : (s : List ℕ) → length (without_cr s) ≤ length s
unfolding without_cr
without-most [] = omega arith
without-most (x ∷ []) = by_test (eqb x 13) (λ e. rw e (omega arith)) (λ e. rw e (omega arith))
without-most (x ∷ y ∷ ys) = omega (arith, without-most (y ∷ ys))

-- what is left of a piece stands at its front
without-front : (s : List ℕ) → without_cr s ≡ take (length (without_cr s)) s
unfolding without_cr
without-front [] = refl
without-front (x ∷ []) = by_test (eqb x 13) (λ e. rw e) (λ e. rw e)
without-front (x ∷ y ∷ ys) = ap (λ (r : List ℕ). x ∷ r) (without-front (y ∷ ys))

module _ (text : List ℕ) (at : ℕ) (h : at < length text) where
  abbrev rest : List ℕ
  rest = drop at text

  length_rest : length rest ≡ length text - at
  length_rest = length-drop at text

  -- the slice from the index on
  abbrev onward : List ℕ
  onward = take (length text - at) rest

  onward_rest : onward ≡ rest
  onward_rest = take_all (length text - at) rest (omega (arith, length_rest))

  pub line_last : None ≡ position (λ b. eqb b 10) onward → IsLine text at (record { end = length text; next = length text })
  line_last e = record {
    starts = omega arith;
    ends = omega arith;
    onward = h;
    within = omega arith;
    first =
        let all : take (length text - at) rest ≡ rest = onward_rest in
        rw (all, drop_of_length-le text {i = length text} (omega arith), lines_none)
        (lines_last rest (omega (arith, length_rest)) (leading_unfound 10 rest (rw onward_rest at e)));
  }

  pub line_found : (n end next : ℕ) (line : List ℕ) → Some n ≡ position (λ b. eqb b 10) onward → line ≡ without_cr (take n onward)
      → end ≡ at + length line → next ≡ at + n + 1 → IsLine text at (record { end = end; next = next })
  line_found n end next line e f p q =
      let k = leading_found 10 rest n (rw onward_rest at e) in
      let w : line ≡ without_cr (take n rest) = rw onward_rest at f in
      let piece : length (take n rest) ≡ n = length-take-le n rest (omega (arith, k.1)) in
      let most : length line ≤ n = omega (arith, ap length w, without-most (take n rest), piece) in
      let front : line ≡ take (length line) rest = w ∙ without-front (take n rest) ∙ rw (← w) (take-take (length line) n rest most) in
      let same : end - at ≡ length line = omega arith in
      let past : at + suc n ≡ next = omega arith in
      record {
        starts = omega arith;
        ends = omega (arith, most, k.1, length_rest);
        onward = omega arith;
        within = omega (arith, k.1, length_rest);
        first = rw (same, ← front, w, ← past, ← drop-drop (suc n) at text) (rw k.0 at (lines-first rest (omega (arith, k.0, k.1))));
      }
