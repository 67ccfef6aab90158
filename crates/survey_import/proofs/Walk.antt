-- A walk along the lines of a text: how many were passed, and which are left.
-- Assumes nothing.
use Prim.Native.Nat.{ℕ, suc, ◌+◌, ◌≤◌, ◌<◌}
use native.Mathlib.Numerals.{add-one}
use native.Mathlib.Omega.{arith}
use mathlib.Core.Path.{◌≡◌, refl, sym, ap, ◌∙◌}
use mathlib.Core.Bool.{true, false, not}
use mathlib.Core.List.{List, [], ◌∷◌}
use lib.ListN.{length, get_or, drop, length-drop}
use lib.Seq.{drop-cons}
use Rattle.std.specs.Prelude.{Ok, Err}
use Rattle.basics.specs.Lists.{all}
use Rattle.basics.proofs.Walks.{all_stop, all-next, all_end}
use Rattle.lines.specs.Lines.{lines}
use Rattle.lines.proofs.LineLaws.{lines-most}
use Rattle.survey_import.specs.Marks.{good_line, malformed, bad_line}
use Rattle.survey_import.specs.Posts.{Judges}
use Rattle.survey_import.specs.declared.ImportError.TheVariants.{Malformed}

pub record Walking (text : List ℕ) (left : List (List ℕ)) (i : ℕ) : Type 0 where
  pub counted : i ≤ length (lines text)
  pub ahead : left ≡ drop i (lines text)

pub walk_start : (text : List ℕ) → Walking text (lines text) 0
walk_start text = record { counted = omega arith; ahead = refl }

module _ {text : List ℕ} {left : List (List ℕ)} {i : ℕ} (w : Walking text left i) where
  module _ {line : List ℕ} {rest : List (List ℕ)} (is : left ≡ line ∷ rest) where
    pub line_there : i < length (lines text)
    line_there = omega (arith, w.counted, length-drop i (lines text), ap length (sym w.ahead ∙ is))

    parts : get_or (lines text) i [] ∷ drop (suc i) (lines text) ≡ line ∷ rest
    parts = sym (drop-cons (lines text) i [] line_there) ∙ sym w.ahead ∙ is

    -- the line that is read is the i-th
    pub line-is : get_or (lines text) i [] ≡ line
    line-is = cc parts

    pub walk-next : Walking text rest (i + 1)
    walk-next = record { counted = omega (arith, line_there); ahead = rw add-one (cc parts) }

  -- every line was passed
  pub walk_end : left ≡ [] → i ≡ length (lines text)
  walk_end e = omega (arith, w.counted, length-drop i (lines text), ap length (sym w.ahead ∙ e))

-- ---- the judgement

-- the lines passed are good, and so the first bad line is ahead
pub record Judging (text : List ℕ) (left : List (List ℕ)) (i : ℕ) : Type 0 where
  pub walk : Walking text left i
  pub good : all good_line (lines text) ≡ all good_line (drop i (lines text))
  pub bad : bad_line (lines text) ≡ i + bad_line (drop i (lines text))

bad-next : (ls : List (List ℕ)) (i : ℕ) → i < length ls → good_line (get_or ls i []) ≡ true → bad_line (drop i ls) ≡ suc (bad_line (drop (i + 1) ls))
unfolding bad_line
bad-next ls i h e = rw (drop-cons ls i [] h, e, add-one)

bad_here : (ls : List (List ℕ)) (i : ℕ) → i < length ls → good_line (get_or ls i []) ≡ false → bad_line (drop i ls) ≡ 1
unfolding bad_line
bad_here ls i h e = rw (drop-cons ls i [] h, e)

malformed-some : (ls : List (List ℕ)) → 0 < length ls → malformed ls ≡ not (all good_line ls)
unfolding malformed
malformed-some [] h = absurd (omega arith)
malformed-some (l ∷ ls) h = refl

malformed-none : (ls : List (List ℕ)) → length ls ≡ 0 → (malformed ls ≡ true) × (1 ≡ bad_line ls)
unfolding malformed bad_line
malformed-none [] h = (refl, refl)
malformed-none (l ∷ ls) h = absurd (omega arith)

pub judging_start : (text : List ℕ) → Judging text (lines text) 0
judging_start text = record { walk = walk_start text; good = refl; bad = omega arith }

module _ {text : List ℕ} {left : List (List ℕ)} {i : ℕ} (j : Judging text left i) where
  module _ {line : List ℕ} {rest : List (List ℕ)} (is : left ≡ line ∷ rest) where
    there : i < length (lines text)
    there = line_there j.walk is

    -- a text has no more lines than bytes
    pub count-below : i < length text
    count-below = omega (arith, there, lines-most text)

    pub good-line : good_line line ≡ true → Judging text rest (i + 1)
    good-line e =
        let g : good_line (get_or (lines text) i []) ≡ true = ap good_line (line-is j.walk is) ∙ e in
        record {
          walk = walk-next j.walk is;
          good = all-next good_line (lines text) i j.good [] there g;
          bad = omega (arith, j.bad, bad-next (lines text) i there g);
        }

    pub bad-line : good_line line ≡ false → Judges (lines text) (Err (Malformed (i + 1)))
    bad-line e =
        let g : good_line (get_or (lines text) i []) ≡ false = ap good_line (line-is j.walk is) ∙ e in
        let n : i + 1 ≡ bad_line (lines text) = omega (arith, j.bad, bad_here (lines text) i there g) in (
          (malformed-some (lines text) (omega (arith, there)) ∙ ap not (all_stop good_line (lines text) i j.good [] there g)),
          ap (λ (k : ℕ). Malformed k) n,
        )

  pub no_line : left ≡ [] → i ≡ 0 → Judges (lines text) (Err (Malformed 1))
  no_line h e = let m = malformed-none (lines text) (sym (walk_end j.walk h) ∙ e) in (m.0, ap (λ (k : ℕ). Malformed k) m.1)

  pub all-good : left ≡ [] → (i ≡ 0 → ⊥) → Judges (lines text) (Ok i)
  all-good h e =
      let n = walk_end j.walk h in
      ((malformed-some (lines text) (omega (arith, n, e)) ∙ ap not (all_end good_line (lines text) i j.good (omega (arith, n)))), n)
