-- A proof of each claim of specs/Claims.antt.
-- Assumes nothing.
use Prim.Native.Nat.{ℕ, suc, ◌+◌, ◌<◌, zero-le, suc-le-suc}
use native.Mathlib.Omega.{arith}
use mathlib.Core.Path.{◌≡◌, refl, sym, ap, ◌∙◌, subst}
use mathlib.Core.Bool.{Bool, true, false, not, cond, ◌&&◌, and-false}
use mathlib.Core.List.{List, [], ◌∷◌, map}
use mathlib.Core.Option.{Option, none, some, some-ne-none, some-injective}
use lib.ListN.{length, take}
use Rattle.basics.specs.Lists.{all}
use Rattle.basics.specs.Refusals.{fault, is_none, code, Answer, answer, refused, success}
use Rattle.basics.proofs.Bools.{by_test}
use Rattle.table.specs.declared.Row.{Row}
use Rattle.table.specs.Rows.{Slot, slot_of, chain, sorted}
use Rattle.table.specs.Library.{Library, table, space, too_long, sound_layout}
use Rattle.grid_search.specs.declared.GridSearch.{GridSearch}
use Rattle.grid_search.specs.Sheet.{sheet_ok}
use Rattle.rows.specs.Damage.{good_row, sound_rows, sound, library_tests}
use Rattle.rows.specs.Check.{above, Walk, walk_from, walk, check_tests, checking}
use Rattle.rows.specs.Claims.{Told, damage, SameDamage}

module _ (good : Row → Bool) where
  -- ---- a row is told exactly if one is bad by itself or out of order

  -- slots in strict order, the first of them above the one before it
  unfoldable after : Option Slot → List Slot → Bool
  after none ps = sorted ps
  after (some p) ps = chain p ps

  after_cons : (o : Option Slot) (q : Slot) (qs : List Slot) → after o (q ∷ qs) ≡ (above o q && chain q qs)
  unfolding after above sorted chain
  after_cons none q qs = refl
  after_cons (some p) q qs = refl

  told-from : (n : ℕ) (o : Option Slot) (rows : List Row) → is_none (walk_from good n o rows).bad ≡ (all good rows && after o (map slot_of rows))
  unfolding is_none walk_from all after sorted chain
  told-from n none [] = refl
  told-from n (some p) [] = refl
  told-from n o (r ∷ rows) =
      step (good r) (above o (slot_of r)) (walk_from good (suc n) (some (slot_of r)) rows) (all good rows) (chain (slot_of r) (map slot_of rows)) (told-from (suc n) (some (slot_of r)) rows)
      ∙ ap (λ (b : Bool). (good r && all good rows) && b) (sym (after_cons o (slot_of r) (map slot_of rows)))
    where
      step : (g a : Bool) (rest : Walk) (x y : Bool) → is_none rest.bad ≡ (x && y)
          → is_none (cond (g && a) rest (record { bad = some n; visited = suc n })).bad ≡ ((g && x) && (a && y))
      step false a rest x y h = refl
      step true false rest x y h = sym (and-false x)
      step true true rest x y h = h

  -- ---- the row told is the first with which the rows are bad, and the count is that of the rows up to it, or of all

  record Lowest (n : ℕ) (o : Option Slot) (rows : List Row) (i : ℕ) : Type 0 where
    index : ℕ
    number : i ≡ n + index
    among : index < length rows
    good-before : (walk_from good n o (take index rows)).bad ≡ none
    bad-with : (walk_from good n o (take (suc index) rows)).bad ≡ some i
    counted : (walk_from good n o rows).visited ≡ suc i

  lowest : (n : ℕ) (o : Option Slot) (rows : List Row) (i : ℕ) → (walk_from good n o rows).bad ≡ some i → Lowest n o rows i
  unfolding walk_from
  lowest n o [] i e = absurd (some-ne-none i (sym e))
  lowest n o (r ∷ rows) i e =
      by_test (good r && above o (slot_of r))
      (λ t.
      let l = lowest (suc n) (some (slot_of r)) rows i (rw t at e) in
      record {
        index = suc l.index;
        number = omega (arith, l.number);
        among = suc-le-suc l.among;
        good-before = rw t l.good-before;
        bad-with = rw t l.bad-with;
        counted = rw t l.counted;
      })
      (λ t.
      let f : some n ≡ some i = rw t at e in
      let g : n ≡ i = some-injective n i f in
      record { index = 0; number = omega (arith, g); among = suc-le-suc zero-le; good-before = refl; bad-with = rw t f; counted = rw t (ap suc g) })

  to_the_end : (n : ℕ) (o : Option Slot) (rows : List Row) → (walk_from good n o rows).bad ≡ none → (walk_from good n o rows).visited ≡ n + length rows
  unfolding walk_from
  to_the_end n o [] e = omega arith
  to_the_end n o (r ∷ rows) e =
      by_test (good r && above o (slot_of r))
      (λ t. let v = to_the_end (suc n) (some (slot_of r)) rows (rw t at e) in rw t (omega (arith, v)))
      (λ t. absurd (some-ne-none n (rw t at e)))

-- ---- the claims

module _ (s : GridSearch) (rows : List Row) where
  exactly : is_none (walk (good_row s) rows).bad ≡ sound_rows s rows
  unfolding walk sound_rows after
  exactly = told-from (good_row s) 0 none rows

  first : (i : ℕ) → (walk (good_row s) rows).bad ≡ some i → Lowest (good_row s) 0 none rows i
  unfolding walk
  first i e = lowest (good_row s) 0 none rows i e

pub told : Told
unfolding walk is_none
told s rows =
    record {
      exactly = exactly s rows;
      among = λ i e. subst (λ (j : ℕ). j < length rows) (at i e) (first s rows i e).among;
      sound-before = λ i e. sym (exactly s (take i rows)) ∙ ap is_none (subst (λ (j : ℕ). up_to j ≡ none) (at i e) (first s rows i e).good-before);
      unsound_with = λ i e. sym (exactly s (take (suc i) rows)) ∙ ap is_none (subst (λ (j : ℕ). up_to (suc j) ≡ some i) (at i e) (first s rows i e).bad-with);
      visited_to = λ i e. (first s rows i e).counted;
      visited-all = λ e. omega (arith, to_the_end (good_row s) 0 none rows e);
    }
  where
    up_to : ℕ → Option ℕ
    up_to j = (walk_from (good_row s) 0 none (take j rows)).bad

    at : (i : ℕ) (e : (walk (good_row s) rows).bad ≡ some i) → (first s rows i e).index ≡ i
    at i e = omega (arith, (first s rows i e).number)

-- what the answer of a check turns other calls away with
unfoldable pub fault_of : Answer Walk → Option ℕ
fault_of (refused n) = some n
fault_of (success w) = cond (is_none w.bad) none (some 13)

pub faults : (s : GridSearch) (l : Library) → fault (library_tests s l) ≡ fault_of (checking s l)
unfolding fault_of checking check_tests library_tests fault answer sound walk is_none
faults s l =
    by_test (too_long (space l))
    (λ t. rw t)
    (λ t. by_test (sheet_ok s)
    (λ a. by_test (sound_layout l)
    (λ b. rw (t, a, b, exactly s (table l)) (number (sound_rows s (table l))))
    (λ b. rw (t, a, b)))
    (λ a. rw (t, a)))
  where
    number : (b : Bool) → cond {A = Option ℕ} (not b) (some 13) none ≡ cond b none (some 13)
    number true = refl
    number false = refl

code-of : (a : Answer Walk) → code (fault_of a) ≡ damage a
unfolding code fault_of damage is_none
code-of (refused n) = refl
code-of (success w) = by_test (is_none w.bad) (λ e. rw e) (λ e. rw e)

pub same-damage : SameDamage
same-damage s l = ap code (faults s l) ∙ code-of (checking s l)
