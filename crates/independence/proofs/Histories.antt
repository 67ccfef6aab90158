-- The rows in use after a run are those that the ids' histories make.
use Prim.Native.Nat.{ℕ}
use mathlib.Core.Path.{◌≡◌, refl, sym, ◌∙◌, ap}
use mathlib.Core.Bool.{Bool, true, false, cond}
use mathlib.Core.Option.{Option, none, some}
use mathlib.Core.List.{List, [], ◌∷◌, map}
use lib.Dec.{eqb}
use borrow.Author.Tests.{eq-eqb, eqb-true}
use Rattle.basics.proofs.Bools.{by_test}
use Rattle.basics.specs.Lists.{has}
use Rattle.basics.specs.Refusals.{fault}
use Rattle.geometry.specs.Position.{position_of}
use Rattle.grid_search.specs.declared.GridSearch.{GridSearch}
use Rattle.table.specs.declared.Row.{Row}
use Rattle.table.specs.Rows.{Slot, slot_of, sorted, row_for, row_in, own}
use Rattle.table.proofs.Ids.{row_for-put_in, row_for-own, row_for-without}
use Rattle.rows.specs.Insert.{targets, rows_with}
use Rattle.independence.specs.Holdings.{Holding, rows_in}
use Rattle.independence.specs.Run.{Change, insert, strike, Call, change, search, list, step, run}
use Rattle.independence.specs.Histories.{whose, history, effect, built, placing, placed}
use Rattle.independence.specs.Claims.{standing}
use Rattle.independence.proofs.Changes.{change_tests, changed, other-effect, own-effect, effect-order, changed_table}
use Rattle.independence.proofs.Added.{history-own, history-other, history_kept}
use Rattle.independence.proofs.Runs.{run_done, run_kept, kept}

-- strict order is kept
pub order_kept : (s : GridSearch) (calls : List Call) (l : Holding) → sorted (map slot_of (rows_in l)) ≡ true → sorted (map slot_of (rows_in (run s l calls))) ≡ true
order_kept s = kept s (λ (l : Holding). sorted (map slot_of (rows_in l)) ≡ true) (λ l c e o. rw (changed_table s l c) (effect-order s c (rows_in l) o))

-- ---- the rows of one id

module _ (i : ℕ) (s : GridSearch) where
  pub made : (calls : List Call) (l : Holding) → sorted (map slot_of (rows_in l)) ≡ true → own i (rows_in (run s l calls)) ≡ built s (history i s l calls) (own i (rows_in l))
  unfolding run history step built
  made [] l o = refl
  made (search x ∷ calls) l o = made calls l o
  made (list p f lent ∷ calls) l o = made calls l o
  made (change c ∷ calls) l o = go (made calls) (fault (change_tests s l c)) refl
    where
      go : ((m : Holding) → sorted (map slot_of (rows_in m)) ≡ true → own i (rows_in (run s m calls)) ≡ built s (history i s m calls) (own i (rows_in m)))
          → (v : Option ℕ) → fault (change_tests s l c) ≡ v → own i (rows_in (run s l (change c ∷ calls))) ≡ built s (history i s l (change c ∷ calls)) (own i (rows_in l))
      go ih (some n) e = rw (run_kept s l c calls n e, history_kept s l c calls n e i) (ih l o)
      go ih none e =
          let t = changed_table s l c in
          let d = ih (changed s l c) (rw t (effect-order s c (rows_in l) o)) in
          by_test (eqb (whose c) i)
          (λ f. rw (run_done s l c calls e, history-own s l c calls e i f) (d ∙ ap (built s (history i s (changed s l c) calls)) (ap (own i) t ∙ own-effect s i c (rows_in l) f o)))
          (λ f. rw (run_done s l c calls e, history-other s l c calls e i f) (d ∙ ap (built s (history i s (changed s l c) calls)) (ap (own i) t ∙ other-effect s i c (rows_in l) f)))

-- ---- the row of one slot

standing_cond : (b : Bool) (r : Row) (o : Option Row) → standing (cond b (some r) o) ≡ cond b (some r.at) (standing o)
unfolding standing
standing_cond true r o = refl
standing_cond false r o = refl

standing-none : {o : Option Row} → o ≡ none → standing o ≡ none
unfolding standing
standing-none e = ap standing e

module _ (p : Slot) (s : GridSearch) where
  -- a clause for each kind of change
  own_slot : (c : Change) (rows : List Row) → eqb (whose c) p.id ≡ true → standing (row_for p (effect s c rows)) ≡ placing s p.key c (standing (row_for p rows))
  unfolding whose effect rows_with placing
  own_slot (insert i x) rows e =
      ap standing (row_for-put_in i (position_of x) (targets s x) rows p)
      ∙ rw e (standing_cond (has p.key (targets s x)) (row_in i (position_of x) p.key) (row_for p rows))
  own_slot (strike i) rows e = standing-none (row_for-without i p rows ∙ rw (eq-eqb p.id i (sym (eqb-true i p.id e))))

  other_slot : (c : Change) (rows : List Row) → eqb (whose c) p.id ≡ false → row_for p (effect s c rows) ≡ row_for p rows
  other_slot c rows e = row_for-own p (effect s c rows) ∙ ap (row_for p) (other-effect s p.id c rows e) ∙ sym (row_for-own p rows)

  pub placed_last : (calls : List Call) (l : Holding) → standing (row_for p (rows_in (run s l calls))) ≡ placed s p.key (history p.id s l calls) (standing (row_for p (rows_in l)))
  unfolding run history step placed
  placed_last [] l = refl
  placed_last (search x ∷ calls) l = placed_last calls l
  placed_last (list q f lent ∷ calls) l = placed_last calls l
  placed_last (change c ∷ calls) l = go (placed_last calls) (fault (change_tests s l c)) refl
    where
      go : ((m : Holding) → standing (row_for p (rows_in (run s m calls))) ≡ placed s p.key (history p.id s m calls) (standing (row_for p (rows_in m))))
          → (v : Option ℕ) → fault (change_tests s l c) ≡ v
          → standing (row_for p (rows_in (run s l (change c ∷ calls)))) ≡ placed s p.key (history p.id s l (change c ∷ calls)) (standing (row_for p (rows_in l)))
      go ih (some n) e = rw (run_kept s l c calls n e, history_kept s l c calls n e p.id) (ih l)
      go ih none e =
          let t = ap (λ (rows : List Row). standing (row_for p rows)) (changed_table s l c) in
          let d = ih (changed s l c) in
          let h = history p.id s (changed s l c) calls in
          by_test (eqb (whose c) p.id)
          (λ f. rw (run_done s l c calls e, history-own s l c calls e p.id f) (d ∙ ap (placed s p.key h) (t ∙ own_slot c (rows_in l) f)))
          (λ f. rw (run_done s l c calls e, history-other s l c calls e p.id f) (d ∙ ap (placed s p.key h) (t ∙ ap standing (other_slot c (rows_in l) f))))
