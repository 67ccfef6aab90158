-- Two libraries, of which the second holds what the first holds of one id, go on so when the first takes any call and the second that id's accepted changes.
use Prim.Native.Nat.{ℕ}
use mathlib.Core.Path.{◌≡◌, refl, sym, ◌∙◌, ap}
use mathlib.Core.Bool.{true, false}
use mathlib.Core.Option.{Option, none, some}
use mathlib.Core.List.{List, [], ◌∷◌, map}
use lib.Dec.{eqb}
use Rattle.basics.proofs.Bools.{by_test, both}
use Rattle.basics.specs.Lists.{all}
use Rattle.basics.specs.Refusals.{fault, is_none}
use Rattle.grid_search.specs.declared.GridSearch.{GridSearch}
use Rattle.table.specs.Rows.{own}
use Rattle.independence.proofs.Holdings.{order_in}
use Rattle.independence.specs.Holdings.{Holding, rows_in, lent, holding_tests}
use Rattle.independence.specs.Run.{Change, Call, change, search, list, step, accepted, run, replies}
use Rattle.independence.specs.Histories.{whose, history, effect}
use Rattle.independence.proofs.Changes.{change_tests, changed, step_done, other-effect, own-effect, changed_table, changed_space, changed_passes, accepts_too}
use Rattle.independence.proofs.Added.{history-own, history-other, history_kept}
use Rattle.independence.proofs.Runs.{run_done, replies_done, run_kept}

-- the second library holds what the first holds of the id
pub record Related (i : ℕ) (s : GridSearch) (l l' : Holding) : Type 0 where
  pub one : fault (holding_tests s l) ≡ none
  pub two : fault (holding_tests s l') ≡ none
  pub size : lent l ≡ lent l'
  pub rows : own i (rows_in l) ≡ rows_in l'

module _ (i : ℕ) (s : GridSearch) where
  -- ---- one change

  module _ (l l' : Holding) (R : Related i s l l') (c : Change) (q : fault (change_tests s l c) ≡ none) where
    one_changes : eqb (whose c) i ≡ false → Related i s (changed s l c) l'
    one_changes e = record {
      one = changed_passes s l c q;
      two = R.two;
      size = changed_space s l c q ∙ R.size;
      rows = rw (changed_table s l c) (other-effect s i c (rows_in l) e ∙ R.rows);
    }

    too : eqb (whose c) i ≡ true → fault (change_tests s l' c) ≡ none
    too e = accepts_too s l l' R.two R.size i c e R.rows q

    both-change : eqb (whose c) i ≡ true → Related i s (changed s l c) (changed s l' c)
    both-change e = record {
      one = changed_passes s l c q;
      two = changed_passes s l' c (too e);
      size = changed_space s l c q ∙ R.size ∙ sym (changed_space s l' c (too e));
      rows = rw (changed_table s l c, changed_table s l' c) (own-effect s i c (rows_in l) e (order_in s l R.one) ∙ ap (effect s c) R.rows);
    }

  -- ---- every list of calls

  pub record Claim (l l' : Holding) (calls : List Call) : Type 0 where
    pub accepts : all accepted (replies s l' (map change (history i s l calls))) ≡ true
    pub related : Related i s (run s l calls) (run s l' (map change (history i s l calls)))

  module _ (c : Change) (calls : List Call) (l l' : Holding) (R : Related i s l l') (ih : (m m' : Holding) → Related i s m m' → Claim m m' calls) where
    claim_own : fault (change_tests s l c) ≡ none → eqb (whose c) i ≡ true → Claim l l' (change c ∷ calls)
    claim_own e f =
        let d = ih _ _ (both-change l l' R c e f) in
        let e' = too l l' R c e f in
        let h = map change (history i s (changed s l c) calls) in
        record {
          accepts = rw (history-own s l c calls e i f, replies_done s l' c h e') (unfold all accepted is_none in both (ap is_none (step_done s l' c e').1) d.accepts);
          related = rw (history-own s l c calls e i f, run_done s l c calls e, run_done s l' c h e') d.related;
        }

    claim_other : fault (change_tests s l c) ≡ none → eqb (whose c) i ≡ false → Claim l l' (change c ∷ calls)
    claim_other e f =
        let d = ih _ _ (one_changes l l' R c e f) in
        record { accepts = rw (history-other s l c calls e i f) d.accepts; related = rw (history-other s l c calls e i f, run_done s l c calls e) d.related }

    claim_kept : (n : ℕ) → fault (change_tests s l c) ≡ some n → Claim l l' (change c ∷ calls)
    claim_kept n e =
        let d = ih l l' R in
        record { accepts = rw (history_kept s l c calls n e i) d.accepts; related = rw (history_kept s l c calls n e i, run_kept s l c calls n e) d.related }

    claim_change : (o : Option ℕ) → fault (change_tests s l c) ≡ o → Claim l l' (change c ∷ calls)
    claim_change none e = by_test (eqb (whose c) i) (claim_own e) (claim_other e)
    claim_change (some n) e = claim_kept n e

  pub claim : (calls : List Call) (l l' : Holding) → Related i s l l' → Claim l l' calls
  unfolding run history replies step all
  claim [] l l' R = record { accepts = refl; related = R }
  claim (search x ∷ calls) l l' R = let d = claim calls l l' R in record { accepts = d.accepts; related = d.related }
  claim (list p f lent ∷ calls) l l' R = let d = claim calls l l' R in record { accepts = d.accepts; related = d.related }
  claim (change c ∷ calls) l l' R = claim_change c calls l l' R (claim calls) (fault (change_tests s l c)) refl
