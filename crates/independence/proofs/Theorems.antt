-- Demand 3: a proof of each claim of specs/Claims.antt.
use Prim.Native.Nat.{ℕ}
use mathlib.Core.Path.{◌≡◌, refl, sym, ◌∙◌, ap}
use mathlib.Core.Bool.{true}
use mathlib.Core.Option.{Option, none, some, some-ne-none}
use mathlib.Core.List.{List, [], ◌∷◌, ◌++◌, map}
use Rattle.basics.specs.Lists.{all, keep}
use Rattle.basics.specs.Refusals.{fault, is_none}
use Rattle.table.specs.declared.Row.{Row}
use Rattle.table.specs.Rows.{slot_of, sorted, row_for, own}
use Rattle.table.proofs.Ids.{own-own, own_ext}
use Rattle.table.proofs.Libraries.{empty_table}
use Rattle.grid_search.specs.declared.GridSearch.{GridSearch}
use Rattle.independence.proofs.Holdings.{order_in, empty_in, empty_too}
use Rattle.independence.specs.Holdings.{Holding, rows_in, holding_tests}
use Rattle.independence.specs.Run.{Change, step, run, replies}
use Rattle.independence.specs.Histories.{history, built, placed}
use Rattle.independence.specs.Claims.{Empty, replay, Alike, Independence, Unmoved, Permanence, Soundness, Start, standing, Rows, Answers, Meaning, Freeing, Vanishing, SameThrough, UpToDate}
use Rattle.independence.specs.Queries.{pass}
use Rattle.independence.proofs.Replies.{same-reply}
use Rattle.independence.proofs.Runs.{stays, no_history, run-two, replies-two}
use Rattle.independence.proofs.Independent.{claim}
use Rattle.independence.proofs.Alike.{same-near, same-on}
use Rattle.independence.proofs.Histories.{order_kept, made, placed_last}
use Rattle.independence.proofs.Damage.{space_kept, tests_kept, blameless-run, refused-step}
use Rattle.independence.proofs.Answers.{finding, writing}
use Rattle.independence.proofs.Room.{freed, vanished}
use Rattle.independence.proofs.Through.{same-through, up_to_date}

-- ---- empty libraries

module _ (l : Holding) (e : Empty l) where
  nothing_yet : rows_in l ≡ []
  nothing_yet = empty_table l.library e.none_used

  in_order : sorted (map slot_of (rows_in l)) ≡ true
  unfolding sorted
  in_order = rw nothing_yet

  no_own : (i : ℕ) → own i (rows_in l) ≡ []
  unfolding own keep
  no_own i = rw nothing_yet

-- ---- 4

pub rows_of_histories : Rows
unfolding row_for standing
rows_of_histories s l e calls =
    let order = order_kept s calls l (in_order l e) in
    let of_id : (i : ℕ) → own i (rows_in (run s l calls)) ≡ built s (history i s l calls) [] =
    λ i. made i s calls l (in_order l e) ∙ ap (built s (history i s l calls)) (no_own l e i) in
    record {
      order = order;
      of_id = of_id;
      of_slot = λ p. placed_last p s calls l ∙ ap (λ (rows : List Row). placed s p.key (history p.id s l calls) (standing (row_for p rows))) (nothing_yet l e);
      only = λ rows o h. own_ext rows (rows_in (run s l calls)) o order (λ i. h i ∙ sym (of_id i));
    }

-- ---- 3

pub run_sound : Soundness
run_sound s l v calls = record { passes = tests_kept s calls l v; same_space = space_kept s calls l; blameless = blameless-run s calls l v }

pub start : Start
start s l k v w t e = empty_in s l e.none_used e.no_place k v w t

-- ---- 1

-- libraries that both pass, or both fail
alike : (s : GridSearch) (l l' : Holding) {o o' : Option ℕ} → fault (holding_tests s l) ≡ o → fault (holding_tests s l') ≡ o'
    → is_none o ≡ is_none o' → pass (holding_tests s l) ≡ pass (holding_tests s l')
unfolding pass
alike s l l' e e' h = ap is_none e ∙ h ∙ sym (ap is_none e')

pub independent : Independence
unfolding run replies all is_none
independent s l l' e e' z calls i = go (fault (holding_tests s l)) refl (fault (holding_tests s l')) refl
  where
    alone : own i (rows_in l) ≡ rows_in l'
    alone = no_own l e i ∙ sym (nothing_yet l' e')

    go : (o : Option ℕ) → fault (holding_tests s l) ≡ o → (o' : Option ℕ) → fault (holding_tests s l') ≡ o' → Alike s l l' calls i
    go none v none v' =
        let c = claim i s calls l l' (record { one = v; two = v'; size = z; rows = alone }) in
        let R = c.related in
        let t = alike s (run s l calls) (run s l' (replay i s l calls)) R.one R.two refl in
        let r = sym (own-own i (rows_in (run s l calls))) ∙ ap (own i) R.rows in
        record { accepts = c.accepts; rows = sym R.rows; near_alike = same-near i s _ _ t r; on_alike = same-on i s _ _ t r }
    go (some n) u (some m) u' =
        let h = stays s l n u calls in
        let t = alike s l l' u u' refl in
        let r : own i (rows_in l) ≡ own i (rows_in l') = no_own l e i ∙ sym (no_own l' e' i) in
        record {
          accepts = rw (h.1 i);
          rows = rw (h.1 i, h.0) (sym alone);
          near_alike = λ x. rw (h.1 i, h.0) (same-near i s l l' t r x);
          on_alike = λ p f. rw (h.1 i, h.0) (same-on i s l l' t r p f);
        }
    go none v (some m) u' = absurd (some-ne-none m (sym u' ∙ empty_too s l' e'.none_used e'.no_place l z v))
    go (some n) u none v' = absurd (some-ne-none n (sym u ∙ empty_too s l e.none_used e.no_place l' (sym z) v'))

-- ---- 2

pub later : Permanence
unfolding built
later s l calls i h = go (fault (holding_tests s l)) refl
  where
    go : (o : Option ℕ) → fault (holding_tests s l) ≡ o → Unmoved s l calls i
    go none v =
        let t = alike s (run s l calls) l (tests_kept s calls l v) v refl in
        let r : own i (rows_in (run s l calls)) ≡ own i (rows_in l) = made i s calls l (order_in s l v) ∙ ap (λ (c : List Change). built s c (own i (rows_in l))) (no_history i s calls l h) in
        record { near_still = same-near i s (run s l calls) l t r; on_still = same-on i s (run s l calls) l t r }
    go (some n) u =
        let k = (stays s l n u calls).0 in
        record { near_still = λ x. rw k; on_still = λ p f. rw k }

-- ---- 5

pub answered : Answers
unfolding run replies
answered s l e before c after = record {
  in_turn = replies-two s before (c ∷ after) l ∙ ap (λ (m : Holding). replies s l before ++ (step s (run s l before) c).reply ∷ replies s m after) (sym (run-two s before (c ∷ []) l));
  by_rows = λ m z v h.
      let u = tests_kept s before l (empty_too s l e.none_used e.no_place m z v) in
      same-reply s (run s l before) m u v (space_kept s before l ∙ sym z) (sym ((rows_of_histories s l e before).only (rows_in m) (order_in s m v) h)) c;
  turned_away = λ n u. rw (stays s l n u before).0 (refused-step s l n u c);
}

-- ---- 6

pub meaning : Meaning
meaning s l = (finding s l, writing s l)

-- ---- 7

pub freeing : Freeing
freeing = freed

-- ---- 8

pub vanishing : Vanishing
vanishing = vanished

-- ---- 9

pub through : SameThrough
through = same-through

pub afresh : UpToDate
afresh = up_to_date
