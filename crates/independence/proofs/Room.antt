-- The room of rows that are struck off: an insertion that lacked it, and nothing else, is accepted once it has it.
use Prim.Native.Nat.{ℕ, ◌+◌}
use native.Mathlib.Omega.{arith}
use mathlib.Core.Path.{◌≡◌, refl, sym, ◌∙◌, ap}
use mathlib.Core.Bool.{Bool, true, false, not, ◌&&◌}
use mathlib.Core.Option.{Option, none}
use mathlib.Core.List.{List, [], ◌∷◌, ◌++◌, map, append_assoc}
use lib.Dec.{eqb}
use lib.ListN.{length}
use lib.Ieee.{Float}
use Rattle.basics.specs.Lists.{all}
use Rattle.basics.specs.Refusals.{Test, Answer, refused, refuse, fault, answer}
use Rattle.basics.proofs.Refusals.{fault-right}
use Rattle.geometry.specs.Position.{position_of}
use Rattle.grid_search.specs.declared.GridSearch.{GridSearch}
use Rattle.table.specs.declared.Row.{Row}
use Rattle.table.specs.Rows.{slot_of, sorted, own, without}
use Rattle.table.proofs.Ids.{other-put_in, length_parts, without-put_in, own_gone}
use Rattle.table.specs.Library.{space, fits, roomy}
use Rattle.rows.specs.Insert.{points, targets, rows_with, position_tests, room_tests}
use Rattle.strike.proofs.Kept.{struck-used}
use Rattle.directory.specs.Entries.{directory_of}
use Rattle.independence.specs.Holdings.{Holding, rows_in, Lent, places_of, lent, roomy_in, holding_tests}
use Rattle.independence.specs.Run.{insert, strike, change, counted, step}
use Rattle.independence.specs.Histories.{effect}
use Rattle.independence.specs.Claims.{Freeing, Vanishing}
use Rattle.independence.proofs.Holdings.{places_tests, order_in}
use Rattle.independence.proofs.Plain.{plain_tests, counting, left}
use Rattle.independence.proofs.Changes.{own_tests, change_tests, changed, fit, step_done, changed_table, changed_space, changed_passes}
use Rattle.independence.proofs.Replies.{value_of_lem, refusal_of, reply_is}
use Rattle.independence.proofs.Damage.{clean, says, came_later}
use Rattle.independence.proofs.Alike.{near_nothing, on_nothing}

counted_same : {a b : Answer ℕ} → counted a ≡ counted b → a ≡ b
counted_same e = cc

-- ---- an insertion that lacked room, on a library of the same space

no_12 : (s : GridSearch) (x : List Float) (looked : List (List Float)) → clean (says 12) (position_tests s x looked) ≡ true
unfolding clean all position_tests says
no_12 s x looked = refl

-- room for the rows, and room for their directory, are judged as one
two_rooms : (a b : Bool) → fault (refuse 12 (not a) ∷ refuse 12 (not b) ∷ []) ≡ fault (refuse 12 (not (a && b)) ∷ [])
unfolding fault
two_rooms true b = refl
two_rooms false true = refl
two_rooms false false = refl

module _ (s : GridSearch) (j : ℕ) (x : List Float) where
  -- its tests are those of the position, and room
  abbrev room_last : Holding → List Test
  room_last h = room_tests h.library (rows_with s j x (rows_in h)) ++ places_tests h.directory (rows_with s j x (rows_in h))

  insert-own : (h : Holding) → own_tests s h (insert j x) ≡ position_tests s x (points s x) ++ room_last h
  unfolding own_tests plain_tests effect
  insert-own h = append_assoc (position_tests s x (points s x)) (room_tests h.library (rows_with s j x (rows_in h))) (places_tests h.directory (rows_with s j x (rows_in h)))

  room_decides : (h : Holding) → fault (room_last h) ≡ fault (refuse 12 (not (roomy_in (lent h) (rows_with s j x (rows_in h)))) ∷ [])
  unfolding room_tests places_tests roomy space lent roomy_in
  room_decides h =
      let rows = rows_with s j x (rows_in h) in
      two_rooms (roomy (space h.library) rows) (fits (places_of h.directory) (length (directory_of rows)))

  past-library : (h : Holding) → fault (holding_tests s h) ≡ none → fault (change_tests s h (insert j x)) ≡ fault (position_tests s x (points s x) ++ room_last h)
  unfolding change_tests
  past-library h v = fault-right (holding_tests s h) (own_tests s h (insert j x)) v ∙ ap fault (insert-own h)

  -- its position is good
  position_passes : (h : Holding) → fault (holding_tests s h) ≡ none → (step s h (change (insert j x))).reply ≡ counted (refused 12) → fault (position_tests s x (points s x)) ≡ none
  position_passes h v e =
      let f = refusal_of (fault (change_tests s h (insert j x))) (counting s (insert j x) (rows_in h)) (counted_same (sym (reply_is s h (insert j x)) ∙ e)) in
      came_later 12 (position_tests s x (points s x)) (room_last h) (no_12 s x (points s x)) (sym (past-library h v) ∙ f)

  -- so room decides
  by_room : (m : Holding) → fault (holding_tests s m) ≡ none → fault (position_tests s x (points s x)) ≡ none
      → (z : Lent) → lent m ≡ z → (b : Bool) → roomy_in z (rows_with s j x (rows_in m)) ≡ b
      → (step s m (change (insert j x))).reply ≡ counted (answer (fault (refuse 12 (not b) ∷ [])) (length (rows_with s j x (rows_in m))))
  unfolding counting
  by_room m v p z q b e =
      reply_is s m (insert j x)
      ∙ ap (λ (o : Option ℕ). counted (answer o (length (rows_with s j x (rows_in m)))))
      (past-library m v ∙ fault-right (position_tests s x (points s x)) (room_last m) p ∙ room_decides m
      ∙ ap (λ (b : Bool). fault (refuse 12 (not b) ∷ [])) (ap (λ (u : Lent). roomy_in u (rows_with s j x (rows_in m))) q ∙ e))

  -- ---- how many rows it needs without those of another id

  fewer : (i : ℕ) (rows : List Row) → sorted (map slot_of rows) ≡ true → eqb j i ≡ false
      → length (rows_with s j x (without i rows)) + length (own i rows) ≡ length (rows_with s j x rows)
  unfolding rows_with
  fewer i rows o e =
      let left = without-put_in i j (position_of x) (targets s x) rows e o in
      let gone = other-put_in i j (position_of x) (targets s x) rows e in
      omega (arith, length_parts i (rows_with s j x rows), ap length left, ap length gone)

-- ---- after a striking

pub freed : Freeing
unfolding counting left effect fault answer
freed s l i n j x a r =
    let d = value_of_lem (fault (change_tests s l (strike i))) (counting s (strike i) (rows_in l)) (counted_same (sym (reply_is s l (strike i)) ∙ a)) in
    let v = fit s l (strike i) d.0 in
    let m = changed s l (strike i) in
    let k = (step_done s l (strike i) d.0).0 in
    let z = changed_space s l (strike i) d.0 in
    let t = changed_table s l (strike i) in
    let reply = by_room s j x m (changed_passes s l (strike i) d.0) (position_passes s j x l v r) (lent l) z in
    rw k (record {
      as_lent = z;
      more_free = omega (arith, struck-used l.library i, d.1);
      accepts = reply true;
      refuses = reply false;
      needs_less = λ e. rw t (omega (arith, fewer s j x i (rows_in l) (order_in s l v) e, d.1));
    })

pub vanished : Vanishing
unfolding effect
vanished s l i n a =
    let d = value_of_lem (fault (change_tests s l (strike i))) (counting s (strike i) (rows_in l)) (counted_same (sym (reply_is s l (strike i)) ∙ a)) in
    let m = (step s l (change (strike i))).holding in
    let e : own i (rows_in m) ≡ [] =
    ap (λ (k : Holding). own i (rows_in k)) (step_done s l (strike i) d.0).0 ∙ ap (own i) (changed_table s l (strike i)) ∙ own_gone i (rows_in l) in
    record { no_row = e; near_nothing = near_nothing i s m e; on_nothing = on_nothing i s m e }
