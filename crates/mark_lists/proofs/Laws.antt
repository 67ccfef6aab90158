-- Laws of marks in lent lists: the marks in use, the room that they have, what a write leaves, and one mark written after others.
-- Assumes nothing.
use Prim.Native.Nat.{ℕ, suc, ◌+◌, ◌≤◌, ◌<◌}
use native.Mathlib.Nat.{le_of_suc-le-suc, not-suc-le-zero}
use native.Mathlib.Omega.{arith}
use mathlib.Core.Path.{◌≡◌, refl, sym, ap, ◌∙◌}
use mathlib.Core.Bool.{true}
use mathlib.Core.List.{List, [], ◌∷◌, ◌++◌, map, map-append}
use lib.ListN.{length, get_or, take, drop, set, length-map, length-append}
use lib.Seq.{length-take-le}
use Rattle.std.proofs.lemmas.List.{take_more}
use lib.Ieee.{Float}
use Rattle.basics.specs.Lists.{over}
use Rattle.basics.proofs.Lists.{length-tab, get_or-tab, drop-tab}
use Rattle.table.proofs.Libraries.{long, length_over}
use Rattle.records.specs.declared.Record.{Record}
use Rattle.mark_lists.specs.MarkLists.{MarkList, mark_list, mark_at, marks_in, write_marks, mark_lengths, same_lengths, holds}
use Rattle.mark_lists.specs.Posts.{Room, pushed}

-- ---- the marks in use

module _ (l : MarkList) where
  pub length-marks : length (marks_in l) ≡ l.used
  unfolding marks_in
  length-marks = length-tab l.used (mark_at l)

  pub mark_in_lem : (i : ℕ) (d : Record) → i < l.used → get_or (marks_in l) i d ≡ mark_at l i
  unfolding marks_in
  mark_in_lem i d h = get_or-tab l.used (mark_at l) i d h

  pub marks-from : (i : ℕ) → i < l.used → drop i (marks_in l) ≡ mark_at l i ∷ drop (suc i) (marks_in l)
  unfolding marks_in
  marks-from i h = drop-tab l.used (mark_at l) i h

  pub no_marks : l.used ≡ 0 → marks_in l ≡ []
  unfolding marks_in
  no_marks e = rw e

  -- ---- the room that was lent

  pub room : (n : ℕ) → same_lengths l ≡ true → holds l n ≡ true → Room l n
  unfolding same_lengths holds
  room n e h = long (mark_lengths l) n e h

-- ---- what a write leaves

marks-over : (marks : List Record) (a : List ℕ) (b c d : List Float)
    → marks_in (mark_list (map (λ (m : Record). m.id) marks ++ a) (map (λ (m : Record). m.x) marks ++ b)
    (map (λ (m : Record). m.y) marks ++ c) (map (λ (m : Record). m.z) marks ++ d) (length marks)) ≡ marks
unfolding marks_in
marks-over [] a b c d = refl
marks-over (m ∷ marks) a b c d = ap (λ (l : List Record). m ∷ l) (marks-over marks a b c d)

-- what is written is what is then in use
pub marks-written : (marks : List Record) (l : MarkList) → marks_in (write_marks marks l) ≡ marks
unfolding write_marks over
marks-written marks l = marks-over marks _ _ _ _

pub used-written : (marks : List Record) (l : MarkList) → (write_marks marks l).used ≡ length marks
unfolding write_marks
used-written marks l = refl

-- the lists keep their lengths, where there is room
pub lengths-written : (marks : List Record) (l : MarkList) → Room l (length marks) → mark_lengths (write_marks marks l) ≡ mark_lengths l
unfolding write_marks
lengths-written marks l h =
    rw (kept (λ (m : Record). m.id) l.ids h.0, kept (λ (m : Record). m.x) l.xs h.1.0, kept (λ (m : Record). m.y) l.ys h.1.1.0, kept (λ (m : Record). m.z) l.zs h.1.1.1.0)
  where
    kept : {A : Type 0} (f : Record → A) (c : List A) → length marks ≤ length c → length (over (map f marks) c) ≡ length c
    kept f c g = length_over (map f marks) c (omega (arith, length-map marks f))

-- ---- one mark after the other

-- none is written yet
pub none_written : (l : MarkList) → mark_list l.ids l.xs l.ys l.zs 0 ≡ write_marks [] l
unfolding write_marks over
none_written l = refl

-- one list: an entry past the front that is written
over_more : {A : Type 0} (vs c : List A) (v : A) → length vs < length c → set (over vs c) (length vs) v ≡ over (vs ++ v ∷ []) c
unfolding over
over_more [] [] v h = absurd (not-suc-le-zero h)
over_more [] (x ∷ c) v h = refl
over_more (w ∷ vs) [] v h = absurd (not-suc-le-zero h)
over_more {A} (w ∷ vs) (x ∷ c) v h = ap (λ (r : List A). w ∷ r) (over_more vs c v (le_of_suc-le-suc h))

-- a mark behind those that stand
pub one_more : (marks : List Record) (m : Record) (l : MarkList) → Room l (length marks + 1) → pushed m (write_marks marks l) ≡ write_marks (marks ++ m ∷ []) l
unfolding write_marks
one_more marks m l h = λ k. mark_list
    (stored (λ (r : Record). r.id) l.ids h.0 k)
    (stored (λ (r : Record). r.x) l.xs h.1.0 k)
    (stored (λ (r : Record). r.y) l.ys h.1.1.0 k)
    (stored (λ (r : Record). r.z) l.zs h.1.1.1.0 k)
    (sym (length-append marks (m ∷ [])) k)
  where
    stored : {A : Type 0} (f : Record → A) (c : List A) → length marks + 1 ≤ length c → set (over (map f marks) c) (length marks) (f m) ≡ over (map f (marks ++ m ∷ [])) c
    stored {A} f c g =
        ap (λ (j : ℕ). set (over (map f marks) c) j (f m)) (sym (length-map marks f))
        ∙ over_more (map f marks) c (f m) (omega (arith, length-map marks f))
        ∙ ap (λ (r : List A). over r c) (sym (map-append f marks (m ∷ [])))

-- the same along a list of marks, of which the first i stand
pub next-written : (marks : List Record) (d : Record) (l : MarkList) (i : ℕ) → i < length marks → Room l (i + 1)
    → pushed (get_or marks i d) (write_marks (take i marks) l) ≡ write_marks (take (i + 1) marks) l
next-written marks d l i h g =
    let n : length (take i marks) ≡ i = length-take-le i marks (omega arith) in
    one_more (take i marks) (get_or marks i d) l (rw n g) ∙ ap (λ (ms : List Record). write_marks ms l) (sym (take_more marks i d h))
