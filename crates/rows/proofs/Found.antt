-- A position's tests, and the containers that a mark goes into, each once: what the code finds is what the definitions give.
-- Assumes nothing.
use Prim.Native.Nat.{ℕ, zero, suc, ◌+◌, ◌/◌, ◌^◌, ◌≤◌, ◌<◌}
use native.Mathlib.Numerals.{add-one}
use native.Mathlib.Omega.{arith}
use mathlib.Core.Path.{◌≡◌, refl, sym, ap, ◌∙◌, subst}
use mathlib.Core.Bool.{Bool, true, false, cond, not, ◌||◌, or-true, or-false, or_assoc}
use mathlib.Core.Option.{none, some}
use Rattle.std.specs.Prelude.{Option, Some, None}
use mathlib.Core.List.{List, [], ◌∷◌, ◌++◌, map}
use lib.Dec.{eqb}
use lib.ListN.{length, take, drop, set, drop_of_length-le, length-append}
use lib.Seq.{take-suc-set}
use lib.Ieee.{Float}
use borrow.Author.Tests.{eq-eqb, eqb-true}
use Rattle.basics.proofs.Bools.{by_test}
use Rattle.basics.specs.Lists.{all, any, keep, has, tab}
use Rattle.basics.proofs.Lists.{length-tab, drop-tab}
use Rattle.basics.specs.Refusals.{fault}
use Rattle.floats.specs.Rounded.{◌⊕◌, ◌⊖◌}
use Rattle.geometry.specs.declared.Position.{Position}
use Rattle.geometry.specs.Position.{coords, position_of, coordinate, dimension, box_corner}
use Rattle.geometry.proofs.Axes.{coords_of, coords-length}
use Rattle.grid.specs.declared.ContainerKey.{ContainerKey}
use Rattle.grid.specs.Divisions.{counts}
use Rattle.grid.specs.Containers.{outside, located}
use Rattle.grid_search.specs.declared.GridSearch.{GridSearch}
use Rattle.grid_search.specs.Sheet.{tolerance_of}
use Rattle.table.specs.declared.Row.{Row}
use Rattle.table.specs.Rows.{slot_of, sorted, put_in}
use Rattle.table.proofs.All.{sorted_all}
use Rattle.table.proofs.Ids.{rows_ext, row_for-put_in}
use Rattle.rows.specs.Insert.{outside_sheet, overshoots, container_of, corner, halo, points, targets, rows_with, position_tests}
use Rattle.rows.specs.Posts.{Divided, joined, look, look_all}

-- ---- 2, 3, 11

module _ (s : GridSearch) (x : List Float) where
  pub bad-length : eqb (length x) s.ndim ≡ false → fault (position_tests s x []) ≡ some 2
  unfolding position_tests fault any
  bad-length e = rw e

  pub bad_coordinates : length x ≡ s.ndim → all coordinate x ≡ false → fault (position_tests s x []) ≡ some 3
  unfolding position_tests fault any
  bad_coordinates l c = rw (eq-eqb (length x) s.ndim l, c)

  module _ (d : dimension s.ndim ≡ true) (l : length x ≡ s.ndim) (p : Position) (r : p ≡ position_of x) where
    -- the position as the code has it
    outside-is : outside (coords s.ndim s.xmin) (coords s.ndim s.xmax) (coords s.ndim p) ≡ outside_sheet s x
    unfolding outside_sheet
    outside-is = ap (outside (coords s.ndim s.xmin) (coords s.ndim s.xmax)) (coords_of s.ndim x p d l r)

    pub bad-place : all coordinate x ≡ true → outside (coords s.ndim s.xmin) (coords s.ndim s.xmax) (coords s.ndim p) ≡ true → fault (position_tests s x []) ≡ some 11
    unfolding position_tests fault any
    bad-place c o = rw (eq-eqb (length x) s.ndim l, c, sym outside-is ∙ o)

    pub placed : all coordinate x ≡ true → outside (coords s.ndim s.xmin) (coords s.ndim s.xmax) (coords s.ndim p) ≡ false → fault (position_tests s x []) ≡ none
    unfolding position_tests fault any
    placed c o = rw (eq-eqb (length x) s.ndim l, c, sym outside-is ∙ o)

-- ---- where a point falls

module _ (s : GridSearch) (p : List Float) where
  located-is : located (counts s.ndim s.ndiv) s.side_length (coords s.ndim s.xmin) p ≡ cond (overshoots s p) None (Some (record { 0 = container_of s p }))
  unfolding located overshoots container_of
  located-is = refl

  pub located-key : {key : ContainerKey} → located (counts s.ndim s.ndiv) s.side_length (coords s.ndim s.xmin) p ≡ Some key → (overshoots s p ≡ false) × (container_of s p ≡ key.0)
  located-key {key} e = by_test (overshoots s p) (λ b. absurd (no (sym (rw b at located-is) ∙ e))) (λ b. (b, same (sym (rw b at located-is) ∙ e)))
    where
      no : None ≡ Some key → ⊥
      no f = cc

      same : Some (record { 0 = container_of s p }) ≡ Some key → container_of s p ≡ key.0
      same f = cc

  pub located-not : located (counts s.ndim s.ndiv) s.side_length (coords s.ndim s.xmin) p ≡ None → overshoots s p ≡ true
  located-not e = by_test (overshoots s p) (λ b. b) (λ b. absurd (no (sym (rw b at located-is) ∙ e)))
    where
      no : ◌≡◌ {A = Option ContainerKey} (Some (record { 0 = container_of s p })) None → ⊥
      no f = cc

-- ---- one more point

pub joined-most : (ks : List ℕ) (k : ℕ) → length (joined ks k) ≤ length ks + 1
unfolding joined
joined-most ks k = by_test (has k ks) (λ e. rw e (omega arith)) (λ e. rw (e, length-append) (omega arith))

pub joined_old : (ks : List ℕ) (k : ℕ) → has k ks ≡ true → ks ≡ joined ks k
unfolding joined
joined_old ks k e = rw e

-- the first n of a list, and one written after them
pub joined_new : (l : List ℕ) (n k : ℕ) {ks : List ℕ} → n < length l → take n l ≡ ks → has k ks ≡ false → take (n + 1) (set l n k) ≡ joined ks k
unfolding joined
joined_new l n k {ks} h v e = rw (e, add-one) (take-suc-set l n k h ∙ ap (λ (r : List ℕ). r ++ k ∷ []) v)

module _ (s : GridSearch) (p : List Float) (ks : List ℕ) where
  pub look_outside : outside_sheet s p ≡ true → look s ks p ≡ Some ks
  unfolding look
  look_outside o = rw o

  pub look_exceeds : outside_sheet s p ≡ false → overshoots s p ≡ true → look s ks p ≡ None
  unfolding look
  look_exceeds o e = rw (o, e)

  pub look_joins : {key : ContainerKey} → outside_sheet s p ≡ false → (overshoots s p ≡ false) × (container_of s p ≡ key.0) → look s ks p ≡ Some (joined ks key.0)
  unfolding look
  look_joins o f = rw (o, f.0, f.1)

  pub look_most : {after : List ℕ} → look s ks p ≡ Some after → length after ≤ length ks + 1
  unfolding look
  look_most {after} e =
      by_test (outside_sheet s p) (λ o. same ks (omega arith) (rw o at e))
      (λ o. by_test (overshoots s p) (λ x. absurd (no (rw (o, x) at e))) (λ x. same (joined ks (container_of s p)) (joined-most ks (container_of s p)) (rw (o, x) at e)))
    where
      no : None ≡ Some after → ⊥
      no f = cc

      same : (ls : List ℕ) → length ls ≤ length ks + 1 → Some ls ≡ Some after → length after ≤ length ks + 1
      same ls h f = let g : ls ≡ after = cc in rw (← g) h

-- ---- the halo

-- a corner of the halo is that of the box from x - tolerance to x + tolerance, along the first n axes
pub halo-box : (t : Float) (n : ℕ) (x : List Float) (c : ℕ)
    → box_corner (take n (map (λ (a : Float). a ⊖ t) x)) (take n (map (λ (a : Float). a ⊕ t) x)) c ≡ corner t (take n x) c
unfolding box_corner corner
halo-box t zero x c = refl
halo-box t (suc n) [] c = refl
halo-box t (suc n) (a ∷ x) c = rw (halo-box t n x (c / 2))

-- ---- the walk over the halo, from the position's own container on

-- as many corners as there are signs along the axes in use
pub corners-along : (s : GridSearch) (p : Position) → Divided s → {n : ℕ} → n ≡ 2 ^ s.ndim → n ≡ 2 ^ length (coords s.ndim p)
corners-along s p d e = e ∙ ap (λ (m : ℕ). 2 ^ m) (sym (coords-length s.ndim p d.axes))

module _ (s : GridSearch) where
  look_none : (ps : List (List Float)) → look_all s None ps ≡ None
  unfolding look_all
  look_none [] = refl
  look_none (p ∷ ps) = refl

  look-next : (ks : List ℕ) (p : List Float) (ps : List (List Float)) → look_all s (Some ks) (p ∷ ps) ≡ look_all s (look s ks p) ps
  unfolding look_all
  look-next ks p ps = refl

  look_end : (ks : Option (List ℕ)) → look_all s ks [] ≡ ks
  unfolding look_all
  look_end ks = refl

-- what is left of the points, looked at with the containers found so far, gives what all of them give
module _ (s : GridSearch) (t : Float) (x : List Float) where
  abbrev whole : Option (List ℕ)
  whole = look_all s (Some []) (x ∷ halo t x)

  -- c corners are done
  pub record Looked (c : ℕ) (ks : List ℕ) : Type 0 where
    pub most : length ks ≤ c + 1
    pub rest : look_all s (Some ks) (drop c (halo t x)) ≡ whole

  pub looked_start : {ks : List ℕ} → look s [] x ≡ Some ks → Looked 0 ks
  looked_start e = record { most = look_most s x [] e; rest = sym (look-next s [] x (halo t x) ∙ ap (λ (o : Option (List ℕ)). look_all s o (halo t x)) e) }

  pub looked_stop : look s [] x ≡ None → None ≡ whole
  looked_stop e = sym (look-next s [] x (halo t x) ∙ ap (λ (o : Option (List ℕ)). look_all s o (halo t x)) e ∙ look_none s (halo t x))

  module _ {c : ℕ} {ks : List ℕ} (w : Looked c ks) where
    turn : c < 2 ^ length x → look_all s (look s ks (corner t x c)) (drop (c + 1) (halo t x)) ≡ whole
    unfolding halo
    turn h = sym (ap (look_all s (Some ks)) (drop-tab (2 ^ length x) (corner t x) c h) ∙ look-next s ks (corner t x c) (drop (suc c) (halo t x)) ∙ rw add-one) ∙ w.rest

    pub looked_again : {after : List ℕ} → c < 2 ^ length x → look s ks (corner t x c) ≡ Some after → Looked (c + 1) after
    looked_again h e = record {
      most = omega (arith, look_most s (corner t x c) ks e, w.most);
      rest = ap (λ (o : Option (List ℕ)). look_all s o (drop (c + 1) (halo t x))) (sym e) ∙ turn h;
    }

    pub looked_none : c < 2 ^ length x → look s ks (corner t x c) ≡ None → None ≡ whole
    looked_none h e = sym (look_none s (drop (c + 1) (halo t x))) ∙ ap (λ (o : Option (List ℕ)). look_all s o (drop (c + 1) (halo t x))) (sym e) ∙ turn h

    pub looked_end : 2 ^ length x ≤ c → Some ks ≡ whole
    unfolding halo
    looked_end h = sym (ap (look_all s (Some ks)) (drop_of_length-le (tab (2 ^ length x) (corner t x)) {i = c} (rw length-tab h)) ∙ look_end s (Some ks)) ∙ w.rest

-- ---- what the whole walk gives

abbrev pub inside : GridSearch → List Float → Bool
inside s p = not (outside_sheet s p)

unfoldable pub join_all : List ℕ → List ℕ → List ℕ
join_all ks [] = ks
join_all ks (j ∷ js) = join_all (joined ks j) js

pub look-all : (s : GridSearch) (ps : List (List Float)) (ks : List ℕ)
    → look_all s (Some ks) ps ≡ cond (any (overshoots s) (keep (inside s) ps)) None (Some (join_all ks (map (container_of s) (keep (inside s) ps))))
unfolding look_all look keep any join_all
look-all s [] ks = refl
look-all s (p ∷ ps) ks =
    by_test (outside_sheet s p) (λ o. rw o (look-all s ps ks))
    (λ o. by_test (overshoots s p) (λ e. rw (o, e) (look_none s ps)) (λ e. rw (o, e) (look-all s ps (joined ks (container_of s p)))))

-- the containers, each once, are those of the list

has-append : (k : ℕ) (ks : List ℕ) (j : ℕ) → has k (ks ++ j ∷ []) ≡ (has k ks || eqb j k)
unfolding has
has-append k [] j = or-false (eqb j k)
has-append k (i ∷ ks) j = ap (λ (b : Bool). eqb i k || b) (has-append k ks j) ∙ sym (or_assoc (eqb i k) (has k ks) (eqb j k))

has-joined : (k : ℕ) (ks : List ℕ) (j : ℕ) → has k (joined ks j) ≡ (has k ks || eqb j k)
unfolding joined
has-joined k ks j =
    by_test (has j ks)
    (λ h. by_test (eqb j k)
    (λ e. rw (h, e, or-true) (subst (λ (i : ℕ). has i ks ≡ true) (eqb-true j k e) h))
    (λ e. rw (h, e, or-false)))
    (λ h. rw h (has-append k ks j))

has_join : (k : ℕ) (js ks : List ℕ) → has k (join_all ks js) ≡ (has k ks || has k js)
unfolding join_all has
has_join k [] ks = sym (or-false (has k ks))
has_join k (j ∷ js) ks = has_join k js (joined ks j) ∙ ap (λ (b : Bool). b || has k js) (has-joined k ks j) ∙ or_assoc (has k ks) (eqb j k) (has k js)

-- a mark in them is a mark in each container of the list
pub same_rows : (id : ℕ) (at : Position) (ks js : List ℕ) (rows : List Row) → sorted (map slot_of rows) ≡ true → ((k : ℕ) → has k ks ≡ has k js) → put_in id at ks rows ≡ put_in id at js rows
same_rows id at ks js rows o h =
    rows_ext (put_in id at ks rows) (put_in id at js rows) (sorted_all id at ks rows o) (sorted_all id at js rows o)
    (λ p. row_for-put_in id at ks rows p ∙ rw (h p.key) (sym (row_for-put_in id at js rows p)))

module _ (s : GridSearch) (x : List Float) (o : outside_sheet s x ≡ false) where
  found-is : look_all s (Some []) (x ∷ halo (tolerance_of s.tolerance) x) ≡ cond (any (overshoots s) (points s x)) None (Some (join_all [] (targets s x)))
  unfolding points targets keep
  found-is = look-all s (x ∷ halo (tolerance_of s.tolerance) x) [] ∙ rw o

  pub found_none : look_all s (Some []) (x ∷ halo (tolerance_of s.tolerance) x) ≡ None → any (overshoots s) (points s x) ≡ true
  found_none e = by_test (any (overshoots s) (points s x)) (λ b. b) (λ b. absurd (no (sym (rw b at found-is) ∙ e)))
    where
      no : Some (join_all [] (targets s x)) ≡ None → ⊥
      no g = cc

  module _ {ks : List ℕ} (f : look_all s (Some []) (x ∷ halo (tolerance_of s.tolerance) x) ≡ Some ks) where
    found_some : (any (overshoots s) (points s x) ≡ false) × (join_all [] (targets s x) ≡ ks)
    found_some = by_test (any (overshoots s) (points s x)) (λ b. absurd (no (sym (rw b at found-is) ∙ f))) (λ b. (b, same (sym (rw b at found-is) ∙ f)))
      where
        no : None ≡ Some ks → ⊥
        no g = cc

        same : Some (join_all [] (targets s x)) ≡ Some ks → join_all [] (targets s x) ≡ ks
        same g = cc

    pub none_exceeds : any (overshoots s) (points s x) ≡ false
    none_exceeds = found_some.0

    -- the rows that the code's list gives are the definition's
    pub found_rows : (i : ℕ) (rows : List Row) → sorted (map slot_of rows) ≡ true → put_in i (position_of x) ks rows ≡ rows_with s i x rows
    unfolding rows_with has
    found_rows i rows q = same_rows i (position_of x) ks (targets s x) rows q (λ k. ap (has k) (sym found_some.1) ∙ has_join k (targets s x) [])
