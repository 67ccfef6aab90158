-- What the distances to a line answer past the tests of their lists. Assumes nothing.
use Rattle.std.proofs.Common.{ℕ, ◌≡◌, ◌∙◌, sym, true, ◌&&◌, List, [], ◌∷◌, eqb, length, eq-eqb, eqb-true, Float}
use Rattle.basics.proofs.Bools.{and_left, and_right}
use Rattle.basics.specs.Lists.{all}
use Rattle.basics.specs.Refusals.{refuse, fault, Answer, answer, through}
use Rattle.basics.proofs.Refusals.{through-answer}
use Rattle.floats.specs.Rounded.{◌⊖◌}
use Rattle.geometry.specs.declared.Position.{Position}
use Rattle.geometry.specs.Position.{coords, position_of, dimension, coordinate}
use Rattle.geometry.specs.Distances.{too_close, point_line, point_line_answer, point_cylinder_answer}
use Rattle.geometry.proofs.Axes.{coords_of}

-- the distance to the line through a and b, or the refusal 15
abbrev pub to_line : List Float → List Float → List Float → Answer Float
to_line a b c = answer (fault (refuse 15 (too_close a b) ∷ [])) (point_line a b c)

-- three lists and the positions made of them
pub record Placed (n : ℕ) (a b c : List Float) (pa pb pc : Position) : Type 0 where
  pub axes : dimension n ≡ true
  pub length-a : length a ≡ n
  pub lengths : (eqb (length b) n && eqb (length c) n) ≡ true
  pub at-a : pa ≡ position_of a
  pub at-b : pb ≡ position_of b
  pub at-c : pc ≡ position_of c

module _ {n : ℕ} {a b c : List Float} {pa pb pc : Position} (P : Placed n a b c pa pb pc) where
  abbrev A : List Float
  A = coords n pa

  abbrev B : List Float
  B = coords n pb

  abbrev C : List Float
  C = coords n pc

  is_a : A ≡ a
  is_a = coords_of n a pa P.axes P.length-a P.at-a

  is_b : B ≡ b
  is_b = coords_of n b pb P.axes (eqb-true (length b) n (and_left (eqb (length b) n) (eqb (length c) n) P.lengths)) P.at-b

  is_c : C ≡ c
  is_c = coords_of n c pc P.axes (eqb-true (length c) n (and_right (eqb (length b) n) (eqb (length c) n) P.lengths)) P.at-c

  pub line_past : (all coordinate A && (all coordinate B && all coordinate C)) ≡ true → to_line A B C ≡ point_line_answer a b c
  unfolding point_line_answer
  line_past k =
      let judged = rw (is_a, is_b, is_c) at k in
      rw (is_a, is_b, is_c) (sym (past judged))
    where
      past : (all coordinate a && (all coordinate b && all coordinate c)) ≡ true → point_line_answer a b c ≡ to_line a b c
      past h = rw (P.length-a, P.axes, P.lengths, h)

  pub cylinder_past : n ≡ 3 → (radius : Float) → (all coordinate A && (all coordinate B && (coordinate radius && all coordinate C))) ≡ true
      → through (λ (d : Float). d ⊖ radius) (to_line A B C) ≡ point_cylinder_answer a b radius c
  unfolding point_cylinder_answer
  cylinder_past e radius k =
      let judged = rw (is_a, is_b, is_c) at k in
      rw (is_a, is_b, is_c) (through-answer (λ (d : Float). d ⊖ radius) (fault (refuse 15 (too_close a b) ∷ [])) (point_line a b c) ∙ sym (past judged))
    where
      past : (all coordinate a && (all coordinate b && (coordinate radius && all coordinate c))) ≡ true
          → point_cylinder_answer a b radius c ≡ answer (fault (refuse 15 (too_close a b) ∷ [])) (point_line a b c ⊖ radius)
      past h = rw (P.length-a, P.axes, eq-eqb n 3 e, P.lengths, h)
