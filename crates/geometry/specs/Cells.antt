-- Module 9: the coordinates of a point in a triangle or a tetrahedron, operation by operation as in the Rust text, and the inside test.
-- Assumes nothing.
use Rattle.std.specs.Prelude.{ℕ, Bool, not, List, [], ◌∷◌, take, Float}
use Rattle.std.specs.Float.Ieee.{lt}
use Rattle.basics.specs.Lists.{any}
use Rattle.floats.specs.Rounded.{◌⊕◌, ◌⊖◌, ◌⊗◌, ◌⊘◌, zero_f}
use Rattle.geometry.specs.declared.Position.{Position}
use Rattle.geometry.specs.declared.Zeta.{Zeta}

-- the three or four coordinates as a list
abbrev pub zetas : ℕ → Zeta → List Float
zetas n z = take n (z.0 ∷ z.1 ∷ z.2 ∷ z.3 ∷ [])

-- a triangle's doubled area, `a2` in the Rust text
unfoldable pub doubled_area : Position → Position → Position → Float
doubled_area a b c = a.x ⊗ (b.y ⊖ c.y) ⊕ b.x ⊗ (c.y ⊖ a.y) ⊕ c.x ⊗ (a.y ⊖ b.y)

-- the triangle's: three, each with the point in the place of a corner, and +0 in the fourth place
unfoldable pub triangle_coords : Position → Position → Position → Position → Zeta
unfolding doubled_area
triangle_coords a b c p =
    let a2 = doubled_area a b c in
    record { 0 = doubled_area p b c ⊘ a2; 1 = doubled_area a p c ⊘ a2; 2 = doubled_area a b p ⊘ a2; 3 = zero_f }

-- the tetrahedron's four
unfoldable pub tetrahedron_coords : Position → Position → Position → Position → Position → Zeta
tetrahedron_coords a b c d p =
    let x1 = a.x in let y1 = a.y in let z1 = a.z in
    let x2 = b.x in let y2 = b.y in let z2 = b.z in
    let x3 = c.x in let y3 = c.y in let z3 = c.z in
    let x4 = d.x in let y4 = d.y in let z4 = d.z in
    let x = p.x in let y = p.y in let z = p.z in
    let v6 =
    (x2 ⊖ x1) ⊗ ((y2 ⊖ y3) ⊗ (z3 ⊖ z4) ⊖ (y3 ⊖ y4) ⊗ (z2 ⊖ z3))
    ⊕ (x3 ⊖ x2) ⊗ ((y3 ⊖ y4) ⊗ (z1 ⊖ z2) ⊖ (y1 ⊖ y2) ⊗ (z3 ⊖ z4))
    ⊕ (x4 ⊖ x3) ⊗ ((y1 ⊖ y2) ⊗ (z2 ⊖ z3) ⊖ (y2 ⊖ y3) ⊗ (z1 ⊖ z2)) in
    record {
      0 = ((x2 ⊗ (y3 ⊗ z4 ⊖ y4 ⊗ z3) ⊕ x3 ⊗ (y4 ⊗ z2 ⊖ y2 ⊗ z4) ⊕ x4 ⊗ (y2 ⊗ z3 ⊖ y3 ⊗ z2))
          ⊕ x ⊗ ((y4 ⊖ y2) ⊗ (z3 ⊖ z2) ⊖ (y3 ⊖ y2) ⊗ (z4 ⊖ z2))
          ⊕ y ⊗ ((x3 ⊖ x2) ⊗ (z4 ⊖ z2) ⊖ (x4 ⊖ x2) ⊗ (z3 ⊖ z2))
          ⊕ z ⊗ ((x4 ⊖ x2) ⊗ (y3 ⊖ y2) ⊖ (x3 ⊖ x2) ⊗ (y4 ⊖ y2))) ⊘ v6;
      1 = ((x1 ⊗ (y4 ⊗ z3 ⊖ y3 ⊗ z4) ⊕ x3 ⊗ (y1 ⊗ z4 ⊖ y4 ⊗ z1) ⊕ x4 ⊗ (y3 ⊗ z1 ⊖ y1 ⊗ z3))
          ⊕ x ⊗ ((y3 ⊖ y1) ⊗ (z4 ⊖ z3) ⊖ (y3 ⊖ y4) ⊗ (z1 ⊖ z3))
          ⊕ y ⊗ ((x4 ⊖ x3) ⊗ (z3 ⊖ z1) ⊖ (x1 ⊖ x3) ⊗ (z3 ⊖ z4))
          ⊕ z ⊗ ((x3 ⊖ x1) ⊗ (y4 ⊖ y3) ⊖ (x3 ⊖ x4) ⊗ (y1 ⊖ y3))) ⊘ v6;
      2 = ((x1 ⊗ (y2 ⊗ z4 ⊖ y4 ⊗ z2) ⊕ x2 ⊗ (y4 ⊗ z1 ⊖ y1 ⊗ z4) ⊕ x4 ⊗ (y1 ⊗ z2 ⊖ y2 ⊗ z1))
          ⊕ x ⊗ ((y2 ⊖ y4) ⊗ (z1 ⊖ z4) ⊖ (y1 ⊖ y4) ⊗ (z2 ⊖ z4))
          ⊕ y ⊗ ((x1 ⊖ x4) ⊗ (z2 ⊖ z4) ⊖ (x2 ⊖ x4) ⊗ (z1 ⊖ z4))
          ⊕ z ⊗ ((x2 ⊖ x4) ⊗ (y1 ⊖ y4) ⊖ (x1 ⊖ x4) ⊗ (y2 ⊖ y4))) ⊘ v6;
      3 = ((x1 ⊗ (y3 ⊗ z2 ⊖ y2 ⊗ z3) ⊕ x2 ⊗ (y1 ⊗ z3 ⊖ y3 ⊗ z1) ⊕ x3 ⊗ (y2 ⊗ z1 ⊖ y1 ⊗ z2))
          ⊕ x ⊗ ((y1 ⊖ y3) ⊗ (z2 ⊖ z1) ⊖ (y1 ⊖ y2) ⊗ (z3 ⊖ z1))
          ⊕ y ⊗ ((x2 ⊖ x1) ⊗ (z1 ⊖ z3) ⊖ (x3 ⊖ x1) ⊗ (z1 ⊖ z2))
          ⊕ z ⊗ ((x1 ⊖ x3) ⊗ (y2 ⊖ y1) ⊖ (x1 ⊖ x2) ⊗ (y3 ⊖ y1))) ⊘ v6;
    }

-- Inside means that no coordinate is below the bound, so that a NaN counts as inside.
unfoldable pub inside : Float → List Float → Bool
unfolding any lt
inside bound zs = not (any (λ (z : Float). lt z bound) zs)
