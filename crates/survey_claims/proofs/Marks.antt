-- The line that an export writes of a mark is a good one, and its mark is that mark.
-- Assumes nothing.
use Prim.Native.Nat.{ℕ, ◌^◌, ◌<◌}
use mathlib.Core.Path.{◌≡◌, refl, sym, ap, ◌∙◌}
use mathlib.Core.Bool.{true, false, ◌&&◌}
use mathlib.Core.List.{List, [], ◌∷◌, ◌++◌, append_assoc}
use lib.Dec.{ltb, eqb}
use lib.ListN.{length}
use lib.Ieee.{Float, binary64, fits}
use borrow.Author.Tests.{ltb-true}
use Rattle.floats.specs.Tests.{Binary64}
use Rattle.basics.specs.Lists.{has}
use Rattle.basics.proofs.Bools.{and_left, and_right}
use Rattle.records.specs.declared.Record.{Record}
use Rattle.text.specs.Text.{decimal, number_of}
use Rattle.lines.specs.Pieces.{split}
use Rattle.lines.proofs.Pieces.{split-joined}
use Rattle.millimetres.specs.Millimetres.{value_of, nearest_to, is_decimal}
use Rattle.millimetres.proofs.Laws.{decimal-value, value-decimal}
use Rattle.decimals.specs.Decimals.{is_digit, is_number, is_coordinate, millimetres, coordinate_text}
use Rattle.decimals.proofs.Laws.{number-back, coordinate-back, decimal-without, coordinate-without, coordinate-size}
use Rattle.survey_import.specs.Marks.{field, good_line, mark_of, is_description}
use Rattle.survey_export.specs.Export.{good_mark}
use Rattle.survey_claims.specs.Claims.{lent}
use Rattle.survey_claims.proofs.Bytes.{neither}

-- the line of four fields before an empty description, without its LF
abbrev pub joined : List ℕ → List ℕ → List ℕ → List ℕ → List ℕ
joined n x y z = n ++ (44 ∷ x ++ (44 ∷ y ++ (44 ∷ z ++ (44 ∷ []))))

abbrev pub bare : Record → List ℕ
bare m = joined (decimal m.id) (coordinate_text (nearest_to m.x)) (coordinate_text (nearest_to m.y)) (coordinate_text (nearest_to m.z))

module _ (n x y z : List ℕ) where
  -- with its LF and what follows
  pub joined_text : (rest : List ℕ) → (n ++ (44 ∷ x ++ (44 ∷ y ++ (44 ∷ z ++ (44 ∷ 10 ∷ []))))) ++ rest ≡ joined n x y z ++ (10 ∷ rest)
  joined_text rest = simp append_assoc

  -- its fields, where none of the four has a comma
  pub joined_fields : has 44 n ≡ false → has 44 x ≡ false → has 44 y ≡ false → has 44 z ≡ false → split 44 (joined n x y z) ≡ n ∷ x ∷ y ∷ z ∷ [] ∷ []
  unfolding split
  joined_fields hn hx hy hz =
      split-joined 44 n hn (x ++ (44 ∷ y ++ (44 ∷ z ++ (44 ∷ []))))
      ∙ ap (λ (l : List (List ℕ)). n ∷ l)
      (split-joined 44 x hx (y ++ (44 ∷ z ++ (44 ∷ [])))
      ∙ ap (λ (l : List (List ℕ)). x ∷ l)
      (split-joined 44 y hy (z ++ (44 ∷ []))
      ∙ ap (λ (l : List (List ℕ)). y ∷ l) (split-joined 44 z hz [])))

  -- a byte that none of the four has, and that is no comma
  pub joined-without : (v : ℕ) → has v (44 ∷ []) ≡ false → has v n ≡ false → has v x ≡ false → has v y ≡ false → has v z ≡ false → has v (joined n x y z) ≡ false
  joined-without v c hn hx hy hz =
      neither v n (44 ∷ x ++ (44 ∷ y ++ (44 ∷ z ++ (44 ∷ [])))) hn
      (neither v (44 ∷ []) (x ++ (44 ∷ y ++ (44 ∷ z ++ (44 ∷ [])))) c
      (neither v x (44 ∷ y ++ (44 ∷ z ++ (44 ∷ []))) hx
      (neither v (44 ∷ []) (y ++ (44 ∷ z ++ (44 ∷ []))) c
      (neither v y (44 ∷ z ++ (44 ∷ [])) hy
      (neither v (44 ∷ []) (z ++ (44 ∷ [])) c
      (neither v z (44 ∷ []) hz c))))))

  -- a line of such fields is good where each of them is, and what it means is what they mean
  module _ (fields : split 44 (joined n x y z) ≡ n ∷ x ∷ y ∷ z ∷ [] ∷ []) where
    pub joined-good : is_number n ≡ true → is_coordinate x ≡ true → is_coordinate y ≡ true → is_coordinate z ≡ true → good_line (joined n x y z) ≡ true
    unfolding good_line is_description
    joined-good gn gx gy gz = rw (fields, gn, gx, gy, gz)

    pub joined_mark : mark_of (joined n x y z) ≡ record { id = number_of n; x = value_of (millimetres x); y = value_of (millimetres y); z = value_of (millimetres z) }
    unfolding mark_of
    joined_mark = rw fields

-- ---- a mark that can be exported

abbrev Back : Float → Type 0
Back x = (is_coordinate (coordinate_text (nearest_to x)) ≡ true) × (value_of (millimetres (coordinate_text (nearest_to x))) ≡ x)

pub back : (x : Float) → is_decimal x ≡ true → Binary64 x → Back x
back x d f =
    let v = decimal-value x d f in
    let c = coordinate-back (nearest_to x) v.1 in
    (c.0, ap value_of c.1 ∙ sym v.0)

module _ (m : Record) (good : good_mark m ≡ true) (held : lent m ≡ true) where
  goods : (is_decimal m.x ≡ true) × (is_decimal m.y ≡ true) × (is_decimal m.z ≡ true)
  unfolding good_mark
  goods =
      let rest = and_right (is_decimal m.x) (is_decimal m.y && is_decimal m.z) good in
      (and_left (is_decimal m.x) (is_decimal m.y && is_decimal m.z) good, and_left (is_decimal m.y) (is_decimal m.z) rest, and_right (is_decimal m.y) (is_decimal m.z) rest)

  helds : (m.id < 2 ^ 64) × (fits binary64 m.x ≡ true) × (fits binary64 m.y ≡ true) × (fits binary64 m.z ≡ true)
  unfolding lent
  helds =
      let rest = and_right (ltb m.id (2 ^ 64)) (fits binary64 m.x && (fits binary64 m.y && fits binary64 m.z)) held in
      let rest' = and_right (fits binary64 m.x) (fits binary64 m.y && fits binary64 m.z) rest in (
        ltb-true m.id (2 ^ 64) (and_left (ltb m.id (2 ^ 64)) (fits binary64 m.x && (fits binary64 m.y && fits binary64 m.z)) held),
        and_left (fits binary64 m.x) (fits binary64 m.y && fits binary64 m.z) rest,
        and_left (fits binary64 m.y) (fits binary64 m.z) rest',
        and_right (fits binary64 m.y) (fits binary64 m.z) rest',
      )

  bare_fields : split 44 (bare m) ≡ decimal m.id ∷ coordinate_text (nearest_to m.x) ∷ coordinate_text (nearest_to m.y) ∷ coordinate_text (nearest_to m.z) ∷ [] ∷ []
  bare_fields =
      joined_fields (decimal m.id) (coordinate_text (nearest_to m.x)) (coordinate_text (nearest_to m.y)) (coordinate_text (nearest_to m.z))
      (decimal-without 44 refl m.id) (coordinate-without 44 refl refl refl (nearest_to m.x))
      (coordinate-without 44 refl refl refl (nearest_to m.y)) (coordinate-without 44 refl refl refl (nearest_to m.z))

  pub bare-good : good_line (bare m) ≡ true
  bare-good =
      joined-good (decimal m.id) (coordinate_text (nearest_to m.x)) (coordinate_text (nearest_to m.y)) (coordinate_text (nearest_to m.z)) bare_fields
      (number-back m.id helds.0).0
      (back m.x goods.0 (rw helds.1 tt)).0
      (back m.y goods.1 (rw helds.2 tt)).0
      (back m.z goods.2 (rw helds.3 tt)).0

  pub bare_mark : mark_of (bare m) ≡ m
  bare_mark =
      joined_mark (decimal m.id) (coordinate_text (nearest_to m.x)) (coordinate_text (nearest_to m.y)) (coordinate_text (nearest_to m.z)) bare_fields
      ∙ rw ((number-back m.id helds.0).1, (back m.x goods.0 (rw helds.1 tt)).1, (back m.y goods.1 (rw helds.2 tt)).1, (back m.z goods.2 (rw helds.3 tt)).1)

-- a byte that no number, no coordinate and no comma has: CR and LF are such
pub bare-without : (m : Record) (v : ℕ) → has v (44 ∷ []) ≡ false → is_digit v ≡ false → eqb 45 v ≡ false → eqb 46 v ≡ false → has v (bare m) ≡ false
bare-without m v c d p q =
    joined-without (decimal m.id) (coordinate_text (nearest_to m.x)) (coordinate_text (nearest_to m.y)) (coordinate_text (nearest_to m.z)) v c
    (decimal-without v d m.id)
    (coordinate-without v d p q (nearest_to m.x))
    (coordinate-without v d p q (nearest_to m.y))
    (coordinate-without v d p q (nearest_to m.z))

-- ---- the mark of a good line can be exported

pub decimal_field : (f : List ℕ) → is_coordinate f ≡ true → is_decimal (value_of (millimetres f)) ≡ true
decimal_field f c = (value-decimal (millimetres f) (coordinate-size f c)).0

module _ (line : List ℕ) where
  pub line_mark : good_line line ≡ true → good_mark (mark_of line) ≡ true
  unfolding good_line mark_of good_mark
  line_mark g =
      let a = and_right (eqb (length (split 44 line)) 5) _ g in
      let b = and_right (is_number (field line 0)) _ a in
      let c = and_right (is_coordinate (field line 1)) _ b in
      let d = and_right (is_coordinate (field line 2)) _ c in
      rw (
        decimal_field (field line 1) (and_left (is_coordinate (field line 1)) _ b),
        decimal_field (field line 2) (and_left (is_coordinate (field line 2)) _ c),
        decimal_field (field line 3) (and_left (is_coordinate (field line 3)) (is_description (field line 4)) d),
      )
