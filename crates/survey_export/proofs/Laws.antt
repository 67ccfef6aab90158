-- Laws of the text of marks: a good mark's millimetres, a line's length, and lines one after the other.
-- Assumes nothing.
use Prim.Native.Nat.{ℕ, ◌+◌, ◌^◌, ◌≤◌, ◌<◌}
use native.Mathlib.Omega.{arith}
use mathlib.Core.Path.{◌≡◌, refl, sym, ◌∙◌}
use mathlib.Core.Bool.{true, false, ◌&&◌}
use mathlib.Core.Option.{none, some}
use mathlib.Core.List.{List, [], ◌∷◌, ◌++◌, append-nil, append_assoc}
use lib.IntN.{ℤ, nat_abs}
use lib.Dec.{leb}
use lib.ListN.{length, length-append}
use lib.Ieee.{Float}
use borrow.Author.Tests.{leb-true}
use Rattle.basics.proofs.Bools.{and_left, and_right}
use Rattle.records.specs.declared.Record.{Record}
use Rattle.floats.specs.Tests.{same_bits}
use Rattle.text.specs.Text.{decimal}
use Rattle.text.proofs.Laws.{decimal_20}
use Rattle.millimetres.specs.Millimetres.{limit, value_of, nearest_to, is_decimal, decimal_of}
use Rattle.decimals.specs.Decimals.{coordinate_text}
use Rattle.decimals.proofs.Laws.{coordinate-length}
use Rattle.survey_export.specs.Export.{good_mark, line_text, line_of, text_of}
use Rattle.decimals.proofs.Digits.{told, untold}
use Rattle.survey_export.specs.Posts.{with_comma}
use Rattle.survey_export.specs.Told.{Told}
use Rattle.survey_export.specs.declared.Decimals.{Decimals}

-- ---- the millimetres of a coordinate and of a mark

-- of a float for which `Millimetres::of` gave them, or none
pub decimal-told : (x : Float) {m : ℤ} → some m ≡ decimal_of x → (is_decimal x ≡ true) × (m ≡ nearest_to x)
unfolding decimal_of
decimal-told x e = told (is_decimal x) (nearest_to x) e

pub none_told : (x : Float) → none ≡ decimal_of x → is_decimal x ≡ false
unfolding decimal_of
none_told x e = untold (is_decimal x) (nearest_to x) e

-- they are within the limit
pub within : (x : Float) → is_decimal x ≡ true → nat_abs (nearest_to x) ≤ limit
unfolding is_decimal
within x e = leb-true (nat_abs (nearest_to x)) limit (and_left (leb (nat_abs (nearest_to x)) limit) (same_bits (value_of (nearest_to x)) x) e)

-- the coordinates of a good mark are decimals
pub record Good (m : Record) : Type 0 where
  pub x : is_decimal m.x ≡ true
  pub y : is_decimal m.y ≡ true
  pub z : is_decimal m.z ≡ true

pub good : (m : Record) → good_mark m ≡ true → Good m
unfolding good_mark
good m e =
    let rest = and_right (is_decimal m.x) (is_decimal m.y && is_decimal m.z) e in
    record {
      x = and_left (is_decimal m.x) (is_decimal m.y && is_decimal m.z) e;
      y = and_left (is_decimal m.y) (is_decimal m.z) rest;
      z = and_right (is_decimal m.y) (is_decimal m.z) rest;
    }

-- ---- a line

pub line-is : (m : Record) (d : Decimals) → Told m d → line_text m.id d.x.count d.y.count d.z.count ≡ line_of m
unfolding line_of
line-is m d t = λ i. line_text m.id (t.x_is i) (t.y_is i) (t.z_is i)

pub line_parts : (id : ℕ) (x y z : ℤ) → line_text id x y z ≡ decimal id ++ (44 ∷ coordinate_text x ++ (44 ∷ coordinate_text y ++ (44 ∷ coordinate_text z ++ (44 ∷ 10 ∷ []))))
unfolding line_text
line_parts id x y z = refl

pub line_length : (id : ℕ) (x y z : ℤ) → length (line_text id x y z) ≡ length (decimal id) + length (coordinate_text x) + length (coordinate_text y) + length (coordinate_text z) + 5
line_length id x y z = rw line_parts (simp length-append (omega arith))

-- as it is put: each coordinate with the comma after it
pub line_fields : (id : ℕ) (x y z : ℤ)
    → line_text id x y z ≡ decimal id ++ ((44 ∷ []) ++ (with_comma (coordinate_text x) ++ (with_comma (coordinate_text y) ++ (with_comma (coordinate_text z) ++ (10 ∷ [])))))
line_fields id x y z = rw line_parts (simp append_assoc)

pub comma_length : (field : List ℕ) → length (with_comma field) ≡ length field + 1
comma_length field = length-append field (44 ∷ [])

-- the most bytes that a line has: twenty digits, three coordinates, four commas and the line's end
abbrev pub longest : ℕ
longest = 61

pub line-most : (m : Record) → good_mark m ≡ true → m.id < 2 ^ 64 → length (line_of m) ≤ longest
unfolding line_of
line-most m e h =
    let g = good m e in
    omega (
      arith,
      line_length m.id (nearest_to m.x) (nearest_to m.y) (nearest_to m.z),
      decimal_20 m.id h,
      coordinate-length (nearest_to m.x) (within m.x g.x),
      coordinate-length (nearest_to m.y) (within m.y g.y),
      coordinate-length (nearest_to m.z) (within m.z g.z),
    )

-- ---- lines one after the other

pub text_append : (ms ns : List Record) → text_of (ms ++ ns) ≡ text_of ms ++ text_of ns
unfolding text_of
text_append [] ns = refl
text_append (m ∷ ms) ns = rw (text_append ms ns) (sym (append_assoc (line_of m) (text_of ms) (text_of ns)))

pub text_more : (ms : List Record) (m : Record) → text_of (ms ++ m ∷ []) ≡ text_of ms ++ line_of m
unfolding text_of
text_more ms m = text_append ms (m ∷ []) ∙ rw append-nil
