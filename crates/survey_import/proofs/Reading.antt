-- The fields of a line, and when it is good.
-- Assumes nothing.
use Prim.Native.Nat.{ℕ, suc, ◌+◌, ◌-◌, ◌<◌}
use native.Mathlib.Nat.{eq-or-lt_of_le}
use native.Mathlib.Numerals.{add-one}
use native.Mathlib.Omega.{arith}
use mathlib.Core.Logic.{⊎_elim}
use mathlib.Core.Path.{◌≡◌, refl, sym, ap, ◌∙◌}
use mathlib.Core.Bool.{Bool, true, false, ◌&&◌}
use mathlib.Core.Option.{none, some}
use mathlib.Core.List.{List, [], ◌∷◌}
use lib.Dec.{leb, eqb}
use borrow.Author.Tests.{ne_eqb}
use lib.ListN.{length, get_or, take, drop, length-drop}
use lib.Seq.{take_all}
use Rattle.std.specs.List.{position}
use Rattle.std.proofs.Common.{Some, None}
use Rattle.std.specs.Prelude as prelude
use Rattle.std.specs.Option.{is_some}
use lib.Ieee.{Float}
use Rattle.basics.specs.Lists.{all, leading}
use Rattle.basics.proofs.Bools.{by_test, clash}
use Rattle.basics.proofs.Lists.{leading-most}
use Rattle.records.specs.declared.Record.{Record}
use Rattle.text.specs.Text.{number_of}
use Rattle.lines.specs.Pieces.{split}
use Rattle.lines.proofs.Pieces.{leading_found, leading_unfound, split-first, split-none, split-some}
use Rattle.millimetres.specs.Millimetres.{value_of}
use lib.IntN.{ℤ}
use Rattle.decimals.specs.Decimals.{is_number, is_coordinate, millimetres, number_in, millimetres_in}
use Rattle.decimals.proofs.Digits.{told, untold}
use Rattle.survey_import.specs.Marks.{is_description, good_line, mark_of, mark_in, line_read, plain}
use Rattle.survey_import.specs.declared.Fields.{Fields}
use Rattle.survey_import.specs.Posts.{value_in, AreFields}

-- ---- where the commas are

module _ (text : List ℕ) where
  pub cut_nowhere : None ≡ position (λ b. eqb b 44) text → split 44 text ≡ text ∷ []
  cut_nowhere e = split-none 44 text (leading_unfound 44 text e)

  pub cut_at : (comma : ℕ) → Some comma ≡ position (λ b. eqb b 44) text → split 44 text ≡ take comma text ∷ split 44 (take (length text - (comma + 1)) (drop (comma + 1) text))
  cut_at comma e =
      let f = leading_found 44 text comma e in
      let whole : take (length text - (comma + 1)) (drop (comma + 1) text) ≡ drop (comma + 1) text = take_all (length text - (comma + 1)) (drop (comma + 1) text) (rw length-drop (omega arith)) in
      rw (whole, add-one, ← f.0) (split-first 44 text (omega (arith, f.0, f.1)))

-- ---- the last field

-- a test of each byte, as std's `all` has it
and-false : (a : Bool) {b : Bool} → b ≡ false → (a && b) ≡ false
and-false true e = e
and-false false e = refl

-- a comma in it is no plain byte
no_comma : (rest : List ℕ) → leading 44 rest < length rest → all plain rest ≡ false
unfolding all leading
no_comma [] h = absurd (omega arith)
no_comma (x ∷ rest) h =
    let ih = no_comma rest in
    by_test (eqb x 44) (λ e. rw e) (λ e. rw e (and-false (leb 32 x && leb x 126) (ih (omega (arith, rw e at h)))))

-- the rest of a line is one field and a description where it is a description with no comma
last_field : (rest : List ℕ) (a b c d : Bool) →
    (eqb (suc (suc (suc (suc (length (split 44 rest)))))) 5 && (a && (b && (c && (d && is_description (get_or (split 44 rest) 0 [])))))) ≡ (a && (b && (c && (d && is_description rest))))
unfolding is_description
last_field rest a b c d =
    ⊎_elim
    (λ k. rw (split-none 44 rest k))
    (λ k.
    let s = split-first 44 rest k in
    let n = split-some 44 (drop (suc (leading 44 rest)) rest) in
    rw (ne_eqb (suc (suc (suc (suc (length (split 44 rest)))))) 5 (λ q. absurd (omega (arith, q, n, ap length s))), no_comma rest k)
    (sym (and-false a (and-false b (and-false c (and-false d (and-false (leb (length rest) 32) refl)))))))
    (eq-or-lt_of_le (leading-most 44 rest))

-- ---- what reading a field answers

module _ (field : List ℕ) where
  number-told : {n : ℕ} → some n ≡ number_in field → (is_number field ≡ true) × (n ≡ number_of field)
  unfolding number_in
  number-told e = told (is_number field) (number_of field) e

  no_number : none ≡ number_in field → is_number field ≡ false
  unfolding number_in
  no_number e = untold (is_number field) (number_of field) e

  value-told : {x : Float} → some x ≡ value_in field → (is_coordinate field ≡ true) × (x ≡ value_of (millimetres field))
  unfolding value_in
  value-told e = told (is_coordinate field) (value_of (millimetres field)) e

  no_value : none ≡ value_in field → is_coordinate field ≡ false
  unfolding value_in
  no_value e = untold (is_coordinate field) (value_of (millimetres field)) e

  -- a coordinate's value is that of its millimetres, which are small enough
  pub value-none : none ≡ millimetres_in field → none ≡ value_in field
  unfolding millimetres_in value_in
  value-none e = rw (untold (is_coordinate field) (millimetres field) e)

  module _ {m : ℤ} (e : some m ≡ millimetres_in field) where
    pub value-some : {x : Float} → x ≡ value_of m → some x ≡ value_in field
    unfolding millimetres_in value_in
    value-some k = let t = told (is_coordinate field) (millimetres field) e in rw (k, t.0, t.1)

-- what reading a line answers: a mark exactly where the line is good
pub good_read : (line : List ℕ) (r : prelude.Option Record) → line_read r ≡ mark_in line → good_line line ≡ is_some r
unfolding mark_in
good_read line (prelude.Some m) e = (told (good_line line) (mark_of line) e).0
good_read line prelude.None e = untold (good_line line) (mark_of line) e

pub read_some : (line : List ℕ) (r : prelude.Option Record) → line_read r ≡ mark_in line → good_line line ≡ true → prelude.IsSome r
read_some line (prelude.Some m) e g = refl
read_some line prelude.None e g = clash g (good_read line prelude.None e)

pub mark_told : (line : List ℕ) {m : Record} → some m ≡ mark_in line → m ≡ mark_of line
unfolding mark_in
mark_told line e = (told (good_line line) (mark_of line) e).1

-- ---- a line in its fields

abbrev mark : ℕ → Float → Float → Float → Record
mark i x y z = record { id = i; x = x; y = y; z = z }

-- a line that is not good has no mark
no_mark : (line : List ℕ) → good_line line ≡ false → none ≡ mark_in line
unfolding mark_in
no_mark line e = rw e

few_fields : (line : List ℕ) → length (split 44 line) < 5 → good_line line ≡ false
unfolding good_line
few_fields line h = rw (ne_eqb (length (split 44 line)) 5 (λ q. omega (arith, q)))

pub too_few : (line : List ℕ) → length (split 44 line) < 5 → none ≡ mark_in line
too_few line h = no_mark line (few_fields line h)

module _ (line : List ℕ) {f : Fields} (k : AreFields line f) where
  good_fields : good_line line ≡ (is_number f.number.now && (is_coordinate f.easting.now && (is_coordinate f.northing.now && (is_coordinate f.height.now && is_description f.description.now))))
  unfolding good_line
  good_fields = rw k.pieces (last_field f.description.now (is_number f.number.now) (is_coordinate f.easting.now) (is_coordinate f.northing.now) (is_coordinate f.height.now))

  mark_fields : mark_of line ≡ mark (number_of f.number.now) (value_of (millimetres f.easting.now)) (value_of (millimetres f.northing.now)) (value_of (millimetres f.height.now))
  unfolding mark_of
  mark_fields = rw k.pieces

  -- ---- one field that is not what it has to be

  pub bad-number : none ≡ number_in f.number.now → none ≡ mark_in line
  bad-number e = no_mark line (good_fields ∙ rw (no_number f.number.now e))

  pub bad_easting : none ≡ value_in f.easting.now → none ≡ mark_in line
  bad_easting e = no_mark line (good_fields ∙ and-false (is_number f.number.now) (rw (no_value f.easting.now e)))

  pub bad_northing : none ≡ value_in f.northing.now → none ≡ mark_in line
  bad_northing e = no_mark line (good_fields ∙ and-false (is_number f.number.now) (and-false (is_coordinate f.easting.now) (rw (no_value f.northing.now e))))

  pub bad_height : none ≡ value_in f.height.now → none ≡ mark_in line
  bad_height e = no_mark line (good_fields ∙ and-false (is_number f.number.now) (and-false (is_coordinate f.easting.now) (and-false (is_coordinate f.northing.now) (rw (no_value f.height.now e)))))

  pub bad_description : is_description f.description.now ≡ false → none ≡ mark_in line
  bad_description e = no_mark line
      (good_fields ∙ and-false (is_number f.number.now)
      (and-false (is_coordinate f.easting.now) (and-false (is_coordinate f.northing.now) (and-false (is_coordinate f.height.now) e))))

  -- ---- all of them

  pub mark_read : {i : ℕ} {x y z : Float} → some i ≡ number_in f.number.now → some x ≡ value_in f.easting.now → some y ≡ value_in f.northing.now → some z ≡ value_in f.height.now
      → is_description f.description.now ≡ true → some (mark i x y z) ≡ mark_in line
  unfolding mark_in
  mark_read a b d e g =
      let number = number-told f.number.now a in
      let easting = value-told f.easting.now b in
      let northing = value-told f.northing.now d in
      let height = value-told f.height.now e in
      let good : good_line line ≡ true = good_fields ∙ rw (number.0, easting.0, northing.0, height.0, g) in
      rw (good, mark_fields, number.1, easting.1, northing.1, height.1)
