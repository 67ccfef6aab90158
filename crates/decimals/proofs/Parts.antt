-- A coordinate's parts: the ways out of reading it.
-- Assumes nothing.
use Prim.Native.Nat.{ℕ, suc, ◌+◌, ◌-◌, ◌*◌, ◌^◌, ◌≤◌, ◌<◌}
use native.Mathlib.Numerals.{add-one}
use native.Mathlib.Nat.{mul-le-mul, mul-one, pow-le-pow_right}
use native.Mathlib.Omega.{arith}
use mathlib.Core.Path.{◌≡◌, refl, sym, ap, ◌∙◌}
use mathlib.Core.Bool.{Bool, true, false, cond, ◌&&◌, ◌||◌, and-true}
use mathlib.Core.Option.{none, some}
use mathlib.Core.List.{List, [], ◌∷◌}
use mathlib.Core.Logic.{◌⊎◌, inl, inr, ⊎_elim}
use lib.Dec.{leb, ltb, eqb}
use lib.Pointwise.{pointwise}
use Rattle.std.specs.List.{position}
use Rattle.std.specs.Bool.{then_some}
use Rattle.std.proofs.Common.{Some, None}
use lib.ListN.{length, get_or, take, drop, length-drop}
use lib.Seq.{take_all}
use borrow.Author.Tests.{leb-true, eqb-true, ltb-true, ltb-false}
use Rattle.basics.specs.Lists.{leading}
use Rattle.basics.proofs.Bools.{by_test, clash, and_both, or_either}
use Rattle.basics.proofs.Lists.{leading-most}
use Rattle.text.specs.Text.{number_of, number_from}
use Rattle.lines.specs.Pieces.{split}
use Rattle.lines.proofs.Pieces.{leading_found, leading_unfound, split-some, split-first, split-none, split-whole}
use Rattle.millimetres.specs.declared.Millimetres.{Millimetres}
use Rattle.millimetres.specs.Millimetres.{limit, signed}
use Rattle.decimals.specs.Decimals.{digits, has_minus, parts_of, thousandths, good_parts, is_coordinate, millimetres, millimetres_in, number_read}
use Rattle.decimals.specs.Posts.{digits_in, decimals_in, thousandths_in, IsCut}
use Rattle.decimals.proofs.Digits.{told, untold, digits-without, digits_are, digits-below, digits-told, digits_untold}

-- what is lent of a field from a place on: all that stands there
pub rest-whole : (field : List ℕ) (at : ℕ) → take (length field - at) (drop at field) ≡ drop at field
rest-whole field at = take_all (length field - at) (drop at field) (omega (arith, length-drop at field))

-- ---- the decimals

module _ (field : List ℕ) where
  pub decimals_bad : none ≡ digits_in 3 field → none ≡ decimals_in field
  unfolding decimals_in
  decimals_bad e = rw (digits_untold 3 field e)

  pub decimals_good : (n u : ℕ) → some n ≡ digits_in 3 field → 10 ^ (3 - length field) ≡ u → some (n * u) ≡ decimals_in field
  unfolding decimals_in
  decimals_good n u e p = let d = digits-told 3 field e in rw (d.0, d.1, p)

  -- three digits
  pub decimals_three : (n : ℕ) → some n ≡ digits_in 3 field → (length field ≡ 1 → ⊥) → (length field ≡ 2 → ⊥) → some n ≡ decimals_in field
  decimals_three n e f g =
      let d = digits_are 3 field (digits-told 3 field e).0 in
      let three : length field ≡ 3 = omega (arith, d.some, d.most) in
      ap some (sym (mul-one n)) ∙ decimals_good n 1 e (rw three)

  -- they fit
  pub digits_small : (k n : ℕ) → some n ≡ digits_in k field → n < 10 ^ k
  digits_small k n e = let d = digits-told k field e in rw d.1 (digits-below k field d.0)

  decimals_told : {n : ℕ} → some n ≡ decimals_in field → (digits 3 field ≡ true) × (n ≡ number_of field * 10 ^ (3 - length field))
  unfolding decimals_in
  decimals_told e = told (digits 3 field) (number_of field * 10 ^ (3 - length field)) e

  decimals_untold : none ≡ decimals_in field → digits 3 field ≡ false
  unfolding decimals_in
  decimals_untold e = untold (digits 3 field) (number_of field * 10 ^ (3 - length field)) e

  decimals_below : {n : ℕ} → some n ≡ decimals_in field → n ≤ 1000000
  decimals_below e =
      let d = decimals_told e in
      rw d.1 (mul-le-mul {n₁ = number_of field} {m₁ = 10 ^ (3 - length field)} {n₂ = 1000} {m₂ = 1000}
      (omega (arith, digits-below 3 field d.0))
      (omega (arith, pow-le-pow_right {n = 10} (omega arith) {i = 3 - length field} {j = 3} (omega arith))))

-- ---- the parts

pub record Good (parts : List (List ℕ)) : Type 0 where
  pub whole : digits 7 (get_or parts 0 []) ≡ true
  pub count : (length parts ≡ 1) ⊎ ((length parts ≡ 2) × (digits 3 (get_or parts 1 []) ≡ true))
  pub within : thousandths parts ≤ limit

pub good-are : (parts : List (List ℕ)) → good_parts parts ≡ true → Good parts
unfolding good_parts
good-are parts e =
    let one = eqb (length parts) 1 in
    let two = eqb (length parts) 2 && digits 3 (get_or parts 1 []) in
    let rest = and_both (digits 7 (get_or parts 0 [])) ((one || two) && leb (thousandths parts) limit) e in
    let counted = and_both (one || two) (leb (thousandths parts) limit) rest.1 in
    record {
      whole = rest.0;
      count = ⊎_elim
          (λ h. inl (eqb-true (length parts) 1 h))
          (λ h. let both-two = and_both (eqb (length parts) 2) (digits 3 (get_or parts 1 [])) h in inr (eqb-true (length parts) 2 both-two.0, both-two.1))
          (or_either one two counted.0);
      within = leb-true (thousandths parts) limit counted.1;
    }

-- ---- the thousandths

-- digits hold no point
after_point : (back : List ℕ) → digits 3 back ≡ true → split 46 back ≡ back ∷ []
after_point back e = split-whole 46 back (digits-without 46 back refl (digits_are 3 back e).each)

no_decimals : (front back : List ℕ) → digits 3 back ≡ false → Good (front ∷ split 46 back) → ⊥
no_decimals front back e g =
    ⊎_elim
    (λ h. omega (arith, split-some 46 back))
    (λ h.
    by_test (ltb (leading 46 back) (length back))
    (λ l.
    let lt = ltb-true (leading 46 back) (length back) l in
    let more = split-some 46 (drop (suc (leading 46 back)) back) in
    let two = ap length (split-first 46 back lt) in
    omega (arith, h.0))
    (λ l.
    let le : length back ≤ leading 46 back = ltb-false (leading 46 back) (length back) l in
    clash (rw (split-none 46 back (omega (arith, leading-most 46 back))) at h.1) e))
    g.count

module _ (field : List ℕ) where
  bad : (Good (split 46 field) → ⊥) → thousandths_in field ≡ none
  unfolding thousandths_in
  bad f = by_test (good_parts (split 46 field)) (λ e. absurd (f (good-are (split 46 field) e))) (λ e. rw e)

  pub thousandths-told : {n : ℕ} → some n ≡ thousandths_in field → (good_parts (split 46 field) ≡ true) × (n ≡ thousandths (split 46 field))
  unfolding thousandths_in
  thousandths-told e = told (good_parts (split 46 field)) (thousandths (split 46 field)) e

  pub thousandths_untold : none ≡ thousandths_in field → good_parts (split 46 field) ≡ false
  unfolding thousandths_in
  thousandths_untold e = untold (good_parts (split 46 field)) (thousandths (split 46 field)) e

  -- no point
  pub cut_nowhere : None ≡ position (λ b. eqb b 46) field → IsCut field field 0
  unfolding thousandths_in good_parts thousandths number_of number_from
  cut_nowhere e = record { below = omega arith; rest = rw (split-none 46 field (leading_unfound 46 field e)) }

  module _ (point : ℕ) (at : Some point ≡ position (λ b. eqb b 46) field) where
    parts : split 46 field ≡ take point field ∷ split 46 (drop (point + 1) field)
    parts = let l = leading_found 46 field point at in rw (add-one, ← l.0) (split-first 46 field (omega (arith, l.0, l.1)))

    -- a point, and no decimals
    pub cut_bad : none ≡ decimals_in (take (length field - (point + 1)) (drop (point + 1) field)) → thousandths_in field ≡ none
    cut_bad e = bad (λ g. no_decimals (take point field) (drop (point + 1) field) (decimals_untold (drop (point + 1) field) (rw (rest-whole field (point + 1)) at e)) (rw parts at g))

    -- both
    pub cut_good : (m : ℕ) → some m ≡ decimals_in (take (length field - (point + 1)) (drop (point + 1) field)) → IsCut field (take point field) m
    unfolding thousandths_in good_parts thousandths
    cut_good m e =
        let back = drop (point + 1) field in
        let f : some m ≡ decimals_in back = rw (rest-whole field (point + 1)) at e in
        let d = decimals_told back f in
        record { below = decimals_below back f; rest = rw (parts, after_point back d.0, d.0, d.1) }

-- the thousandths of a coordinate that is cut
module _ (field front : List ℕ) (m : ℕ) (c : IsCut field front m) where
  pub front_bad : none ≡ digits_in 7 front → none ≡ thousandths_in field
  front_bad e = sym (c.rest ∙ rw (digits_untold 7 front e))

  pub front_good : (n : ℕ) → some n ≡ digits_in 7 front → number_read (then_some (leb (n * 1000 + m) limit) (n * 1000 + m)) ≡ thousandths_in field
  front_good n e = let d = digits-told 7 front e in chosen (leb (n * 1000 + m) limit) (n * 1000 + m) ∙ sym (c.rest ∙ rw (d.0, d.1))
    where
      chosen : (b : Bool) (k : ℕ) → number_read (then_some b k) ≡ cond b (some k) none
      chosen true k = refl
      chosen false k = refl

-- ---- the coordinate: whether a minus stands in front, and what is left then

pub record IsRest (b : Bool) (field rest : List ℕ) : Type 0 where
  pub minus : b ≡ has_minus field
  pub is : rest ≡ cond b (drop 1 field) field

-- as the code takes the minus away
minus_test : (field : List ℕ) → pointwise eqb (take 1 field) (45 ∷ []) ≡ has_minus field
unfolding has_minus
minus_test [] = refl
minus_test (x ∷ field) = and-true (eqb x 45)

pub rest_after : {field rest : List ℕ} {n : ℕ} → (pointwise eqb (take 1 field) (45 ∷ []) ≡ true) × (rest ≡ drop 1 field) × (length rest + 1 ≡ n) → IsRest true field rest
rest_after {field} e = record { minus = sym e.0 ∙ minus_test field; is = e.1 }

pub rest_none : {field : List ℕ} → pointwise eqb (take 1 field) (45 ∷ []) ≡ false → IsRest false field field
rest_none {field} e = record { minus = sym e ∙ minus_test field; is = refl }

pub minus_rest : (field : List ℕ) (b : Bool) → b ≡ has_minus field → parts_of field ≡ split 46 (cond b (drop 1 field) field)
unfolding parts_of
minus_rest field b e = rw e

module _ {b : Bool} {field rest : List ℕ} (r : IsRest b field rest) where
  rest_parts : parts_of field ≡ split 46 rest
  rest_parts = rw r.is (minus_rest field b r.minus)

  pub coordinate-bad : none ≡ thousandths_in rest → none ≡ millimetres_in field
  unfolding millimetres_in is_coordinate
  coordinate-bad e = rw (rest_parts, thousandths_untold rest e)

  module _ {n : ℕ} (e : some n ≡ thousandths_in rest) where
    pub coordinate-within : n ≤ limit
    coordinate-within = let t = thousandths-told rest e in rw t.1 (good-are (split 46 rest) t.0).within

    pub coordinate-good : (m : Millimetres) → m.count ≡ signed b n → some m.count ≡ millimetres_in field
    unfolding millimetres_in is_coordinate millimetres
    coordinate-good m f =
        let t = thousandths-told rest e in
        rw (rest_parts, t.0, f, t.1, r.minus)
