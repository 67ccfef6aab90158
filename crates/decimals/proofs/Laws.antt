-- Laws of numbers and coordinates, for those who read and write them: what is written reads back, what bytes it has and how long it
-- is, and how large a coordinate can be.
-- Assumes nothing.
use Prim.Native.Nat.{ℕ, zero, suc, ◌/◌, ◌%◌, ◌^◌, ◌≤◌, ◌<◌}
use native.Mathlib.Omega.{arith}
use mathlib.Core.Path.{◌≡◌, refl, sym, ap, ◌∙◌}
use mathlib.Core.Logic.{◌⊎◌, inl, inr}
use mathlib.Core.Bool.{true, false}
use mathlib.Core.Option.{some}
use mathlib.Core.List.{List, [], ◌∷◌}
use lib.Dec.{ltb, eqb}
use lib.IntN.{ℤ, pos, negsuc, nat_abs}
use lib.ListN.{length, get_or, get_or-append}
use borrow.Author.Tests.{ltb-true, ltb-false, lt-ltb, le-leb, ne_eqb}
use Rattle.basics.specs.Lists.{all, has}
use Rattle.basics.proofs.Bools.{which, both}
use Rattle.basics.proofs.Lists.{all_at}
use Rattle.text.specs.Text.{digit, decimal, number_from, number_of}
use Rattle.text.proofs.Laws.{decimal-small, decimal_step, decimal-number, decimal-some, decimal-length, decimal_20}
use Rattle.lines.specs.Pieces.{split}
use Rattle.lines.proofs.Pieces.{has-append, split-whole, split-joined}
use Rattle.millimetres.specs.Millimetres.{limit}
use Rattle.millimetres.proofs.Signed.{size-signed}
use Rattle.decimals.specs.Decimals.{is_digit, digits, is_number, has_minus, parts_of, thousandths, good_parts, is_coordinate, millimetres, magnitude_text, coordinate_text, millimetres_in}
use Rattle.decimals.proofs.Digits.{told, all_append, digit_low, is_digit_lem, digits-without, digits-all}
use Rattle.decimals.proofs.Parts.{minus_rest, good-are}
use Rattle.decimals.proofs.Written.{magnitude_length}

-- ---- numbers

digits_of : (k n : ℕ) → n < k → all is_digit (decimal n) ≡ true
unfolding all
digits_of zero n h = absurd (omega arith)
digits_of (suc k) n h = go (digits_of k (n / 10)) (which (ltb n 10))
  where
    go : (n / 10 < k → all is_digit (decimal (n / 10)) ≡ true) → (ltb n 10 ≡ true) ⊎ (ltb n 10 ≡ false) → all is_digit (decimal n) ≡ true
    go ih (inl e) =
        let ten : n < 10 = ltb-true n 10 e in
        rw (decimal-small n ten) (both (is_digit_lem (digit n) (omega arith) (omega arith)) refl)
    go ih (inr e) =
        let ten : 10 ≤ n = ltb-false n 10 e in
        rw (decimal_step n ten, all_append is_digit (decimal (n / 10)) (digit (n % 10) ∷ []))
        (both (ih (omega arith)) (both (is_digit_lem (digit (n % 10)) (omega arith) (omega arith)) refl))

pub decimal-digits : (n : ℕ) → all is_digit (decimal n) ≡ true
decimal-digits n = digits_of (suc n) n (omega arith)

pub decimal-without : (v : ℕ) → is_digit v ≡ false → (n : ℕ) → has v (decimal n) ≡ false
decimal-without v e n = digits-without v (decimal n) e (decimal-digits n)

decimal_short : (k n : ℕ) → length (decimal n) ≤ k → digits k (decimal n) ≡ true
decimal_short k n h = digits-all k (decimal n) (decimal-some n) h (decimal-digits n)

pub number-back : (n : ℕ) → n < 2 ^ 64 → (is_number (decimal n) ≡ true) × (number_of (decimal n) ≡ n)
unfolding is_number
number-back n h = (both (decimal_short 20 n (decimal_20 n h)) (rw (decimal-number n) (lt-ltb n (2 ^ 64) h)), decimal-number n)

-- ---- the size of a coordinate

good-two : (front back : List ℕ) → digits 7 front ≡ true → digits 3 back ≡ true → thousandths (front ∷ back ∷ []) ≤ limit → good_parts (front ∷ back ∷ []) ≡ true
unfolding good_parts
good-two front back d e h = rw (d, e) (le-leb (thousandths (front ∷ back ∷ [])) limit h)

module _ (n : ℕ) where
  -- its three decimals
  abbrev decimals_of : List ℕ
  decimals_of = digit (n / 100 % 10) ∷ digit (n / 10 % 10) ∷ digit (n % 10) ∷ []

  decimals_digits : all is_digit decimals_of ≡ true
  unfolding all
  decimals_digits =
      both (is_digit_lem (digit (n / 100 % 10)) (omega arith) (omega arith))
      (both (is_digit_lem (digit (n / 10 % 10)) (omega arith) (omega arith)) (both (is_digit_lem (digit (n % 10)) (omega arith) (omega arith)) refl))

  magnitude_parts : split 46 (magnitude_text n) ≡ decimal (n / 1000) ∷ decimals_of ∷ []
  unfolding magnitude_text
  magnitude_parts =
      split-joined 46 (decimal (n / 1000)) (decimal-without 46 refl (n / 1000)) decimals_of
      ∙ ap (λ (ps : List (List ℕ)). decimal (n / 1000) ∷ ps) (split-whole 46 decimals_of (digits-without 46 decimals_of refl decimals_digits))

  magnitude_thousandths : thousandths (split 46 (magnitude_text n)) ≡ n
  unfolding thousandths number_of number_from
  magnitude_thousandths = rw magnitude_parts (omega (arith, decimal-number (n / 1000)))

  magnitude_good : n ≤ limit → good_parts (split 46 (magnitude_text n)) ≡ true
  magnitude_good h =
      let size : thousandths (decimal (n / 1000) ∷ decimals_of ∷ []) ≤ limit = rw (sym (ap thousandths magnitude_parts) ∙ magnitude_thousandths) h in
      rw magnitude_parts
      (good-two (decimal (n / 1000)) decimals_of (decimal_short 7 (n / 1000) (decimal-length 6 (n / 1000) (omega arith))) (digits-all 3 decimals_of (omega arith) (omega arith) decimals_digits) size)

  no_minus : has_minus (magnitude_text n) ≡ false
  unfolding has_minus magnitude_text
  no_minus =
      let first = digit_low (get_or (decimal (n / 1000)) 0 0) (all_at is_digit (decimal (n / 1000)) 0 0 (decimal-some (n / 1000)) (decimal-digits (n / 1000))) in
      rw (get_or-append (decimal (n / 1000)) (46 ∷ decimals_of) 0 0 (decimal-some (n / 1000)))
      (ne_eqb (get_or (decimal (n / 1000)) 0 0) 45 (λ e. omega (arith, first)))

  magnitude_without : (v : ℕ) → is_digit v ≡ false → eqb 46 v ≡ false → has v (magnitude_text n) ≡ false
  unfolding magnitude_text has
  magnitude_without v e f =
      rw (has-append v (decimal (n / 1000)) (46 ∷ decimals_of), decimal-without v e (n / 1000), f)
      (digits-without v decimals_of e decimals_digits)

  magnitude_short : n ≤ limit → length (magnitude_text n) ≤ 11
  magnitude_short h = omega (arith, magnitude_length n, decimal-length 6 (n / 1000) (omega arith))

-- ---- coordinates

pub coordinate-back : (m : ℤ) → nat_abs m ≤ limit → (is_coordinate (coordinate_text m) ≡ true) × (millimetres (coordinate_text m) ≡ m)
unfolding is_coordinate millimetres coordinate_text
coordinate-back (pos n) h =
    let parts = minus_rest (magnitude_text n) false (sym (no_minus n)) in
    (rw parts (magnitude_good n h), rw (parts, no_minus n, magnitude_thousandths n))
coordinate-back (negsuc n) h =
    let parts = minus_rest (45 ∷ magnitude_text (suc n)) true refl in
    (rw parts (magnitude_good (suc n) h), rw (parts, magnitude_thousandths (suc n)))

-- a byte that is neither a digit, a minus nor a point is not there
pub coordinate-without : (v : ℕ) → is_digit v ≡ false → eqb 45 v ≡ false → eqb 46 v ≡ false → (m : ℤ) → has v (coordinate_text m) ≡ false
unfolding coordinate_text has
coordinate-without v e f g (pos n) = magnitude_without n v e g
coordinate-without v e f g (negsuc n) = rw f (magnitude_without (suc n) v e g)

pub coordinate-length : (m : ℤ) → nat_abs m ≤ limit → length (coordinate_text m) ≤ 12
unfolding coordinate_text
coordinate-length (pos n) h = omega (arith, magnitude_short n h)
coordinate-length (negsuc n) h = omega (arith, magnitude_short (suc n) h)

pub coordinate-size : (field : List ℕ) → is_coordinate field ≡ true → nat_abs (millimetres field) ≤ limit
unfolding is_coordinate millimetres
coordinate-size field e = rw (size-signed (has_minus field) (thousandths (parts_of field))) (good-are (parts_of field) e).within

pub millimetres-size : (field : List ℕ) (m : ℤ) → millimetres_in field ≡ some m → nat_abs m ≤ limit
unfolding millimetres_in
millimetres-size field m e = let t = told (is_coordinate field) (millimetres field) (sym e) in rw t.1 (coordinate-size field t.0)
