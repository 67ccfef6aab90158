-- A number of up to twenty digits: the ways out of reading it.
-- Assumes nothing.
use Prim.Native.Nat.{ℕ, ◌+◌, ◌-◌, ◌*◌, ◌^◌, ◌<◌}
use native.Mathlib.Omega.{arith}
use mathlib.Core.Path.{◌≡◌, sym, ◌∙◌}
use mathlib.Core.Bool.{true, false, ◌&&◌, and-true}
use mathlib.Core.Option.{none}
use mathlib.Core.List.{List, [], ◌∷◌, ◌++◌}
use lib.Dec.{leb}
use lib.ListN.{length, get_or, take, length-append}
use lib.Seq.{take-suc, take_all, length-take-le}
use borrow.Author.Tests.{leb-true, leb-false, le-leb, lt-leb, lt-ltb}
use Rattle.basics.specs.Lists.{all}
use Rattle.basics.proofs.Bools.{by_test}
use Rattle.text.specs.Text.{number_of}
use Rattle.text.proofs.Laws.{number_more}
use Rattle.decimals.specs.Decimals.{is_digit, digits, is_number, number_in}
use Rattle.decimals.specs.Posts.{digits_in, with_digit}
use Rattle.decimals.proofs.Digits.{all_append, digits_fit}

other_wide : (field : List ℕ) → (length field ≡ 20 → ⊥) → digits 20 field ≡ digits 19 field
unfolding digits
other_wide field f =
    by_test (leb (length field) 19)
    (λ e. rw (e, le-leb (length field) 20 (omega (arith, leb-true (length field) 19 e))))
    (λ e. rw (e, lt-leb (length field) 20 (long (leb-false (length field) 19 e))))
  where
    long : 19 < length field → 20 < length field
    long h = omega (arith, f)

-- nineteen digits or fewer always fit, and more than twenty are no number
pub number_other : (field : List ℕ) → (length field ≡ 20 → ⊥) → digits_in 19 field ≡ number_in field
unfolding digits_in number_in is_number
number_other field f =
    rw (other_wide field f)
    (by_test (digits 19 field) (λ e. rw (e, lt-ltb (number_of field) (2 ^ 64) (digits_fit 19 field (omega arith) e))) (λ e. rw e))

-- nineteen digits and one byte more
module _ (front : List ℕ) (b : ℕ) (l : length front ≡ 19) where
  last_good : digits 20 (front ++ (b ∷ [])) ≡ (digits 19 front && is_digit b)
  unfolding digits all
  last_good = rw (length-append front (b ∷ []), l, all_append is_digit front (b ∷ []), and-true (is_digit b))

  last_number : number_of (front ++ (b ∷ [])) ≡ number_of front * 10 + (b - 48)
  unfolding number_of
  last_number = number_more 0 front b

  pub last_bad : digits 19 front ≡ false → none ≡ number_in (front ++ (b ∷ []))
  unfolding number_in is_number
  last_bad e = rw (last_good, e)

  pub last_told : (n : ℕ) → digits 19 front ≡ true → n ≡ number_of front
      → with_digit n b ≡ number_in (front ++ (b ∷ []))
  unfolding number_in is_number
  last_told n e d = rw (last_good, e, last_number, d)

-- twenty bytes are such
module _ (field : List ℕ) (h : length field ≡ 20) where
  pub front_length : length (take 19 field) ≡ 19
  front_length = length-take-le 19 field (omega arith)

  pub front_last : field ≡ take 19 field ++ (get_or field 19 0 ∷ [])
  front_last = sym (take_all 20 field (omega arith)) ∙ take-suc field 19 0 (omega arith)
