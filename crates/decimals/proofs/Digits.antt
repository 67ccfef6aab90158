-- Digits, the numbers that they stand for, and the walk that reads them.
-- Assumes nothing.
use Prim.Native.Nat.{ℕ, suc, ◌+◌, ◌-◌, ◌*◌, ◌^◌, ◌≤◌, ◌<◌}
use native.Mathlib.Numerals.{add-one}
use native.Mathlib.Nat.{zero-add, add-zero, add-suc, suc-add, pow-suc, pow-le-pow_right}
use native.Mathlib.Omega.{arith}
use mathlib.Core.Path.{◌≡◌, refl, sym, ◌∙◌}
use mathlib.Core.Bool.{Bool, true, false, cond, ◌&&◌}
use mathlib.Core.Option.{none, some}
use mathlib.Core.List.{List, [], ◌∷◌, ◌++◌}
use lib.Dec.{leb, eqb}
use lib.ListN.{length, get_or, drop, drop_of_length-le}
use lib.Seq.{drop-cons}
use borrow.Author.Tests.{leb-true, le-leb, lt-leb, eqb-true}
use Rattle.basics.specs.Lists.{all, has}
use Rattle.basics.proofs.Bools.{by_test, clash, both, and_left, and_right}
use Rattle.basics.proofs.Walks.{all_stop, all-next, all_end}
use Rattle.text.specs.Text.{number_from, number_of}
use Rattle.decimals.specs.Decimals.{is_digit, digits}
use Rattle.decimals.specs.Posts.{digit_in, digits_in}

-- ---- an answer that is something where a test holds

pub told : {A : Type 0} {x : A} (b : Bool) (a : A) → some x ≡ cond b (some a) none → (b ≡ true) × (x ≡ a)
told true a e = (refl, cc)
told false a e = absurd (let z : ◌≡◌ {A = ℕ} 0 1 = cc in omega arith)

pub untold : {A : Type 0} (b : Bool) (a : A) → none ≡ cond b (some a) none → b ≡ false
untold true a e = absurd (let z : ◌≡◌ {A = ℕ} 0 1 = cc in omega arith)
untold false a e = refl

-- ---- every entry of two lists joined

pub all_append : (p : ℕ → Bool) (a b : List ℕ) → all p (a ++ b) ≡ (all p a && all p b)
unfolding all
all_append p [] b = refl
all_append p (x ∷ a) b = by_test (p x) (λ e. rw e (all_append p a b)) (λ e. rw e)

-- ---- a digit

pub digit_low : (b : ℕ) → is_digit b ≡ true → 48 ≤ b
digit_low b e = leb-true 48 b (and_left (leb 48 b) (leb b 57) e)

pub digit-high : (b : ℕ) → is_digit b ≡ true → b ≤ 57
digit-high b e = leb-true b 57 (and_right (leb 48 b) (leb b 57) e)

pub is_digit_lem : (b : ℕ) → 48 ≤ b → b ≤ 57 → is_digit b ≡ true
is_digit_lem b l h = both (le-leb 48 b l) (le-leb b 57 h)

-- a byte that is no digit is in no digits
pub digits-without : (v : ℕ) (ds : List ℕ) → is_digit v ≡ false → all is_digit ds ≡ true → has v ds ≡ false
unfolding all has
digits-without v [] f e = refl
digits-without v (d ∷ ds) f e =
    by_test (eqb d v)
    (λ q. clash (rw (eqb-true d v q) at (and_left (is_digit d) (all is_digit ds) e)) f)
    (λ q. rw q (digits-without v ds f (and_right (is_digit d) (all is_digit ds) e)))

-- ---- the number that digits stand for

below_ten : (n d k : ℕ) → n < 10 ^ k → is_digit d ≡ true → n * 10 + (d - 48) < 10 ^ suc k
below_ten n d k h e = rw pow-suc (omega (arith, digit-high d e))

below-from : (n k : ℕ) (ds : List ℕ) → n < 10 ^ k → all is_digit ds ≡ true → number_from n ds < 10 ^ (k + length ds)
unfolding all number_from
below-from n k [] h e = rw add-zero h
below-from n k (d ∷ ds) h e =
    rw (add-suc, ← suc-add)
    (below-from (n * 10 + (d - 48)) (suc k) ds (below_ten n d k h (and_left (is_digit d) (all is_digit ds) e)) (and_right (is_digit d) (all is_digit ds) e))

-- ---- a field of at most k digits

pub record Digits (k : ℕ) (field : List ℕ) : Type 0 where
  pub some : 1 ≤ length field
  pub most : length field ≤ k
  pub each : all is_digit field ≡ true

pub digits_are : (k : ℕ) (field : List ℕ) → digits k field ≡ true → Digits k field
unfolding digits
digits_are k field e =
    let rest = and_right (leb 1 (length field)) (leb (length field) k && all is_digit field) e in
    record {
      some = leb-true 1 (length field) (and_left (leb 1 (length field)) (leb (length field) k && all is_digit field) e);
      most = leb-true (length field) k (and_left (leb (length field) k) (all is_digit field) rest);
      each = and_right (leb (length field) k) (all is_digit field) rest;
    }

-- k digits stand for a number below 10 ^ k
pub digits-below : (k : ℕ) (field : List ℕ) → digits k field ≡ true → number_of field < 10 ^ k
unfolding number_of
digits-below k field e =
    let d = digits_are k field e in
    let small = rw zero-add at (below-from 0 0 field (omega arith) d.each) in
    omega (arith, small, pow-le-pow_right {n = 10} (omega arith) d.most)

-- up to nineteen fit
pub digits_fit : (k : ℕ) (field : List ℕ) → k ≤ 19 → digits k field ≡ true → number_of field < 2 ^ 64
digits_fit k field h e = omega (arith, digits-below k field e, pow-le-pow_right {n = 10} (omega arith) {i = k} {j = 19} h)

-- ---- the ways out of reading it

module _ (k : ℕ) (field : List ℕ) where
  pub digits_empty : length field ≡ 0 → digits_in k field ≡ none
  unfolding digits_in digits
  digits_empty e = rw e

  pub digits_long : k < length field → digits_in k field ≡ none
  unfolding digits_in digits
  digits_long h = rw (le-leb 1 (length field) (omega arith), lt-leb (length field) k h)

  pub digits-other : all is_digit field ≡ false → digits_in k field ≡ none
  unfolding digits_in digits
  digits-other e = rw e (by_test (leb 1 (length field)) (λ p. rw p (by_test (leb (length field) k) (λ q. rw q) (λ q. rw q))) (λ p. rw p))

  pub digits-all : 1 ≤ length field → length field ≤ k → all is_digit field ≡ true → digits k field ≡ true
  unfolding digits
  digits-all l h e = both (le-leb 1 (length field) l) (both (le-leb (length field) k h) e)

  pub digits-good : digits k field ≡ true → digits_in k field ≡ some (number_of field)
  unfolding digits_in
  digits-good e = rw e

  pub digits-told : {n : ℕ} → some n ≡ digits_in k field → (digits k field ≡ true) × (n ≡ number_of field)
  unfolding digits_in
  digits-told e = told (digits k field) (number_of field) e

  pub digits_untold : none ≡ digits_in k field → digits k field ≡ false
  unfolding digits_in
  digits_untold e = untold (digits k field) (number_of field) e

-- ---- the walk: what is known once the first i are digits that stand for n

pub digit_small : (b : ℕ) {d : ℕ} → some d ≡ digit_in b → d ≤ 9
digit_small b e = let t = told (is_digit b) (b - 48) e in omega (arith, digit-high b t.0, t.1)

pub record Walk (field : List ℕ) (n i : ℕ) : Type 0 where
  pub good : all is_digit field ≡ all is_digit (drop i field)
  pub number : number_of field ≡ number_from n (drop i field)
  pub below : n < 10 ^ i

module _ (field : List ℕ) where
  pub walk_start : Walk field 0 0
  unfolding number_of
  walk_start = record { good = refl; number = refl; below = omega arith }

  module _ (n i : ℕ) (w : Walk field n i) where
    -- nineteen digits fit
    pub walk-room : i < length field → length field ≤ 19 → n < 10 ^ 18
    walk-room h l = omega (arith, w.below, pow-le-pow_right {n = 10} (omega arith) {i = i} {j = 18} (omega arith))

    -- the next byte is no digit
    pub walk_stop : (k : ℕ) → i < length field → none ≡ digit_in (get_or field i 0) → none ≡ digits_in k field
    walk_stop k h e = sym (digits-other k field (all_stop is_digit field i w.good 0 h (untold (is_digit (get_or field i 0)) (get_or field i 0 - 48) e)))

    pub walk-next : (d : ℕ) → i < length field → some d ≡ digit_in (get_or field i 0) → Walk field (n * 10 + d) (i + 1)
    unfolding number_from
    walk-next d h e =
        let t = told (is_digit (get_or field i 0)) (get_or field i 0 - 48) e in
        record {
          good = all-next is_digit field i w.good 0 h t.0;
          number = w.number ∙ rw (drop-cons field i 0 h, add-one, t.1);
          below = rw (add-one, t.1) (below_ten n (get_or field i 0) i w.below t.0);
        }

    pub walk_end : (k : ℕ) → 1 ≤ length field → length field ≤ k → length field ≤ i → some n ≡ digits_in k field
    unfolding number_from
    walk_end k l m h =
        let number : number_of field ≡ n = w.number ∙ rw (drop_of_length-le field {i = i} h) in
        rw (digits-good k field (digits-all k field l m (all_end is_digit field i w.good h)), number)
