-- Laws of texts in buffers, of decimal numbers and of lists of them.
-- Assumes nothing.
use Prim.Native.Nat.{ℕ, zero, suc, ◌+◌, ◌-◌, ◌*◌, ◌/◌, ◌%◌, ◌^◌, ◌≤◌, ◌<◌}
use native.Mathlib.Numerals.{add-one}
use native.Mathlib.Nat.{le_of_lt, zero-add, add-zero, add-suc, suc-add, add_assoc, div-lt_iff_lt-mul, pow-suc}
use native.Mathlib.Omega.{arith}
use mathlib.Core.Path.{◌≡◌, refl, sym, ap, ◌∙◌}
use mathlib.Core.Bool.{true, false}
use mathlib.Core.List.{List, [], ◌∷◌, ◌++◌, append-nil, append_assoc}
use lib.Dec.{ltb}
use lib.ListN.{length, take, drop, get_or, length-append, take-append-drop, get_or-append}
use lib.Seq.{sets, length-sets, take-suc, length-take-le, take-append_seam}
use borrow.Author.Tests.{lt-ltb, le-ltb, ltb-true, ltb-false}
use mathlib.Core.Logic.{◌⊎◌, inl, inr}
use Rattle.basics.proofs.Bools.{which, by_test}
use Rattle.basics.specs.Lists.{over}
use Rattle.basics.proofs.Stores.{sets_append, sets_front}
use Rattle.text.specs.declared.Writer.{Writer}
use Rattle.text.specs.Writers.{Puts}
use Rattle.text.specs.Text.{number_from, number_of, ascii, digit, decimal_digits, decimal, entry_text, entries, list_text, refusal, Put, Front}

-- ---- texts in a buffer

pub put-nothing : (l : List ℕ) (at : ℕ) → Put [] l at l at
put-nothing l at = record { stands = refl; past = sym (add-zero at) }

-- one text after another
pub put_both : {a b l l' l'' : List ℕ} {at next past : ℕ} → Put a l at l' next → Put b l' next l'' past → Put (a ++ b) l at l'' past
put_both {a} {b} {l} {at = at} p q = record {
  stands = q.stands ∙ rw (p.stands, p.past) (sym (sets_append a b l at));
  past = q.past ∙ rw (p.past, length-append) (add_assoc at (length a) (length b));
}

pub put-length : {a l l' : List ℕ} {at next : ℕ} → Put a l at l' next → length l' ≡ length l
put-length {a} {l} {at = at} p = rw p.stands (length-sets l at a)

-- ---- the same of a writer

pub puts_nothing : (w : Writer) → Puts [] w w
puts_nothing w = record { same = refl; put = put-nothing w.buffer.now w.at }

-- one text after another
pub puts_both : {a b : List ℕ} {w w' w'' : Writer} → Puts a w w' → Puts b w' w'' → Puts (a ++ b) w w''
puts_both p q = record { same = q.same ∙ p.same; put = put_both p.put q.put }

-- ---- a text at the front of a buffer

-- a text that the buffer has room for, put at its front
pub put-over : {a l l' : List ℕ} {next : ℕ} → Put a l 0 l' next → length a ≤ length l → l' ≡ over a l
unfolding over
put-over {a} {l} p h = p.stands ∙ sets_front a l h

pub over-front : (text entry exit : List ℕ) (r : ℕ) → exit ≡ over text entry → r ≡ length text → Front text exit r
unfolding over
over-front text entry exit r e n =
    let front : take r exit ≡ text = rw (e, n) (take-append_seam text (drop (length text) entry)) in
    let long : length exit ≡ length text + length (drop (length text) entry) = rw e (length-append text (drop (length text) entry)) in
    ((omega (arith, n, long), n ∙ sym (ap length front)), front)

pub put_front : {text entry exit : List ℕ} {r : ℕ} → Put text entry 0 exit r → length text ≤ length entry → Front text exit r
put_front {text} {entry} {exit} {r} p h = over-front text entry exit r (put-over p h) (omega (arith, p.past))

-- A text that is being put: what is left of it makes of the buffer as it is now what the whole makes of the buffer at the start.
pub record Left (text l : List ℕ) (at : ℕ) (l' : List ℕ) (next : ℕ) (left : List ℕ) : Type 0 where
  pub to_stand : sets l' next left ≡ sets l at text
  pub to_pass : next + length left ≡ at + length text
  pub same_length : length l' ≡ length l

pub left_start : (text l : List ℕ) (at : ℕ) → Left text l at l at text
left_start text l at = record { to_stand = refl; to_pass = refl; same_length = refl }

pub left_put : {text a b l l' l'' : List ℕ} {at next past : ℕ} → Left text l at l' next (a ++ b) → Put a l' next l'' past → Left text l at l'' past b
left_put {a = a} {b} {l' = l'} {next = next} w p = record {
  to_stand = rw (p.stands, p.past) (sym (sets_append a b l' next)) ∙ w.to_stand;
  to_pass = rw p.past (add_assoc next (length a) (length b) ∙ ap (λ (n : ℕ). next + n) (sym (length-append a b)) ∙ w.to_pass);
  same_length = put-length p ∙ w.same_length;
}

pub left_none : {text l l' : List ℕ} {at next : ℕ} → Left text l at l' next [] → Put text l at l' next
left_none {next = next} w = record { stands = w.to_stand; past = sym (add-zero next) ∙ w.to_pass }

-- ---- decimal numbers

-- any depth above n serves
enough : (k j n : ℕ) → n < k → n < j → decimal_digits k (ltb n 10) n ≡ decimal_digits j (ltb n 10) n
unfolding decimal_digits
enough zero j n h g = absurd (omega arith)
enough (suc k) zero n h g = absurd (omega arith)
enough (suc k) (suc j) n h g = go (enough k j (n / 10)) (which (ltb n 10))
  where
    go : (n / 10 < k → n / 10 < j → decimal_digits k (ltb (n / 10) 10) (n / 10) ≡ decimal_digits j (ltb (n / 10) 10) (n / 10))
        → (ltb n 10 ≡ true) ⊎ (ltb n 10 ≡ false) → decimal_digits (suc k) (ltb n 10) n ≡ decimal_digits (suc j) (ltb n 10) n
    go ih (inl e) = rw e
    go ih (inr e) =
        let ten : 10 ≤ n = ltb-false n 10 e in
        rw e (ap (λ (l : List ℕ). l ++ (digit (n % 10) ∷ [])) (ih (omega arith) (omega arith)))

pub decimal-small : (n : ℕ) → n < 10 → decimal n ≡ digit n ∷ []
unfolding decimal decimal_digits
decimal-small n h = rw (lt-ltb n 10 h)

pub decimal_step : (n : ℕ) → 10 ≤ n → decimal n ≡ decimal (n / 10) ++ (digit (n % 10) ∷ [])
unfolding decimal decimal_digits
decimal_step n h =
    rw (le-ltb n 10 h)
    (ap (λ (l : List ℕ). l ++ (digit (n % 10) ∷ [])) (enough n (suc (n / 10)) (n / 10) (omega arith) (omega arith)))

-- Decimal says its number: the digits stand for n, and the first is no 0 but where n is 0.

pub number_more : (n : ℕ) (ds : List ℕ) (d : ℕ) → number_from n (ds ++ (d ∷ [])) ≡ number_from n ds * 10 + (d - 48)
unfolding number_from
number_more n [] d = refl
number_more n (e ∷ ds) d = number_more (n * 10 + (e - 48)) ds d

says : (k n : ℕ) → n < k → number_of (decimal n) ≡ n
unfolding number_of number_from
says zero n h = absurd (omega arith)
says (suc k) n h = go (says k (n / 10)) (which (ltb n 10))
  where
    go : (n / 10 < k → number_of (decimal (n / 10)) ≡ n / 10) → (ltb n 10 ≡ true) ⊎ (ltb n 10 ≡ false) → number_of (decimal n) ≡ n
    go ih (inl e) = rw (decimal-small n (ltb-true n 10 e)) (omega arith)
    go ih (inr e) =
        let ten : 10 ≤ n = ltb-false n 10 e in
        rw (decimal_step n ten, number_more 0 (decimal (n / 10)) (digit (n % 10))) (let front = ih (omega arith) in omega arith)

pub decimal-number : (n : ℕ) → number_of (decimal n) ≡ n
decimal-number n = says (suc n) n (omega arith)

pub decimal-some : (n : ℕ) → 0 < length (decimal n)
decimal-some n = by_test (ltb n 10) (λ e. rw (decimal-small n (ltb-true n 10 e)) (omega arith)) λ e. rw (decimal_step n (ltb-false n 10 e), length-append) (omega arith)

first_of : (k n : ℕ) → n < k → 0 < n → 48 < get_or (decimal n) 0 0
first_of zero n h g = absurd (omega arith)
first_of (suc k) n h g = go (first_of k (n / 10)) (which (ltb n 10))
  where
    go : (n / 10 < k → 0 < n / 10 → 48 < get_or (decimal (n / 10)) 0 0) → (ltb n 10 ≡ true) ⊎ (ltb n 10 ≡ false) → 48 < get_or (decimal n) 0 0
    go ih (inl e) = rw (decimal-small n (ltb-true n 10 e)) (omega arith)
    go ih (inr e) =
        let ten : 10 ≤ n = ltb-false n 10 e in
        rw (decimal_step n ten, get_or-append (decimal (n / 10)) _ 0 0 (decimal-some (n / 10))) (ih (omega arith) (omega arith))

pub decimal-first : (n : ℕ) → 0 < n → 48 < get_or (decimal n) 0 0
decimal-first n h = first_of (suc n) n (omega arith) h

-- a number below 10 ^ k has at most k digits
pub decimal-length : (k n : ℕ) → n < 10 ^ suc k → length (decimal n) ≤ suc k
decimal-length zero n h = rw (decimal-small n h) (omega arith)
decimal-length (suc k) n h = go (decimal-length k (n / 10)) (which (ltb n 10))
  where
    go : (n / 10 < 10 ^ suc k → length (decimal (n / 10)) ≤ suc k) → (ltb n 10 ≡ true) ⊎ (ltb n 10 ≡ false) → length (decimal n) ≤ suc (suc k)
    go ih (inl e) = rw (decimal-small n (ltb-true n 10 e)) (omega arith)
    go ih (inr e) =
        rw (decimal_step n (ltb-false n 10 e), length-append)
        (let short = ih ((div-lt_iff_lt-mul {k = 10} {x = n} (omega arith)).1 (rw (pow-suc 10 (suc k)) at h)) in omega arith)

-- a u64 has at most 20 digits
pub decimal_20 : (n : ℕ) → n < 2 ^ 64 → length (decimal n) ≤ 20
decimal_20 n h = decimal-length 19 n (omega arith)

-- ---- numbers in a row

module _ (between : List ℕ) where
  pub entry_first : (i n : ℕ) → i ≡ 0 → entry_text between i n ≡ decimal n
  unfolding entry_text
  entry_first i n e = rw e

  pub entry_next : (i n : ℕ) → (i ≡ 0 → ⊥) → entry_text between i n ≡ between ++ decimal n
  unfolding entry_text
  entry_next zero n e = absurd (e refl)
  entry_next (suc i) n e = refl

  pub entries-append : (i : ℕ) (a b : List ℕ) → entries between i (a ++ b) ≡ entries between i a ++ entries between (i + length a) b
  unfolding entries
  entries-append i [] b = rw add-zero
  entries-append i (n ∷ a) b = rw (entries-append (suc i) a b, append_assoc, add-suc, suc-add)

  -- one entry more
  pub entries_more : (ns : List ℕ) (i : ℕ) → i < length ns → entries between 0 (take (i + 1) ns) ≡ entries between 0 (take i ns) ++ entry_text between i (get_or ns i 0)
  unfolding entries
  entries_more ns i h =
      rw (add-one, take-suc ns i 0 h, entries-append 0 (take i ns), append-nil)
      (rw (zero-add, length-take-le i ns (le_of_lt h)))

  -- the first entries are no longer than all
  pub entries-front : (ns : List ℕ) (i : ℕ) → length (entries between 0 (take i ns)) ≤ length (entries between 0 ns)
  entries-front ns i =
      omega (
        arith,
        ap (λ (l : List ℕ). length (entries between 0 l)) (take-append-drop i ns),
        simp length-append at (ap length (entries-append 0 (take i ns) (drop i ns))),
      )

pub list_length : (ns : List ℕ) → length (list_text ns) ≡ length (entries (ascii ", ") 0 ns) + 2
unfolding list_text
list_length ns = simp length-append (omega arith)

pub refusal_length : (ns : List ℕ) → length (refusal ns) ≡ length (entries (ascii " ") 0 ns) + 9
unfolding refusal
refusal_length ns = simp length-append (omega arith)

-- the line of one number
pub refusal_short : (n : ℕ) → n < 2 ^ 64 → length (refusal (n ∷ [])) ≤ 29
unfolding entries entry_text
refusal_short n h = omega (arith, refusal_length (n ∷ []), decimal_20 n h, length-append (decimal n) [])

-- that of a number and what belongs to it
pub refusal_of_two : (n m : ℕ) → n < 2 ^ 64 → m < 2 ^ 64 → length (refusal (n ∷ m ∷ [])) ≤ 50
unfolding entries entry_text
refusal_of_two n m h k =
    omega (arith, refusal_length (n ∷ m ∷ []), decimal_20 n h, decimal_20 m k, length-append (decimal n) ((ascii " " ++ decimal m) ++ []), length-append (ascii " " ++ decimal m) [])
