-- Text as the list of its bytes, in ASCII, and what a buffer holds once a text was put into it.
-- Assumes nothing.
use Rattle.std.specs.Prelude.{ℕ, zero, suc, ◌+◌, ◌-◌, ◌*◌, ◌/◌, ◌%◌, ◌≤◌, ◌≡◌, Bool, true, false, List, [], ◌∷◌, ◌++◌, ltb, length, take}
use Prim.Native.Char.{code}
use Prim.Native.String.{String}
use Prim.Native.String as string
use Rattle.std.proofs.lemmas.List.Edits.{sets}

-- the bytes of a text that is written out here
abbrev pub ascii : String → List ℕ
ascii string.[] = []
ascii (string.◌∷◌ c rest) = code c ∷ ascii rest

-- ---- numbers

-- the ASCII code of a digit
abbrev pub digit : ℕ → ℕ
digit d = 48 + d

-- The digits of n, the most significant first, where `below` says whether n is below 10. The first argument bounds the
-- depth and is no part of the meaning: any number above n serves.
unfoldable pub decimal_digits : ℕ → Bool → ℕ → List ℕ
decimal_digits zero below n = []
decimal_digits (suc k) true n = digit n ∷ []
decimal_digits (suc k) false n = decimal_digits k (ltb (n / 10) 10) (n / 10) ++ (digit (n % 10) ∷ [])

-- a number in decimal, with no needless zero in front: Rust's `{}`
unfoldable pub decimal : ℕ → List ℕ
unfolding decimal_digits
decimal n = decimal_digits (suc n) (ltb n 10) n

-- the number that digits stand for, after those that stand for n
unfoldable pub number_from : ℕ → List ℕ → ℕ
number_from n [] = n
number_from n (d ∷ ds) = number_from (n * 10 + (d - 48)) ds

-- the number that digits stand for
unfoldable pub number_of : List ℕ → ℕ
unfolding number_from
number_of ds = number_from 0 ds

-- ---- numbers in a row, with a text between them

-- the number at an index: past the first it has that text in front
unfoldable pub entry_text : List ℕ → ℕ → ℕ → List ℕ
unfolding decimal
entry_text between zero n = decimal n
entry_text between (suc i) n = between ++ decimal n

-- the numbers from an index on
unfoldable pub entries : List ℕ → ℕ → List ℕ → List ℕ
unfolding entry_text
entries between i [] = []
entries between i (n ∷ ns) = entry_text between i n ++ entries between (suc i) ns

-- a list of numbers, as [3, 7]: Rust's `{:?}`
unfoldable pub list_text : List ℕ → List ℕ
unfolding entries
list_text ns = ascii "[" ++ (entries (ascii ", ") 0 ns ++ ascii "]")

-- the line that a program prints where something is turned away: `refused 13`, or with what belongs to it, `refused 27 4`
unfoldable pub refusal : List ℕ → List ℕ
unfolding entries
refusal ns = ascii "refused " ++ (entries (ascii " ") 0 ns ++ ascii "\n")

-- ---- a text in a lent buffer

-- The text stands in the buffer from a place on, as far as the buffer goes, the rest is as it was, and `next` is the place
-- past the text, within the buffer or not. (`sets l i vs` is l with vs stored entry by entry from index i; a store past
-- the end stores nothing.)
pub record Put (text entry : List ℕ) (at : ℕ) (exit : List ℕ) (next : ℕ) : Type 0 where
  pub stands : exit ≡ sets entry at text
  pub past : next ≡ at + length text

-- A text that stands at the front of a buffer, and its length r. The second of the three follows from the others: it is stated so
-- that the proof of `&buffer[..r]` finds it.
abbrev pub Front : List ℕ → List ℕ → ℕ → Type 0
Front text exit r = ((r ≤ length exit) × (r ≡ length (take r exit))) × (take r exit ≡ text)
