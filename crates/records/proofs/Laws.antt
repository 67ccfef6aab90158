-- Laws of numbers and records in bytes.
-- Assumes nothing.
use Prim.Native.Nat.{ℕ, suc, ◌+◌, ◌<◌, ◌/◌}
use native.Mathlib.Omega.{arith}
use mathlib.Core.Path.{◌≡◌, refl, sym, ap, ◌∙◌}
use mathlib.Core.List.{List, [], ◌∷◌}
use lib.ListN.{length, get_or, take, drop}
use lib.Ieee.{Float}
use lib.Seq.{drop-cons, take-take}
use Rattle.std.specs.Simd.{first_chunks}
use Rattle.std.proofs.lemmas.List.{drop-drop, drop-take}
use Rattle.std.specs.Int.{from_le_bytes}
use mir.Syntax.{w64}
use Rattle.records.specs.Records.{little_endian, number_at, float_at, record_at}

-- ---- numbers

one : (l : List ℕ) (j k : ℕ) → j < length l → take (suc k) (drop j l) ≡ get_or l j 0 ∷ take k (drop (suc j) l)
one l j k h = rw (drop-cons l j 0 h)

-- the number in eight bytes, as std sums it up
pub eight_bytes : (l : List ℕ) (n : ℕ) → length l ≡ 8 → n ≡ from_le_bytes w64 l → n ≡ number_at l 0
unfolding number_at
eight_bytes l n h e =
    let split : little_endian (take 8 (drop 0 l)) ≡ from_le_bytes w64 l =
    rw (
      one l 0 7 (omega arith),
      one l 1 6 (omega arith),
      one l 2 5 (omega arith),
      one l 3 4 (omega arith),
      one l 4 3 (omega arith),
      one l 5 2 (omega arith),
      one l 6 1 (omega arith),
      one l 7 0 (omega arith),
    )
    (omega arith)
    in e ∙ sym split

-- ---- records

-- the eights of 32 bytes
eights : (l : List ℕ) → first_chunks 8 4 l ≡ take 8 l ∷ take 8 (drop 8 l) ∷ take 8 (drop 16 l) ∷ take 8 (drop 24 l) ∷ []
eights l =
    ap (λ m. take 8 l ∷ take 8 (drop 8 l) ∷ take 8 m ∷ take 8 (drop 8 m) ∷ []) (drop-drop 8 8 l)
    ∙ ap (λ m. take 8 l ∷ take 8 (drop 8 l) ∷ take 8 (drop 16 l) ∷ take 8 m ∷ []) (drop-drop 8 16 l)

-- the number in a part is the one at its place in the whole
in_part : (l : List ℕ) (at k m : ℕ) → number_at (take (k + (8 + m)) (drop at l)) k ≡ number_at l (at + k)
unfolding number_at
in_part l at k m =
    ap (λ p. little_endian (take 8 p)) (drop-take k (8 + m) (drop at l))
    ∙ ap little_endian (take-take 8 (8 + m) (drop k (drop at l)) (omega arith))
    ∙ ap (λ p. little_endian (take 8 p)) (drop-drop k at l)

-- the record of the numbers and floats in the eights
pub of-eights : (l : List ℕ) (parts : List (List ℕ)) (n : ℕ) (x y z : Float) → length l ≡ 32
    → parts ≡ first_chunks 8 (length l / 8) l
    → n ≡ number_at (get_or parts 0 []) 0
    → x ≡ float_at (get_or parts 1 []) 0
    → y ≡ float_at (get_or parts 2 []) 0
    → z ≡ float_at (get_or parts 3 []) 0
    → record { id = n; x = x; y = y; z = z } ≡ record_at l 0
unfolding record_at float_at
of-eights l parts n x y z len p en ex ey ez =
    let four : parts ≡ take 8 l ∷ take 8 (drop 8 l) ∷ take 8 (drop 16 l) ∷ take 8 (drop 24 l) ∷ [] =
    p ∙ ap (λ (k : ℕ). first_chunks 8 (k / 8) l) len ∙ eights l
    in
    rw (en, ex, ey, ez, four, in_part l 0 0 0, in_part l 8 0 0, in_part l 16 0 0, in_part l 24 0 0) refl

-- a record that is cut out
pub cut_out : (l : List ℕ) (at : ℕ) → record_at (take 32 (drop at l)) 0 ≡ record_at l at
unfolding record_at float_at
cut_out l at =
    let same : at + 0 ≡ at = omega arith in
    rw (in_part l at 0 24, in_part l at 8 16, in_part l at 16 8, in_part l at 24 0, same) refl
