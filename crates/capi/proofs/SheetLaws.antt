-- Laws of a sheet in two lists: what is written is read back as the same sheet (`read_back`), and lists that are read as a good sheet are those that are written for it (`lists-are`).
-- Assumes nothing.
use Prim.Native.Nat.{ℕ, zero, suc}
use native.Mathlib.Omega.{arith}
use mathlib.Core.Path.{◌≡◌, refl, sym, ◌∙◌}
use mathlib.Core.Logic.{◌⊎◌, inl, inr}
use mathlib.Core.Bool.{Bool, true, false, ◌&&◌, ◌||◌}
use mathlib.Core.List.{List, []}
use lib.Dec.{eqb}
use lib.ListN.{length, get_or}
use lib.Seq.{take_all}
use lib.Ieee.{Float, nan, fits}
use borrow.Author.Tests.{eqb-true}
use Rattle.basics.proofs.Bools.{by_test, and_both, or_either, clash}
use Rattle.basics.specs.Lists.{tab}
use Rattle.basics.proofs.Lists.{tab-take}
use Rattle.basics.specs.Refusals.{refused, success}
use Rattle.floats.specs.Rounded.{zero_f}
use Rattle.floats.specs.Tests.{same_bits, Binary64}
use Rattle.floats.proofs.Unique.{same_bits-same}
use Rattle.geometry.specs.Position.{dimension}
use Rattle.std.specs.Prelude.{Option, Some, None}
use Rattle.grid_search.specs.declared.GridSearch.{GridSearch}
use Rattle.grid_search.specs.Sheet.{new_sheet, sheet_ok}
use Rattle.grid_search.proofs.Good.{no_axes}
use Rattle.capi.specs.Sheets.{given, given_number, given_float, flag_of, entry_of, numbers_of, floats_of, sheet_lengths, number_read, float_read, readable, read_sheet, sheet_of, new_in_c, ToldSheet}

-- ---- what is written is read back
given_back : {A : Type 0} (empty : A) (g : Option A) → given (flag_of g) (entry_of empty g) ≡ g
given_back empty None = refl
given_back empty (Some a) = refl

number-reads : (g : Option ℕ) → number_read (flag_of g) (entry_of 0 g) ≡ true
number-reads None = refl
number-reads (Some n) = refl

float_reads : (g : Option Float) → float_read (flag_of g) (entry_of zero_f g) ≡ true
unfolding same_bits
float_reads None = refl
float_reads (Some x) = refl

pub read_back : (s : GridSearch) → dimension s.ndim ≡ true → sheet_of (numbers_of s) (floats_of s) ≡ s
unfolding sheet_of readable read_sheet
read_back s d =
    rw (d, number-reads s.number, float_reads s.tolerance, float_reads s.border_tol)
    (rw (given_back 0 s.number, given_back zero_f s.tolerance, given_back zero_f s.border_tol))

-- ---- damaged lists are no good sheet
pub damaged : (numbers : List ℕ) (floats : List Float) → readable numbers floats ≡ false → sheet_ok (sheet_of numbers floats) ≡ false
unfolding sheet_of read_sheet
damaged numbers floats h = rw h (no_axes (read_sheet [] []) refl)

pub good-readable : (numbers : List ℕ) (floats : List Float) → sheet_ok (sheet_of numbers floats) ≡ true → readable numbers floats ≡ true
good-readable numbers floats h = by_test (readable numbers floats) (λ e. e) (λ e. clash h (damaged numbers floats e))

-- ---- and the lists of a good one are those that are written for it
flag_case : (flag : ℕ) (b : Bool) → (eqb flag 1 || (eqb flag 0 && b)) ≡ true → (flag ≡ 1) ⊎ ((flag ≡ 0) × (b ≡ true))
flag_case flag b h = go (or_either (eqb flag 1) (eqb flag 0 && b) h)
  where
    go : (eqb flag 1 ≡ true) ⊎ ((eqb flag 0 && b) ≡ true) → (flag ≡ 1) ⊎ ((flag ≡ 0) × (b ≡ true))
    go (inl e) = inl (eqb-true flag 1 e)
    go (inr e) = let a = and_both (eqb flag 0) b e in inr (eqb-true flag 0 a.0, a.1)

number_kept : (flag n : ℕ) → number_read flag n ≡ true → (flag_of (given_number flag n) ≡ flag) × (entry_of 0 (given_number flag n) ≡ n)
number_kept flag n h =
    elim (flag_case flag (eqb n 0) h) [
      | inl e ↦ rw e (refl, refl)
      | inr e ↦ rw e.0 (refl, sym (eqb-true n 0 e.1))
    ]

float_kept : (flag : ℕ) (x : Float) → Binary64 x → float_read flag x ≡ true → (flag_of (given_float flag x) ≡ flag) × (entry_of zero_f (given_float flag x) ≡ x)
unfolding fits
float_kept flag x f h =
    elim (flag_case flag (same_bits x zero_f) h) [
      | inl e ↦ rw e (refl, refl)
      | inr e ↦ rw e.0 (refl, sym (same_bits-same x zero_f f zero_held e.1))
    ]
  where
    zero_held : Binary64 zero_f
    zero_held = tt

entries : {A : Type 0} (n : ℕ) (l : List A) (d : A) → length l ≡ n → tab n (λ i. get_or l i d) ≡ l
entries n l d e = tab-take n l d (omega arith) ∙ take_all n l (omega arith)

pub lists-are : (numbers : List ℕ) (floats : List Float) → Binary64 (get_or floats 6 nan) → Binary64 (get_or floats 7 nan) → readable numbers floats ≡ true
    → (numbers_of (sheet_of numbers floats) ≡ numbers) × (floats_of (sheet_of numbers floats) ≡ floats)
unfolding sheet_of readable read_sheet
lists-are numbers floats p q h =
    let a = and_both (sheet_lengths numbers floats) _ h in
    let l = and_both (eqb (length numbers) 8) (eqb (length floats) 17) a.0 in
    let b = and_both (dimension (get_or numbers 0 0)) _ a.1 in
    let c = and_both (number_read (get_or numbers 1 0) (get_or numbers 2 0)) _ b.1 in
    let d = and_both (float_read (get_or numbers 3 0) (get_or floats 6 nan)) (float_read (get_or numbers 4 0) (get_or floats 7 nan)) c.1 in
    let n = number_kept (get_or numbers 1 0) (get_or numbers 2 0) c.0 in
    let t = float_kept (get_or numbers 3 0) (get_or floats 6 nan) p d.0 in
    let o = float_kept (get_or numbers 4 0) (get_or floats 7 nan) q d.1 in (
      rw (h, n.0, n.1, t.0, o.0) (entries 8 numbers 0 (eqb-true (length numbers) 8 l.0)),
      rw (h, t.1, o.1) (entries 17 floats nan (eqb-true (length floats) 17 l.1)),
    )

-- ---- a flag that is not 0
pub given-is : {A : Type 0} (flag : ℕ) (a : A) → (flag ≡ 0 → ⊥) → Some a ≡ given flag a
given-is zero a h = absurd (h refl)
given-is (suc flag) a h = refl

-- ---- readable lists have their lengths
pub lengths_of : (numbers : List ℕ) (floats : List Float) → readable numbers floats ≡ true → (length numbers ≡ 8) × (length floats ≡ 17)
unfolding readable
lengths_of numbers floats h =
    let a = and_both (sheet_lengths numbers floats) _ h in
    let l = and_both (eqb (length numbers) 8) (eqb (length floats) 17) a.0 in
    (eqb-true (length numbers) 8 l.0, eqb-true (length floats) 17 l.1)

-- ---- what the call tells, by its ways
module _ (xmin xmax : List Float) (ndiv : Option ℕ) (tolerance border : Option Float) (numbers : List ℕ) (floats : List Float) where
  pub told_13 : sheet_lengths numbers floats ≡ false → ToldSheet (new_in_c xmin xmax ndiv tolerance border numbers floats) 13 numbers numbers floats floats
  unfolding new_in_c
  told_13 h = rw h (record { returned = refl; numbers-written = refl; floats-written = refl })

  pub told-refused : (n : ℕ) → sheet_lengths numbers floats ≡ true → refused n ≡ new_sheet xmin xmax ndiv tolerance border
      → ToldSheet (new_in_c xmin xmax ndiv tolerance border numbers floats) n numbers numbers floats floats
  unfolding new_in_c
  told-refused n h e = rw (h, ← e) (record { returned = refl; numbers-written = refl; floats-written = refl })

  pub told-sheet : (s : GridSearch) (numbers' : List ℕ) (floats' : List Float) → sheet_lengths numbers floats ≡ true
      → success s ≡ new_sheet xmin xmax ndiv tolerance border → numbers' ≡ numbers_of s → floats' ≡ floats_of s
      → ToldSheet (new_in_c xmin xmax ndiv tolerance border numbers floats) 0 numbers numbers' floats floats'
  unfolding new_in_c
  told-sheet s numbers' floats' h e p q = rw (h, ← e) (record { returned = refl; numbers-written = p; floats-written = q })
