-- Laws of a run of stores, `sets l i vs`: vs stored entry by entry from index i on.
-- Assumes nothing.
use Prim.Native.Nat.{ℕ, suc, ◌+◌, ◌≤◌}
use native.Mathlib.Nat.{zero-add, add-zero, add-suc, suc-add}
use native.Mathlib.Omega.{arith}
use mathlib.Core.Path.{◌≡◌, ◌∙◌}
use mathlib.Core.List.{List, [], ◌∷◌, ◌++◌, append-nil}
use lib.ListN.{length, drop, set, drop_of_length-le}
use lib.Seq.{sets, sets-eq}

module _ {A : Type 0} where
  -- one run after another
  pub sets_append : (a b l : List A) (at : ℕ) → sets l at (a ++ b) ≡ sets (sets l at a) (at + length a) b
  sets_append [] b l at = rw add-zero
  sets_append (x ∷ a) b l at = sets_append a b (set l at x) (suc at) ∙ rw (add-suc, suc-add)

  -- the front is written, and the rest stays
  pub sets_front : (vs l : List A) → length vs ≤ length l → sets l 0 vs ≡ vs ++ drop (length vs) l
  sets_front vs l h = sets-eq vs l 0 (rw zero-add h) ∙ rw zero-add

  -- the whole list is written
  pub sets_whole : (vs l : List A) → length vs ≡ length l → sets l 0 vs ≡ vs
  sets_whole vs l e =
      let all : length l ≤ length vs = omega arith in
      sets_front vs l (omega arith) ∙ rw (drop_of_length-le l all, append-nil)
