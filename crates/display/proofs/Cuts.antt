-- The rows in use, cut out of their lists.
-- Assumes nothing.
use Prim.Native.Nat.{ℕ, zero, suc, ◌<◌, zero-le, suc-le-suc}
use native.Mathlib.Omega.{arith}
use mathlib.Core.Path.{◌≡◌, refl, sym, ap, ap₂, ◌∙◌}
use mathlib.Core.List.{List, ◌∷◌}
use lib.ListN.{length, take}
use lib.Seq.{length-take-le, get_or-take}
use Rattle.basics.specs.Lists.{tab}
use Rattle.table.specs.Rows.{Slot, slotted, slot_at, slots_of}
use Rattle.table.specs.Posts.{Ordered}
use Rattle.display.proofs.Runs.{pairs}

tab_same : (n : ℕ) (f g : ℕ → Slot) → ((i : ℕ) → i < n → f i ≡ g i) → tab n f ≡ tab n g
tab_same zero f g h = refl
tab_same (suc n) f g h = ap₂ (λ (p : Slot) (l : List Slot). p ∷ l) (h 0 (suc-le-suc zero-le)) (tab_same n (λ i. f (suc i)) (λ i. g (suc i)) (λ i l. h (suc i) (suc-le-suc l)))

module _ {keys ids : List ℕ} {used : ℕ} (o : Ordered keys ids used) where
  pub cut_length : length (take used keys) ≡ used
  cut_length = length-take-le used keys o.in_keys

  pub cut_ids : length (take used ids) ≡ used
  cut_ids = length-take-le used ids o.in_ids

  pub cut_level : length (take used ids) ≡ length (take used keys)
  cut_level = cut_ids ∙ sym cut_length

  pub cut_slots : pairs (take used keys) (take used ids) ≡ slots_of keys ids used
  unfolding slots_of
  cut_slots =
      ap (λ (n : ℕ). tab n (slot_at (take used keys) (take used ids))) cut_length
      ∙ tab_same used (slot_at (take used keys) (take used ids)) (slot_at keys ids) (λ i h. ap₂ slotted (get_or-take used keys i 0 h) (get_or-take used ids i 0 h))

  pub cut_order : Ordered (take used keys) (take used ids) (length (take used keys))
  cut_order = record { in_keys = omega arith; in_ids = omega (arith, cut_level); order = rw cut_slots o.order }
