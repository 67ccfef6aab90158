-- What a stored row means: the order is kept, and each slot has the row that was put last.
-- Assumes nothing.
use mathlib.Core.Path.{◌≡◌, refl, sym, ◌∙◌, subst}
use mathlib.Core.Bool.{true, false, cond}
use mathlib.Core.List.{List, [], ◌∷◌, map}
use mathlib.Core.Option.{some}
use Rattle.basics.proofs.Bools.{by_test, clash, both, and_both}
use Rattle.table.specs.declared.Row.{Row}
use Rattle.table.specs.Rows.{Slot, slot_of, before, same, chain, sorted, put_row, row_for}
use Rattle.table.proofs.Order.{before_irrefl, before-total, same-eq}

-- ---- the order is kept

chain-put : (r : Row) (p : Slot) (rows : List Row) → before p (slot_of r) ≡ true → chain p (map slot_of rows) ≡ true → chain p (map slot_of (put_row r rows)) ≡ true
unfolding chain put_row
chain-put r p [] h e = rw h
chain-put r p (s ∷ rest) h e =
    let d = and_both (before p (slot_of s)) (chain (slot_of s) (map slot_of rest)) e in
    by_test (before (slot_of s) (slot_of r)) (λ b. rw b (both d.0 (chain-put r (slot_of s) rest b d.1)))
    (λ b.
    by_test (same (slot_of s) (slot_of r)) (λ g. rw (b, g) (both h (subst (λ (q : Slot). chain q (map slot_of rest) ≡ true) (same-eq _ _ g) d.1)))
    (λ g. rw (b, g) (both h (both (before-total (slot_of s) (slot_of r) b g) d.1))))

pub sorted-put : (r : Row) (rows : List Row) → sorted (map slot_of rows) ≡ true → sorted (map slot_of (put_row r rows)) ≡ true
unfolding sorted chain put_row
sorted-put r [] e = refl
sorted-put r (s ∷ rest) e =
    by_test (before (slot_of s) (slot_of r)) (λ b. rw b (chain-put r (slot_of s) rest b e))
    (λ b.
    by_test (same (slot_of s) (slot_of r)) (λ g. rw (b, g) (subst (λ (q : Slot). chain q (map slot_of rest) ≡ true) (same-eq _ _ g) e))
    (λ g. rw (b, g) (both (before-total (slot_of s) (slot_of r) b g) e)))

-- ---- the row of a slot is the one put last

pub row_for-put : (p : Slot) (r : Row) (rows : List Row) → row_for p (put_row r rows) ≡ cond (same (slot_of r) p) (some r) (row_for p rows)
unfolding row_for put_row
row_for-put p r [] = refl
row_for-put p r (s ∷ rest) =
    by_test (before (slot_of s) (slot_of r))
    (λ b.
    by_test (same (slot_of s) p)
    (λ g. by_test (same (slot_of r) p)
    (λ k. clash (subst (λ (q : Slot). before (slot_of s) q ≡ true) (same-eq _ _ k ∙ sym (same-eq _ _ g)) b) (before_irrefl (slot_of s)))
    (λ k. rw (b, g, k)))
    (λ g. rw (b, g) (row_for-put p r rest)))
    (λ b.
    by_test (same (slot_of s) (slot_of r))
    (λ g. by_test (same (slot_of r) p) (λ k. rw (b, g, k)) (λ k. rw (b, g, k, (subst (λ (q : Slot). same q p ≡ false) (sym (same-eq _ _ g)) k))))
    (λ g. rw (b, g)))
