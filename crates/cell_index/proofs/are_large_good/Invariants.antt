-- `cell_index::are_large_good` meets its contract. Invariant: the flag says it of those passed, and the last is never passed.
-- Assumes nothing.
use Rattle.std.proofs.Common.{ℕ, ◌≡◌, ◌-◌, ◌<◌, ◌≤◌, ◌&&◌, ltb, length, drop, get_or}
use Rattle.std.specs.Slice.Iter.{windows_size, windows_rest}
use Rattle.basics.specs.Lists.{tab}
use Rattle.cell_index.specs.Index.{good_numbers}
use Rattle.cell_index.proofs.Linked.{linked}
use Rattle.cell_index.proofs.are_large_good.Given as goal

abbrev pub invariant-loop-pair : goal.invariant-loop-pair
invariant-loop-pair l =
    let n = length l.large in
    let left = windows_rest l.pair-iterator in
    (good_numbers l.ncell l.large
    ≡ (l.ok && linked (λ (k : ℕ). ltb k l.ncell) ltb (drop (n - length left) (tab n (λ (j : ℕ). get_or l.large j 0)))))
    × (windows_size l.pair-iterator ≡ 2)
    × (0 < length left)
    × (length left ≤ n)
    × (left ≡ drop (n - length left) l.large)
