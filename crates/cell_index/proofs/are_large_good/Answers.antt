use Rattle.std.proofs.Common.{ℕ, ◌≡◌, ◌+◌, ◌-◌, ◌<◌, ◌≤◌, ◌&&◌, ltb, length, get_or, refl, sym, ap, ◌∙◌, arith}
use native.Mathlib.Nat.{add-zero}
use Rattle.std.proofs.lemmas.Iterator.{window_more}
use Rattle.std.proofs.lemmas.Option.{slice_get_within, get_or_from_slice_get}
use Rattle.std.specs.Slice.Iter.{windows_rest}
use Rattle.cell_index.proofs.Linked.{linked_turn, linked_end, numbers_linked, no_numbers}
use Rattle.cell_index.proofs.are_large_good.Goals as goal

pub returns-in_default : goal.returns-in_default
returns-in_default c = no_numbers c.args.ncell c.args.large.now (sym (rw c.in_default.is at c.last.ensures.value))

pub loop-pair-init : goal.loop-pair-init
loop-pair-init c =
    let l = c.args.large.now in
    let some = slice_get_within l (length l - 1) c.in-Some.last.now (sym c.in-Some.ensures.value) in
    let none : length l - length l ≡ 0 = omega arith in
    rw (c.into_iter-pair-iterator.ensures.into_iter_gives, c.windows-pair-items.ensures.rest, none) (
      numbers_linked c.args.ncell l,
      c.windows-pair-items.ensures.size,
      omega arith,
      omega arith,
      refl,
    )

pub loop-pair-preserved : goal.loop-pair-preserved
loop-pair-preserved c =
    let l = c.args.large.now in
    let v = c.loop-pair.invariant in
    let n = length (windows_rest c.loop-pair.pair-iterator) in
    let m = length (windows_rest c.next.new.self) in
    let h = window_more l c.loop-pair.pair-iterator c.next.new.self _ _ c.in-Some-pair.is c.next.ensures.steps (omega (arith, v.1)) v.3 v.4 in
    let first = h.3 0 0 (omega (arith, v.1)) in
    let second = h.3 1 0 (omega (arith, v.1)) in
    let two : 2 ≤ n = omega (arith, v.1, h.2) in
    let next : length l - m ≡ length l - n + 1 = omega (arith, h.0, v.3, two) in
    let turn = linked_turn (λ (k : ℕ). ltb k c.args.ncell) ltb (length l) (λ (i : ℕ). get_or l i 0) (length l - n) c.loop-pair.ok (omega (arith, v.3, two)) in (
      rw (first, add-zero, second, next) (v.0 ∙ turn),
      c.next.ensures.steps.0 ∙ v.1,
      omega (arith, h.0, two),
      omega (arith, h.0, v.3),
      h.1,
    )

pub returns : goal.returns
returns c =
    let l = c.args.large.now in
    let v = c.loop-pair.invariant in
    let n = length (windows_rest c.loop-pair.pair-iterator) in
    let short : n < 2 = omega (arith, v.1, c.in-None.ensures.steps.1.0) in
    let last = get_or_from_slice_get l (length l - 1) c.in-Some.last.now 0 (sym c.in-Some.ensures.value) in
    let end : length l - n ≡ length l - 1 = omega (arith, v.2, short) in
    let is_end = linked_end (λ (k : ℕ). ltb k c.args.ncell) ltb (length l) (λ (i : ℕ). get_or l i 0) (length l - n) c.loop-pair.ok (omega (arith, v.2, v.3)) (omega (arith, v.2, v.3, short)) in
    sym (v.0 ∙ is_end ∙ ap (λ (k : ℕ). c.loop-pair.ok && ltb k c.args.ncell) (ap (λ (i : ℕ). get_or l i 0) end ∙ last))
