-- `search` meets its contract: a law for each way out.
-- Assumes nothing.
use Rattle.std.proofs.Common.{◌≡◌, length-take, arith, sym, ap, ◌∙◌}
use Rattle.basics.specs.declared.Refusal.TheVariants.{Ratio}
use Rattle.basics.specs.Refusals.{success}
use Rattle.basics.proofs.Answers.{raised_answer}
use Rattle.table.proofs.First.{rising}
use Rattle.table.proofs.Libraries.{ordered}
use Rattle.rows.proofs.Answers.{called, called_sheet, called_order, called_at, called_key, called_container, called_exceeds}
use Rattle.search.specs.Search.{id_of}
use Rattle.search.proofs.Answers.{search-first, search_exceeds, search_finds}
use Rattle.search.proofs.search.Goals as goal

pub returns-in_err-call_fault : goal.returns-in_err-call_fault
returns-in_err-call_fault c =
    raised_answer id_of c.in_err-call_fault.field-0.0 c.from_residual.result c.from_residual.ensures
    ∙ search-first c.args.sheet _ c.args.x.now (sym c.in_err-call_fault.ensures)

pub invariant_of-calc_container_key : goal.invariant_of-calc_container_key
invariant_of-calc_container_key c = record { two_or_three = (called_sheet c.args.sheet _ _ (called c.args.sheet _ c.args.x.now (sym c.in_ok-call_fault.ensures))).axes }

pub calc_container_key-place-requires : goal.calc_container_key-place-requires
calc_container_key-place-requires c =
    let d = called_sheet c.args.sheet _ _ (called c.args.sheet _ c.args.x.now (sym c.in_ok-call_fault.ensures)) in
    record { divisions = d.divisions }

pub returns-in_err-key : goal.returns-in_err-key
returns-in_err-key c =
    let s = c.args.sheet in
    let k = called s _ c.args.x.now (sym c.in_ok-call_fault.ensures) in
    let exceeds = c.in_err-key.ensures.ok_part in
    let value = rw exceeds at c.in_err-key.ensures.value in
    let ratio : c.in_err-key.field-0.0 ≡ Ratio = cc in
    raised_answer id_of Ratio c.from_residual-in_err-key.result (rw ratio at c.from_residual-in_err-key.ensures)
    ∙ search_exceeds s _ _ k (called_exceeds s _ _ k c.new-at.ensures (sym c.calc_container_key-place.ensures ∙ exceeds))

pub slice_bounds-first_of-end : goal.slice_bounds-first_of-end
slice_bounds-first_of-end c =
    let o = called_order c.args.sheet _ _ (called c.args.sheet _ c.args.x.now (sym c.in_ok-call_fault.ensures)) in
    omega (arith, o.room.0, length-take c.args.library.used c.args.library.keys.now)

pub first_of-from-requires : goal.first_of-from-requires
first_of-from-requires c = rising (ordered (called_order c.args.sheet _ _ (called c.args.sheet _ c.args.x.now (sym c.in_ok-call_fault.ensures))))

pub find_from-requires : goal.find_from-requires
find_from-requires c =
    let s = c.args.sheet in
    let k = called s _ c.args.x.now (sym c.in_ok-call_fault.ensures) in
    record {
      axes = (called_sheet s _ _ k).axes;
      inside = called_container s _ _ k c.new-at.ensures (sym c.calc_container_key-place.ensures ∙ c.in_ok-key.ensures.ok_part);
      ordered = called_order s _ _ k;
      first = c.first_of-from.ensures;
    }

pub returns : goal.returns
returns c =
    let s = c.args.sheet in
    let k = called s _ c.args.x.now (sym c.in_ok-call_fault.ensures) in
    let n = c.new-at.ensures in
    ap success c.find_from.ensures ∙ search_finds s _ _ k (called_at s _ _ k n) (called_key s _ _ k n (sym c.calc_container_key-place.ensures ∙ c.in_ok-key.ensures.ok_part)).0
