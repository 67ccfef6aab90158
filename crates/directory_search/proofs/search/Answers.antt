-- `search` meets its contract: a law for each way out. In each answer `p` says that the library and the directory pass, and `k` that
-- the position does. Assumes nothing.
use Rattle.std.proofs.Common.{◌≡◌, sym, ap, ◌∙◌}
use Rattle.basics.specs.declared.Refusal.TheVariants.{Ratio}
use Rattle.basics.specs.Refusals.{success}
use Rattle.basics.proofs.Answers.{raised_answer}
use Rattle.table.specs.Lent.{lent}
use Rattle.rows.proofs.Answers.{called_at, called_key, called_container, called_exceeds}
use Rattle.search.specs.Search.{id_of}
use Rattle.search.proofs.Answers.{search_exceeds, search_finds}
use Rattle.directory.specs.Lent.{kept}
use Rattle.directory_search.proofs.Answers.{asked-first, asked-past, passed_sheet, passed_called, passed_turned}
use Rattle.directory_search.proofs.search.Goals as goal

pub returns-in_err-directory_fault : goal.returns-in_err-directory_fault
returns-in_err-directory_fault c =
    raised_answer id_of c.in_err-directory_fault.field-0.0 c.from_residual.result c.from_residual.ensures
    ∙ asked-first c.args.sheet _ _ _ (sym c.in_err-directory_fault.ensures)

pub position_fault-requires : goal.position_fault-requires
position_fault-requires c = (passed_sheet c.args.sheet (lent c.args.library) (kept c.args.directory) (sym c.in_ok-directory_fault.ensures)).axes

pub returns-in_err-position_fault : goal.returns-in_err-position_fault
returns-in_err-position_fault c =
    let a = c.args in
    let p = sym c.in_ok-directory_fault.ensures in
    raised_answer id_of c.in_err-position_fault.field-0.0 c.from_residual-in_err-position_fault.result c.from_residual-in_err-position_fault.ensures
    ∙ passed_turned a.sheet (lent a.library) (kept a.directory) p a.x.now (sym c.in_err-position_fault.ensures)
    ∙ asked-past a.sheet (lent a.library) (kept a.directory) _ p

pub invariant_of-calc_container_key : goal.invariant_of-calc_container_key
invariant_of-calc_container_key c = record { two_or_three = (passed_sheet c.args.sheet (lent c.args.library) (kept c.args.directory) (sym c.in_ok-directory_fault.ensures)).axes }

pub calc_container_key-place-requires : goal.calc_container_key-place-requires
calc_container_key-place-requires c = record { divisions = (passed_sheet c.args.sheet (lent c.args.library) (kept c.args.directory) (sym c.in_ok-directory_fault.ensures)).divisions }

pub returns-in_err-key : goal.returns-in_err-key
returns-in_err-key c =
    let a = c.args in
    let s = a.sheet in
    let l = lent a.library in
    let d = kept a.directory in
    let p = sym c.in_ok-directory_fault.ensures in
    let k = passed_called s l d p a.x.now (sym c.in_ok-position_fault.ensures) in
    let exceeds = c.in_err-key.ensures.ok_part in
    let value = rw exceeds at c.in_err-key.ensures.value in
    let ratio : c.in_err-key.field-0.0 ≡ Ratio = cc in
    raised_answer id_of Ratio c.from_residual-in_err-key.result (rw ratio at c.from_residual-in_err-key.ensures)
    ∙ search_exceeds s l _ k (called_exceeds s l _ k c.new-at.ensures (sym c.calc_container_key-place.ensures ∙ exceeds))
    ∙ asked-past s l d _ p

pub find_through-requires-clause-inside : goal.find_through-requires-clause-inside
find_through-requires-clause-inside c =
    let a = c.args in
    let p = sym c.in_ok-directory_fault.ensures in
    let k = passed_called a.sheet (lent a.library) (kept a.directory) p a.x.now (sym c.in_ok-position_fault.ensures) in
    called_container a.sheet (lent a.library) _ k c.new-at.ensures (sym c.calc_container_key-place.ensures ∙ c.in_ok-key.ensures.ok_part)

pub returns : goal.returns
returns c =
    let a = c.args in
    let s = a.sheet in
    let l = lent a.library in
    let d = kept a.directory in
    let p = sym c.in_ok-directory_fault.ensures in
    let k = passed_called s l d p a.x.now (sym c.in_ok-position_fault.ensures) in
    ap success c.find_through.ensures
    ∙ search_finds s l _ k (called_at s l _ k c.new-at.ensures)
    (called_key s l _ k c.new-at.ensures (sym c.calc_container_key-place.ensures ∙ c.in_ok-key.ensures.ok_part)).0
    ∙ asked-past s l d _ p
