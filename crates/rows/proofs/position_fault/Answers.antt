-- `position_fault` meets its contract: a law for each way out.
-- Assumes nothing.
use Rattle.std.proofs.Common.{sym, ◌∙◌, ne_eqb}
use Rattle.rows.proofs.Found.{bad-length, bad_coordinates, bad-place, placed}
use Rattle.rows.proofs.position_fault.Goals as goal

pub returns-then-x-ndim : goal.returns-then-x-ndim
returns-then-x-ndim c = sym (bad-length c.args.sheet c.args.x.now (ne_eqb _ _ c.if-x-ndim.true))

pub returns-then-not-all_coordinates : goal.returns-then-not-all_coordinates
returns-then-not-all_coordinates c = sym (bad_coordinates c.args.sheet c.args.x.now c.if-x-ndim.false (sym c.all_coordinates.ensures ∙ c.if-not-all_coordinates.true))

pub returns-then-is_outside : goal.returns-then-is_outside
returns-then-is_outside c =
    sym
    (bad-place c.args.sheet c.args.x.now c.requires c.if-x-ndim.false c.new.result c.new.ensures (sym c.all_coordinates.ensures ∙ c.if-not-all_coordinates.false)
    (sym c.is_outside.ensures ∙ c.if-is_outside.true))

pub returns : goal.returns
returns c =
    sym
    (placed c.args.sheet c.args.x.now c.requires c.if-x-ndim.false c.new.result c.new.ensures (sym c.all_coordinates.ensures ∙ c.if-not-all_coordinates.false)
    (sym c.is_outside.ensures ∙ c.if-is_outside.false))
