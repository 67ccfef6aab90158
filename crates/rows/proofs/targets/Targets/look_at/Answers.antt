-- `look_at` meets its contract: a law for each way out.
-- Assumes nothing.
use Rattle.std.proofs.Common.{sym, ◌∙◌, ap, Some}
use Rattle.rows.specs.Insert.{outside_sheet}
use Rattle.rows.proofs.Found.{located-key, located-not, look_outside, look_exceeds, look_joins}
use Rattle.rows.proofs.targets.Targets.look_at.Goals as goal

pub returns-in_err-key : goal.returns-in_err-key
unfolding outside_sheet
returns-in_err-key c =
    let exceeds = located-not c.args.sheet _ (sym c.calc_container_key.ensures ∙ c.in_err-key.was) in
    rw c.from_residual.ensures (look_exceeds c.args.sheet _ c.args.self.now (sym c.is_outside.ensures ∙ c.if-not-is_outside.true) exceeds)

pub returns-in_ok-key : goal.returns-in_ok-key
unfolding outside_sheet
returns-in_ok-key c =
    let f = located-key c.args.sheet _ (sym c.calc_container_key.ensures ∙ c.in_ok-key.was) in
    look_joins c.args.sheet _ c.args.self.now (sym c.is_outside.ensures ∙ c.if-not-is_outside.true) f ∙ ap Some (sym c.add.ensures)

pub returns-else-not-is_outside : goal.returns-else-not-is_outside
unfolding outside_sheet
returns-else-not-is_outside c = look_outside c.args.sheet _ c.args.self.now (sym c.is_outside.ensures ∙ c.if-not-is_outside.false)
