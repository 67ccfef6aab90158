-- `lists_fault` meets its contract: a law for each way out.
-- Assumes nothing.
use Rattle.std.proofs.Common.{sym, ◌∙◌}
use Rattle.basics.proofs.Answers.{raised_fault}
use Rattle.directory.proofs.Passing.{long-list, damaged, bad-places, sound-places}
use Rattle.directory.proofs.lists_fault.Goals as goal

pub returns-then-is_too_long : goal.returns-then-is_too_long
returns-then-is_too_long c = sym (long-list c.args.sheet _ _ (sym c.is_too_long.ensures ∙ c.if-is_too_long.true))

pub returns-in_err-library_fault : goal.returns-in_err-library_fault
returns-in_err-library_fault c =
    raised_fault c.in_err-library_fault.field-0.0 c.from_residual.result c.from_residual.ensures
    ∙ sym (damaged c.args.sheet _ _ (sym c.is_too_long.ensures ∙ c.if-is_too_long.false) (sym c.in_err-library_fault.ensures))

pub returns-then-not-is_layout_sound : goal.returns-then-not-is_layout_sound
returns-then-not-is_layout_sound c =
    sym
    (bad-places c.args.sheet _ _ (sym c.is_too_long.ensures ∙ c.if-is_too_long.false) (sym c.in_ok-library_fault.ensures)
    (sym c.is_layout_sound.ensures ∙ c.if-not-is_layout_sound.true))

pub returns : goal.returns
returns c =
    sym
    (sound-places c.args.sheet _ _ (sym c.is_too_long.ensures ∙ c.if-is_too_long.false) (sym c.in_ok-library_fault.ensures)
    (sym c.is_layout_sound.ensures ∙ c.if-not-is_layout_sound.false))
