-- By the two answers of the sheet.
-- Assumes nothing.
use mathlib.Core.Path.{sym, ap, ◌∙◌}
use Rattle.basics.specs.Answers.{refusal_number}
use Rattle.basics.specs.Refusals.{success}
use Rattle.grid_search.specs.Sheet.{made}
use Rattle.surveyed.proofs.Texts.{sheet-good, of_sheet_lem, no_sheet}
use Rattle.surveyed.proofs.put_marks.Goals as goal

pub put_library-requires : goal.put_library-requires
put_library-requires c = sheet-good _ c.in-Ok.sheet (sym c.sheet_of_marks.ensures ∙ ap made c.in-Ok.is)

pub returns-in-Ok : goal.returns-in-Ok
returns-in-Ok c =
    let p = c.put_library.ensures in
    (p.0, p.1 ∙ of_sheet_lem (success c.in-Ok.sheet) _ (sym (ap made c.in-Ok.is) ∙ c.sheet_of_marks.ensures))

pub returns-in-Err : goal.returns-in-Err
returns-in-Err c =
    let p = c.put_refused.ensures in
    (p.0, p.1 ∙ no_sheet (refusal_number c.in-Err.reason) _ (sym (ap made c.in-Err.is) ∙ c.sheet_of_marks.ensures))
