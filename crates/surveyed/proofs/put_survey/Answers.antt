-- By the import's answers.
-- Assumes nothing.
use mathlib.Core.Path.{sym, ap, ◌∙◌, subst}
use lib.Ieee.{of_bits}
use Rattle.mark_lists.specs.MarkLists.{MarkList, marks_in}
use Rattle.mark_lists.specs.Posts.{Room}
use Rattle.mark_lists.specs.Lent.{lent_mut}
use Rattle.std.specs.Prelude.{Err}
use Rattle.survey_import.specs.declared.ImportError.{ImportError}
use Rattle.survey_import.specs.Import.{importing, Imports}
use Rattle.surveyed.specs.Surveyed.{empty_marks, of_marks}
use Rattle.surveyed.proofs.Texts.{few, marks_text, line_text_lem, refusal_text}
use Rattle.surveyed.proofs.put_survey.Goals as goal

pub invariant_of-marks : goal.invariant_of-marks
unfolding empty_marks of_bits
invariant_of-marks c = record {
  room =
      subst (λ (l : MarkList). Room l l.used) (sym c.as_lists.ensures)
      (few c.args.bytes.now (lent_mut c.import.new.lists) c.in-Ok.field-0 (rw (sym c.in-Ok.is) c.import.ensures.imports));
}

pub returns-in-Ok : goal.returns-in-Ok
unfolding empty_marks of_bits
returns-in-Ok c =
    let p = c.put_marks.ensures in
    let t = marks_text c.args.bytes.now (lent_mut c.import.new.lists) c.in-Ok.field-0 (rw (sym c.in-Ok.is) c.import.ensures.imports) in
    (p.0, p.1 ∙ ap (λ (l : MarkList). of_marks (marks_in l)) c.as_lists.ensures ∙ t)

pub returns-in-Err-Malformed : goal.returns-in-Err-Malformed
unfolding empty_marks of_bits
returns-in-Err-Malformed c =
    let p = c.put_refused_at.ensures in
    let i = subst (λ (e : ImportError). Imports (importing empty_marks c.args.bytes.now) (Err e) (lent_mut c.import.new.lists))
    c.in-Err-Malformed.field-0-is (rw (sym c.in-Err-Malformed.is) c.import.ensures.imports) in
    (p.0, cc (p.1, line_text_lem c.args.bytes.now (lent_mut c.import.new.lists) c.in-Err-Malformed.line i, c.in-Err-Malformed.line-is))

pub returns-in-Err-Refused : goal.returns-in-Err-Refused
unfolding empty_marks of_bits
returns-in-Err-Refused c =
    let p = c.put_refused.ensures in
    let i = subst (λ (e : ImportError). Imports (importing empty_marks c.args.bytes.now) (Err e) (lent_mut c.import.new.lists))
    c.in-Err-Refused.field-0-is (rw (sym c.in-Err-Refused.is) c.import.ensures.imports) in
    (p.0, cc (p.1, refusal_text c.args.bytes.now (lent_mut c.import.new.lists) c.in-Err-Refused.reason i, c.in-Err-Refused.reason-is))
