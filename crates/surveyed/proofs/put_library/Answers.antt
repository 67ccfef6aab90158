-- The marks go into the empty library.
-- Assumes nothing.
use mathlib.Core.Path.{refl, ◌∙◌}
use lib.Ieee.{of_bits}
use borrow.Author.Rules.{rules}
use Rattle.table.specs.Lent.{lent_mut}
use Rattle.rows.specs.Insert.{inserted}
use Rattle.outcome.specs.Outcome.{empty_library}
use Rattle.outcome.proofs.Reading.{of_lists}
use Rattle.mark_lists.specs.MarkLists.{marks_in}
use Rattle.mark_lists.specs.Lent.{lent}
use Rattle.surveyed.proofs.Texts.{on-sheet}
use Rattle.surveyed.proofs.put_library.Goals as goal

pub returns : goal.returns
unfolding empty_library of_bits
returns c =
    let a = c.args in
    let r = c.insert_marks-answer in
    let p = of_lists a.sheet (inserted r.result) c.put_outcome.new.text c.put_outcome.result (lent_mut r.new.library) c.put_outcome.ensures
    (search rules) (search rules) (search rules) (search rules) (search rules) refl in
    (p.0, p.1 ∙ on-sheet a.sheet c.requires (marks_in (lent a.marks.lists)) (lent_mut r.new.library) r.result r.ensures.inserts)
