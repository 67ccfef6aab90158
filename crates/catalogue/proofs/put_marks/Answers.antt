-- The marks go into the empty library.
-- Assumes nothing.
use mathlib.Core.Path.{refl}
use lib.Ieee.{of_bits}
use borrow.Author.Rules.{rules}
use Rattle.table.specs.Lent.{lent_mut}
use Rattle.rows.specs.Insert.{inserted}
use Rattle.outcome.specs.Outcome.{empty_library}
use Rattle.outcome.proofs.Reading.{of_lists}
use Rattle.catalogue.proofs.Laws.{judged}
use Rattle.catalogue.proofs.put_marks.Goals as goal

pub returns : goal.returns
unfolding empty_library of_bits
returns g c =
    let r = c.insert_file-answer in
    let p = of_lists c.args.sheet (inserted r.result) c.put_outcome.new.text c.put_outcome.result
    (lent_mut r.new.library) c.put_outcome.ensures (search rules) (search rules) (search rules) (search rules) (search rules) refl in
    record {
      prefix_len = p.0;
      judged = judged c.args.sheet c.requires r.result (lent_mut r.new.library) _ r.ensures.read p.1;
    }
