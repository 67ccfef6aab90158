-- By the two answers of the sheet.
-- Assumes nothing.
use mathlib.Core.Path.{ap}
use Rattle.grid_search.specs.Sheet.{made}
use Rattle.catalogue.proofs.Laws.{of_refusal}
use Rattle.catalogue.proofs.put_catalogue.Goals as goal

pub put_marks-requires : goal.put_marks-requires
put_marks-requires g c = c.requires c.in-Ok.good (ap made c.in-Ok.is)

pub returns-in-Ok : goal.returns-in-Ok
returns-in-Ok g c = record { prefix_len = c.put_marks.ensures.prefix_len; judged = rw c.in-Ok.is c.put_marks.ensures.judged }

pub returns-in-Err : goal.returns-in-Err
returns-in-Err g c = record { prefix_len = c.put_refused.ensures.0; judged = rw c.in-Err.is (of_refusal _ _ c.put_refused.ensures.1) }
