-- By what reading the record tells. Assumes nothing.
use mathlib.Core.Path.{refl, sym}
use Rattle.basics.proofs.Answers.{raised_answer}
use Rattle.loading.proofs.Marks.{of_record, no_record}
use Rattle.loading.proofs.insert_record.Goals as goal

pub returns-in_err-mark-clause-inserts : goal.returns-in_err-mark-clause-inserts
returns-in_err-mark-clause-inserts c =
    rw (no_record _ _ _ _ (sym c.in_err-mark.ensures), raised_answer _ c.in_err-mark.field-0.0 c.from_residual.result c.from_residual.ensures) (record { answers = refl; library-is = refl })

pub returns-clause-inserts : goal.returns-clause-inserts
returns-clause-inserts c = rw (of_record _ _ _ _ (sym c.in_ok-mark.ensures)) c.insert_mark.ensures.inserts
