-- The bytes are those that were read. Assumes nothing.
use Rattle.table.specs.Lent.{lent_mut}
use Rattle.files.proofs.Parts.{parted}
use Rattle.files.proofs.insert_part.Goals as goal

pub returns-clause-read : goal.returns-clause-read
returns-clause-read g c =
    let a = c.args in
    rw c.part_of.ensures (parted a.width a.sheet (lent_mut a.library.now) _ _ _ _ _ c.insert_records-answer.ensures.inserts)
