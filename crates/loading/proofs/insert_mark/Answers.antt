-- The first floats of the record are its place on the sheet's axes. Assumes nothing.
use mathlib.Core.Path.{sym}
use Rattle.loading.proofs.insert_mark.Goals as goal

pub returns-clause-inserts : goal.returns-clause-inserts
returns-clause-inserts c =
    let a = c.args in
    let same = c.floats_read-n.ensures.same (record { x = a.mark.x; y = a.mark.y; z = a.mark.z }) in
    rw (sym same) c.insert.ensures.gives
