-- The parts are the eights of the bytes. Assumes nothing.
use Rattle.records.proofs.Laws.{of-eights}
use Rattle.records.proofs.record_of.Goals as goal

pub returns : goal.returns
returns c =
    of-eights c.args.bytes.now c.as_chunks.result.0.now _ _ _ _ c.told-bytes c.as_chunks.ensures.front
    c.number_of.ensures c.float_of.ensures c.float_of-2.ensures c.float_of-3.ensures
