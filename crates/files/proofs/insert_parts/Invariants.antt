-- Invariant: the library is the one that the parts read so far leave. Assumes nothing.
use Rattle.table.specs.Lent.{lent_mut, SameLists}
use Rattle.files.specs.Read.{MoreRead}
use Rattle.files.proofs.insert_parts.Given as goal

abbrev pub invariant-loop : goal.invariant-loop
invariant-loop g l = MoreRead l.width l.sheet (lent_mut l.fn.library) (lent_mut l.library) × SameLists l.fn.library l.library
