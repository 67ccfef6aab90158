use Rattle.std.proofs.Common.{sym, ◌∙◌, arith}
use Rattle.listing.proofs.Containers.{end_past}
use Rattle.listing.proofs.Walks.{walked_near, walked_far}
use Rattle.listing.proofs.walk.Walk.next_rows.Goals as goal

pub returns-then-container_near-clause-walked : goal.returns-then-container_near-clause-walked
returns-then-container_near-clause-walked c = λ marks w.
    walked_near w c.args.self.known.checked.room.0 (omega (arith, w.upto, c.if-from.false)) c.requires.in_use c.container_end-end.ensures (sym c.if-container_near.true ∙ c.container_near.ensures)

pub returns-else-container_near-clause-walked : goal.returns-else-container_near-clause-walked
returns-else-container_near-clause-walked c = λ marks w.
    walked_far w c.args.self.known.checked.room.0 (omega (arith, w.upto, c.if-from.false)) c.requires.in_use c.container_end-end.ensures (sym c.if-container_near.false ∙ c.container_near.ensures)

pub returns-then-container_near-clause-further : goal.returns-then-container_near-clause-further
returns-then-container_near-clause-further c =
    let l = c.args.self.library in
    omega (arith, c.container_end-end.ensures, end_past l.keys.now l.used c.args.from.row c.args.self.known.checked.room.0 c.requires.in_use)

pub returns-else-container_near-clause-further : goal.returns-else-container_near-clause-further
returns-else-container_near-clause-further c =
    let l = c.args.self.library in
    omega (arith, c.container_end-end.ensures, end_past l.keys.now l.used c.args.from.row c.args.self.known.checked.room.0 c.requires.in_use)
