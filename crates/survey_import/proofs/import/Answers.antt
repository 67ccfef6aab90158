-- Nothing is written before every line is judged and the marks have room.
-- Assumes nothing.
use Rattle.mark_lists.specs.Lent.{lent_mut}
use Rattle.survey_import.proofs.Answers.{refused-lists, refused-line, refused-room, store_room, stored_all, lines-good}
use Rattle.survey_import.proofs.import.Goals as goal

pub returns-in_err-fault-clause-imports : goal.returns-in_err-fault-clause-imports
returns-in_err-fault-clause-imports c = refused-lists (lent_mut c.args.lists.now) c.args.text.now c.in_err-fault.field-0.0 (rw c.as_lists.ensures at c.in_err-fault.ensures) _ c.from_residual.ensures

pub returns-in_err-count-clause-imports : goal.returns-in_err-count-clause-imports
returns-in_err-count-clause-imports c =
    refused-line (lent_mut c.args.lists.now) c.args.text.now (rw c.as_lists.ensures at c.in_ok-fault.ensures) c.in_err-count.ensures _
    c.from_residual-in_err-count.ensures

pub returns-then-count-lists-clause-imports : goal.returns-then-count-lists-clause-imports
returns-then-count-lists-clause-imports c =
    refused-room (lent_mut c.args.lists.now) c.args.text.now (rw c.as_lists.ensures at c.in_ok-fault.ensures) c.in_ok-count.ensures.0
    c.in_ok-count.ensures.1 c.if-count-lists.true

pub store-requires-clause-good : goal.store-requires-clause-good
store-requires-clause-good c = lines-good _ c.in_ok-count.ensures.0

pub store-requires-clause-room : goal.store-requires-clause-room
store-requires-clause-room c =
    store_room (lent_mut c.args.lists.now) c.args.text.now (rw c.as_lists.ensures at c.in_ok-fault.ensures) c.in_ok-count.ensures.0
    c.in_ok-count.ensures.1 c.if-count-lists.false

pub returns-clause-imports : goal.returns-clause-imports
returns-clause-imports c =
    stored_all (lent_mut c.args.lists.now) c.args.text.now (rw c.as_lists.ensures at c.in_ok-fault.ensures) c.in_ok-count.ensures.0
    c.in_ok-count.ensures.1 c.if-count-lists.false _ c.store.ensures.stores
