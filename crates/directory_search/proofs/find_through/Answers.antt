-- `find_through` meets its contract: no place is found and no row is near, or the rows of the place found are walked.
-- Assumes nothing.
use Rattle.std.proofs.Common.{sym, ap, ◌∙◌, arith, length-take-le}
use Rattle.geometry.specs.Position.{coords}
use Rattle.search.specs.Search.{id_of}
use Rattle.table.specs.Lent.{lent}
use Rattle.directory.specs.Lent.{kept}
use Rattle.directory.specs.Calls.{look_of, place_told}
use Rattle.directory.proofs.Passing.{passing, place-room}
use Rattle.directory_search.proofs.Answers.{passed_sheet, passed_keys, passed_nowhere, passed_there, passed_small, passed_order, passed_from, passed_near}
use Rattle.directory_search.proofs.find_through.Goals as goal

pub slice_bounds-find_place-end : goal.slice_bounds-find_place-end
slice_bounds-find_place-end c = sym (length-take-le _ _ (passed_keys c.args.sheet _ _ c.requires.passing))

pub returns-in_err-place : goal.returns-in_err-place
returns-in_err-place c =
    let a = c.args in
    ap id_of c.from_residual.ensures
    ∙ passed_nowhere a.sheet (lent a.library) (kept a.directory) c.requires.passing a.key (look_of c.find_place.result) c.find_place.ensures
    (ap place_told c.in_err-place.was) (coords a.sheet.ndim a.x) c.requires.inside

pub entry-entry-requires : goal.entry-entry-requires
entry-entry-requires c =
    let a = c.args in
    let p = passed_there a.sheet (lent a.library) (kept a.directory) c.requires.passing a.key (look_of c.find_place.result) c.find_place.ensures (ap place_told c.in_ok-place.was) in
    let room = place-room (kept a.directory) (passing a.sheet (lent a.library) (kept a.directory) c.requires.passing).places-sound in
    (omega (arith, p, room.0), (omega (arith, p, room.1.0), (omega (arith, p, room.1.1.0), tt)))

pub end_of-requires : goal.end_of-requires
end_of-requires c =
    let a = c.args in
    rw c.entry-entry.ensures
    (passed_small a.sheet (lent a.library) (kept a.directory) c.requires.passing a.key (look_of c.find_place.result) c.find_place.ensures (ap place_told c.in_ok-place.was))

pub find_from-requires-clause-axes : goal.find_from-requires-clause-axes
find_from-requires-clause-axes c = (passed_sheet c.args.sheet (lent c.args.library) (kept c.args.directory) c.requires.passing).axes

pub find_from-requires-clause-ordered : goal.find_from-requires-clause-ordered
find_from-requires-clause-ordered c =
    let a = c.args in
    passed_order a.sheet (lent a.library) (kept a.directory) c.requires.passing a.key (look_of c.find_place.result) c.find_place.ensures
    (ap place_told c.in_ok-place.was) {from = c.entry-entry.result.first}
    (rw c.entry-entry.ensures) (c.end_of.ensures ∙ rw c.entry-entry.ensures)

pub find_from-requires-clause-first : goal.find_from-requires-clause-first
find_from-requires-clause-first c =
    let a = c.args in
    passed_from a.sheet (lent a.library) (kept a.directory) c.requires.passing a.key (look_of c.find_place.result) c.find_place.ensures
    (ap place_told c.in_ok-place.was) {from = c.entry-entry.result.first}
    (rw c.entry-entry.ensures) (c.end_of.ensures ∙ rw c.entry-entry.ensures)

pub returns : goal.returns
returns c =
    let a = c.args in
    c.find_from.ensures
    ∙ passed_near a.sheet (lent a.library) (kept a.directory) c.requires.passing a.key (look_of c.find_place.result) c.find_place.ensures
    (ap place_told c.in_ok-place.was) {from = c.entry-entry.result.first}
    (rw c.entry-entry.ensures) (c.end_of.ensures ∙ rw c.entry-entry.ensures) (coords a.sheet.ndim a.x) c.requires.inside
