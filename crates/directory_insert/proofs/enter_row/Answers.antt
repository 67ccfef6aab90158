-- `enter_row` meets its contract: the laws of one more row whose container has a place, and of one that opens a place.
-- Assumes nothing.
use Rattle.std.proofs.Common.{ℕ, ◌+◌, true, false, arith, rules, take, get_or, ◌≡◌, ◌∙◌, sym, ap}
use Rattle.table.specs.Rows.{lead}
use Rattle.directory.specs.Directory.{Directory}
use Rattle.directory.specs.Lent.{kept_mut}
use Rattle.directory_insert.specs.Posts.{found}
use Rattle.directory_insert.proofs.Places.{moved_up}
use Rattle.directory_insert.proofs.Directories.{enter-most, enter_there, enter-count, entered_there, enter-room, entered_new_place}
use Rattle.directory_insert.proofs.enter_row.Goals as goal

-- what is told of the places as they are seen holds of them
module _ {seen d : Directory} (same : seen ≡ d) (key : ℕ) where
  at_of : {at : ℕ} → at ≡ lead key (take d.used seen.keys) → at ≡ lead key (take d.used d.keys)
  at_of e = e ∙ ap (λ (x : Directory). lead key (take d.used x.keys)) same

  has_of : found key (take d.used seen.keys) ≡ true → found key (take d.used d.keys) ≡ true
  has_of e = sym (ap (λ (x : Directory). found key (take d.used x.keys)) same) ∙ e

  has_not : found key (take d.used seen.keys) ≡ false → found key (take d.used d.keys) ≡ false
  has_not e = sym (ap (λ (x : Directory). found key (take d.used x.keys)) same) ∙ e

pub slice_bounds-move_up-count : goal.slice_bounds-move_up-count
slice_bounds-move_up-count c =
    let same = c.as_directory-before.ensures in
    let there = enter_there c.args.key c.args.rows _ c.requires (at_of same c.args.key c.in-Ok.ensures.0) (has_of same c.args.key c.in-Ok.ensures.1) in
    omega (arith, there)

pub slice_bounds-move_up-start : goal.slice_bounds-move_up-start
slice_bounds-move_up-start c =
    let same = c.as_directory-before.ensures in
    let there = enter_there c.args.key c.args.rows _ c.requires (at_of same c.args.key c.in-Ok.ensures.0) (has_of same c.args.key c.in-Ok.ensures.1) in
    search (rules, there, c.requires.room.1.0)

pub offset_bounds-directory-at-in-Ok : goal.offset_bounds-directory-at-in-Ok
offset_bounds-directory-at-in-Ok c =
    let same = c.as_directory-before.ensures in
    let there = enter_there c.args.key c.args.rows _ c.requires (at_of same c.args.key c.in-Ok.ensures.0) (has_of same c.args.key c.in-Ok.ensures.1) in
    search (rules, there, c.requires.room.1.1.0)

pub offset_bounds-directory-at-in-Err : goal.offset_bounds-directory-at-in-Err
offset_bounds-directory-at-in-Err c =
    let most = enter-most c.args.key c.args.rows _ c.requires (at_of c.as_directory-before.ensures c.args.key c.in-Err.ensures.0) in
    search (rules, most, c.requires.room.1.0)

pub slice_bounds-move_up-count-in-Err : goal.slice_bounds-move_up-count-in-Err
slice_bounds-move_up-count-in-Err c =
    let most = enter-most c.args.key c.args.rows _ c.requires (at_of c.as_directory-before.ensures c.args.key c.in-Err.ensures.0) in
    omega (arith, most)

pub slice_bounds-move_up-start-in-Err : goal.slice_bounds-move_up-start-in-Err
slice_bounds-move_up-start-in-Err c =
    let most = enter-most c.args.key c.args.rows _ c.requires (at_of c.as_directory-before.ensures c.args.key c.in-Err.ensures.0) in
    search (rules, most)

pub overflow_add-at : goal.overflow_add-at
overflow_add-at c =
    let same = c.as_directory-before.ensures in
    let there = enter_there c.args.key c.args.rows _ c.requires (at_of same c.args.key c.in-Ok.ensures.0) (has_of same c.args.key c.in-Ok.ensures.1) in
    record { fits = omega (arith, c.requires.room.0) }

pub offset_bounds-directory-at : goal.offset_bounds-directory-at
offset_bounds-directory-at c =
    let same = c.as_directory-before.ensures in
    let there = enter_there c.args.key c.args.rows _ c.requires (at_of same c.args.key c.in-Ok.ensures.0) (has_of same c.args.key c.in-Ok.ensures.1) in
    search (rules, there, c.requires.room.1.1.0)

pub bounds-directory-at : goal.bounds-directory-at
bounds-directory-at c =
    let same = c.as_directory-before.ensures in
    let there = enter_there c.args.key c.args.rows _ c.requires (at_of same c.args.key c.in-Ok.ensures.0) (has_of same c.args.key c.in-Ok.ensures.1) in
    omega (arith, c.requires.room.1.1.0)

pub overflow_add-directory : goal.overflow_add-directory
overflow_add-directory c =
    let same = c.as_directory-before.ensures in
    record { fits = omega (arith, enter-count c.args.key c.args.rows _ c.requires (at_of same c.args.key c.in-Ok.ensures.0) (has_of same c.args.key c.in-Ok.ensures.1)) }

pub bounds-directory-at-in-Ok : goal.bounds-directory-at-in-Ok
bounds-directory-at-in-Ok c =
    let same = c.as_directory-before.ensures in
    let there = enter_there c.args.key c.args.rows _ c.requires (at_of same c.args.key c.in-Ok.ensures.0) (has_of same c.args.key c.in-Ok.ensures.1) in
    omega (arith, c.requires.room.1.1.0)

pub returns-in-Ok-clause-enters : goal.returns-in-Ok-clause-enters
returns-in-Ok-clause-enters c =
    let same = c.as_directory-before.ensures in
    let at = at_of same c.args.key c.in-Ok.ensures.0 in
    let has = has_of same c.args.key c.in-Ok.ensures.1 in
    let there = enter_there c.args.key c.args.rows _ c.requires at has in
    entered_there c.args.key c.args.rows _ c.requires at has
    (moved_up (c.in-Ok.at + 1) _ _ (omega (arith, there)) c.requires.room.1.0 c.move_up.ensures)

pub raise-requires : goal.raise-requires
raise-requires c =
    let at = at_of c.as_directory-before.ensures c.args.key c.in-Err.ensures.0 in
    let none = has_not c.as_directory-before.ensures c.args.key c.in-Err.ensures.1 in
    (enter-most c.args.key c.args.rows _ c.requires at, omega (arith, enter-room c.args.key c.args.rows _ c.requires at none))

pub raise-requires-in-Err : goal.raise-requires-in-Err
raise-requires-in-Err c =
    let at = at_of c.as_directory-before.ensures c.args.key c.in-Err.ensures.0 in
    let none = has_not c.as_directory-before.ensures c.args.key c.in-Err.ensures.1 in
    (enter-most c.args.key c.args.rows _ c.requires at, omega (arith, enter-room c.args.key c.args.rows _ c.requires at none))

pub raise-requires-in-Err-2 : goal.raise-requires-in-Err-2
raise-requires-in-Err-2 c =
    let at = at_of c.as_directory-before.ensures c.args.key c.in-Err.ensures.0 in
    let none = has_not c.as_directory-before.ensures c.args.key c.in-Err.ensures.1 in
    (enter-most c.args.key c.args.rows _ c.requires at, omega (arith, enter-room c.args.key c.args.rows _ c.requires at none))

pub returns-in-Err-clause-enters : goal.returns-in-Err-clause-enters
returns-in-Err-clause-enters c =
    let d = kept_mut c.args.directory.now in
    let at = at_of c.as_directory-before.ensures c.args.key c.in-Err.ensures.0 in
    let none = has_not c.as_directory-before.ensures c.args.key c.in-Err.ensures.1 in
    let told : c.unwrap_or-first.result ≡ get_or (take d.used c.as_directory-before.result.firsts.now) c.in-Err.at c.args.rows = search rules in
    let first = told ∙ ap (λ (x : Directory). get_or (take d.used x.firsts) c.in-Err.at c.args.rows) c.as_directory-before.ensures in
    entered_new_place c.args.key c.args.rows _ c.requires at none first
    (moved_up _ _ _ (enter-most c.args.key c.args.rows _ c.requires at) c.requires.room.1.0 c.move_up-in-Err.ensures) c.raise.ensures c.raise-in-Err.ensures c.raise-in-Err-2.ensures
