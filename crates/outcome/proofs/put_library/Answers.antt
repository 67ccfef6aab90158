-- The text fits, so that `display` refuses only a damaged library.
-- Assumes nothing.
use Rattle.std.proofs.Common.{◌≡◌, length, arith, rules, sym}
use Rattle.table.specs.Lent.{lent}
use Rattle.outcome.proofs.Texts.{shown-length, shown-refused, short_fits}
use Rattle.outcome.proofs.put_library.Goals as goal

pub returns-in-Ok : goal.returns-in-Ok
returns-in-Ok c = shown-length c.args.sheet (lent c.args.library) c.args.text.now _ c.in-Ok.n (rw (sym c.in-Ok.is) c.display.ensures.shows)

pub returns-in-Err : goal.returns-in-Err
returns-in-Err c =
    let a = c.args in
    let room : 70804 ≡ length a.text.now = search rules in
    let fits = short_fits a.sheet (lent a.library) c.display.ensures.most c.requires in
    let same = shown-refused a.sheet (lent a.library) a.text.now c.display.new.buffer c.in-Err.reason (λ e. omega (arith, fits e, room)) (rw (sym c.in-Err.is) c.display.ensures.shows) in
    rw same c.put_refused.ensures
