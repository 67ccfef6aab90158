-- The first time the text is put into no buffer, and only its length is learnt; the second time it fits.
-- Assumes nothing.
use Rattle.std.proofs.Common.{◌≡◌, ◌≤◌, length, arith, rules, refl}
use Rattle.basics.specs.Lists.{over}
use Rattle.table.specs.Rows.{slots_of}
use Rattle.text.proofs.Laws.{put-over}
use Rattle.display.specs.Display.{slots_text}
use Rattle.display.proofs.Answers.{too_short, fits}
use Rattle.display.proofs.Bounds.{whole_room}
use Rattle.display.proofs.show.Goals as goal

pub put_all-requires : goal.put_all-requires
put_all-requires c =
    let a = c.args in
    omega (arith, c.new-measure.ensures.start, whole_room a.divisions.now a.keys.now a.ids.now c.type_inv.divisions c.type_inv.keys c.type_inv.ids c.requires.axes c.requires.few)

pub returns-then-measure-buffer : goal.returns-then-measure-buffer
returns-then-measure-buffer c =
    let a = c.args in
    let text = slots_text a.divisions.now (slots_of a.keys.now a.ids.now (length a.keys.now)) in
    record {
      shows = too_short text a.buffer.now _ (omega (arith, c.put_all.ensures.put.past, c.new-measure.ensures.start)) refl;
      most = whole_room a.divisions.now a.keys.now a.ids.now c.type_inv.divisions c.type_inv.keys c.type_inv.ids c.requires.axes c.requires.few;
    }

pub returns : goal.returns
returns c =
    let a = c.args in
    let text = slots_text a.divisions.now (slots_of a.keys.now a.ids.now (length a.keys.now)) in
    let room : length text ≤ length a.buffer.now = omega (arith, c.put_all.ensures.put.past, c.new-measure.ensures.start) in
    let put = rw (c.new-out.ensures.start, c.new-out.ensures.unchanged) at c.put_all-2.ensures.put in
    let stands : c.put_all-2.new.out.buffer.now ≡ over text a.buffer.now = put-over put room in
    record {
      shows = fits text a.buffer.now _ _ room (omega (arith, put.past)) (search rules);
      most = whole_room a.divisions.now a.keys.now a.ids.now c.type_inv.divisions c.type_inv.keys c.type_inv.ids c.requires.axes c.requires.few;
    }
