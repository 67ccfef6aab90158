-- `check_library` meets its contract: a law for each way out.
-- Assumes nothing.
use Rattle.std.proofs.Common.{sym, ◌∙◌, arith, ap}
use Rattle.basics.specs.Refusals.{success}
use Rattle.geometry.proofs.Axes.{three}
use Rattle.table.specs.Library.{space}
use Rattle.table.proofs.Libraries.{room-used}
use Rattle.rows.proofs.Check.{is-long, no_sheet, no_layout, walks, divided, most-containers}
use Rattle.rows.proofs.Walks.{on-axes}
use Rattle.rows.proofs.check_library.Goals as goal

pub returns-then-is_too_long : goal.returns-then-is_too_long
unfolding space
returns-then-is_too_long c = is-long c.args.sheet _ (sym c.is_too_long.ensures ∙ c.if-is_too_long.true)

pub returns-then-not-is_sheet : goal.returns-then-not-is_sheet
unfolding space
returns-then-not-is_sheet c = no_sheet c.args.sheet _ (sym c.is_too_long.ensures ∙ c.if-is_too_long.false) (sym c.is_sheet.ensures ∙ c.if-not-is_sheet.true)

pub returns-then-not-is_layout_sound : goal.returns-then-not-is_layout_sound
unfolding space
returns-then-not-is_layout_sound c =
    no_layout c.args.sheet _ (sym c.is_too_long.ensures ∙ c.if-is_too_long.false) (sym c.is_layout_sound.ensures ∙ c.if-not-is_layout_sound.true)

pub invariant_of-container_count : goal.invariant_of-container_count
invariant_of-container_count c = record { two_or_three = (divided c.args.sheet (sym c.is_sheet.ensures ∙ c.if-not-is_sheet.false)).axes }

pub container_count-count-requires : goal.container_count-count-requires
container_count-count-requires c = let d = divided c.args.sheet (sym c.is_sheet.ensures ∙ c.if-not-is_sheet.false) in record { divisions = d.divisions }

pub walk_rows-requires : goal.walk_rows-requires
walk_rows-requires c = record {
  few = omega (arith, most-containers c.args.sheet (divided c.args.sheet (sym c.is_sheet.ensures ∙ c.if-not-is_sheet.false)), c.container_count-count.ensures);
  room = room-used _ (sym c.is_layout_sound.ensures ∙ c.if-not-is_layout_sound.false);
}

pub walk_rows-requires-else-sheet-eq2 : goal.walk_rows-requires-else-sheet-eq2
walk_rows-requires-else-sheet-eq2 c = record {
  few = omega (arith, most-containers c.args.sheet (divided c.args.sheet (sym c.is_sheet.ensures ∙ c.if-not-is_sheet.false)), c.container_count-count.ensures);
  room = room-used _ (sym c.is_layout_sound.ensures ∙ c.if-not-is_layout_sound.false);
}

pub returns-then-sheet-eq2 : goal.returns-then-sheet-eq2
unfolding space
returns-then-sheet-eq2 c =
    walks c.args.sheet _ (sym c.is_too_long.ensures ∙ c.if-is_too_long.false) (sym c.is_sheet.ensures ∙ c.if-not-is_sheet.false) (sym c.is_layout_sound.ensures ∙ c.if-not-is_layout_sound.false)
    c.container_count-count.ensures (on-axes c.container_count-count.result _ c.if-sheet-eq2.true (ap success c.walk_rows.ensures))

pub returns-else-sheet-eq2 : goal.returns-else-sheet-eq2
unfolding space
returns-else-sheet-eq2 c =
    let d = divided c.args.sheet (sym c.is_sheet.ensures ∙ c.if-not-is_sheet.false) in
    walks c.args.sheet _ (sym c.is_too_long.ensures ∙ c.if-is_too_long.false) (sym c.is_sheet.ensures ∙ c.if-not-is_sheet.false) (sym c.is_layout_sound.ensures ∙ c.if-not-is_layout_sound.false)
    c.container_count-count.ensures (on-axes c.container_count-count.result _ (three c.args.sheet.ndim d.axes c.if-sheet-eq2.false) (ap success c.walk_rows-else-sheet-eq2.ensures))
