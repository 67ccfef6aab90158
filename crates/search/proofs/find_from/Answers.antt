-- `find_from` meets its contract.
-- Assumes nothing.
use Rattle.std.proofs.Common.{refl, sym, ◌∙◌}
use Rattle.windows.specs.Window.{told_by}
use Rattle.search.proofs.Walk.{beyond, look-start, look_stop, look_end, look-nearer, look-on}
use Rattle.search.proofs.find_from.Goals.{then-takes_place, else-takes_place}
use Rattle.search.proofs.find_from.Goals as goal

pub loop-i-init : goal.loop-i-init
unfolding told_by
loop-i-init c = look-start c.args.sheet _ c.requires.ordered c.args.key _ c.requires.inside c.args.from _ _ c.requires.first refl (λ e. c.square_above-least.ensures)

pub takes_place-requires : goal.takes_place-requires
unfolding told_by
takes_place-requires c = let l = c.loop-i in record { near = c.square_within-within.ensures; far = beyond c.args.sheet _ c.args.key _ l.i l.best l.least l.invariant }

pub loop-i-preserved : goal.loop-i-preserved
loop-i-preserved c =
    let l = c.loop-i in
    elim c.if-takes_place.branch [
      | then-takes_place w ↦
          rw (w.best-is, w.least-is)
          (look-nearer c.args.sheet _ c.requires.ordered c.args.key _ c.requires.inside l.i l.best l.least l.invariant c.loop-i-test.true c.if-library-i.false c.row-row.ensures
          c.point_square-square.ensures (sym c.takes_place.ensures ∙ w.if-takes_place.true))
      | else-takes_place w ↦
          rw (w.best-is, w.least-is)
          (look-on c.args.sheet _ c.requires.ordered c.args.key _ c.requires.inside l.i l.best l.least l.invariant c.loop-i-test.true c.if-library-i.false c.row-row.ensures
          c.point_square-square.ensures (sym c.takes_place.ensures ∙ w.if-takes_place.false))
    ]

pub returns-then-library-i : goal.returns-then-library-i
returns-then-library-i c = look_stop c.args.sheet _ c.requires.ordered c.args.key _ c.requires.inside c.loop-i.i c.loop-i.best c.loop-i.least c.loop-i.invariant c.loop-i-test.true c.if-library-i.true

pub returns-after-loop-i : goal.returns-after-loop-i
returns-after-loop-i c = look_end c.args.sheet _ c.requires.ordered c.args.key _ c.requires.inside c.loop-i.i c.loop-i.best c.loop-i.least c.loop-i.invariant c.loop-i-test.false
